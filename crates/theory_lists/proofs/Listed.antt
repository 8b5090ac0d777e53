-- The test of `Has`: whether a number is one of a list.
use mathlib.Core.Path.{◌≡◌, sym}
use mathlib.Core.Bool.{true, ◌||◌}
use mathlib.Core.List.{List, [], ◌∷◌}
use mathlib.Core.Logic.{◌⊎◌, inl, inr, ⊎_elim}
use Prim.Native.Nat.{ℕ, zero, suc, ◌<◌}
use native.Mathlib.Omega.{arith}
use lib.Dec.{eqb}
use lib.ListN.{length, get_or}
use borrow.Author.Tests.{eqb-true, eq-eqb}
use Rattle.theory_answers.specs.Says.{Says}
use Rattle.theory_answers.proofs.Says.{says_alike}
use Rattle.theory_answers.proofs.Tests.{says_equal, says_either}
use Rattle.theory_lists.specs.Search.{listed}
use Rattle.theory_lists.specs.Part.{Has}

pub says_listed : (xs : List ℕ) (v : ℕ) → Says (listed xs v) (Has v xs)
says_listed [] v = λ h. omega (arith, h.before)
says_listed (x ∷ xs) v =
    says_alike (eqb v x || listed xs v)
    (λ p. ⊎_elim (λ e. record { place = 0; after = omega arith; before = omega arith; holds = eq-eqb x v (sym e) })
    (λ h. record { place = suc h.place; after = omega arith; before = omega (arith, h.before); holds = h.holds }) p)
    (λ h. first_or_later h.place h.before h.holds)
    (says_either (eqb v x) (listed xs v) (v ≡ x) (Has v xs) (says_equal v x) (says_listed xs v))
  where
    first_or_later : (k : ℕ) → k < length (x ∷ xs) → eqb (get_or (x ∷ xs) k 0) v ≡ true → (v ≡ x) ⊎ Has v xs
    first_or_later zero l e = inl (sym (eqb-true x v e))
    first_or_later (suc k) l e = inr (record { place = k; after = omega arith; before = omega arith; holds = e })
