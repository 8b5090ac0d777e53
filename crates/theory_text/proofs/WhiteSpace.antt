-- A number stands in a list, or does not: from what it equals.
use mathlib.Core.Path.{◌≡◌, refl}
use mathlib.Core.Bool.{false}
use mathlib.Core.List.{List, [], ◌∷◌, ◌++◌}
use Prim.Native.Nat.{ℕ, ◌<◌}
use native.Mathlib.Omega.{arith}
use lib.Dec.{eqb}
use lib.ListN.{take, drop}
use borrow.Author.Tests.{ne_eqb, eqb-false}
use Rattle.theory_whole.proofs.Cases.{by_test, never}
use Rattle.theory_answers.proofs.Says.{says_true, says_false}
use Rattle.theory_lists.specs.Part.{Has}
use Rattle.theory_lists.specs.Search.{listed}
use Rattle.theory_lists.proofs.Listed.{says_listed}
use Rattle.theory_text.specs.WhiteSpace.{white_space}

-- none of the list is c
abbrev pub NoneOf : List ℕ → ℕ → Type 0
NoneOf [] c = Unit {0}
NoneOf (x ∷ xs) c = (c ≡ x → ⊥) × NoneOf xs c

pub not_one : (xs : List ℕ) (c : ℕ) → NoneOf xs c → Has c xs → ⊥
not_one xs c n = says_false (says_listed xs c) (not_listed xs n)
  where
    not_listed : (xs : List ℕ) → NoneOf xs c → listed xs c ≡ false
    not_listed [] n = refl
    not_listed (x ∷ xs) n = rw (ne_eqb c x n.0) (not_listed xs n.1)

-- what stands in the list, where it cannot be that none of the list is c
pub one_of : (xs : List ℕ) (c : ℕ) → (NoneOf xs c → ⊥) → Has c xs
one_of xs c f = by_test (listed xs c) (says_true (says_listed xs c)) (λ e. absurd (f (none xs e)))
  where
    none : (xs : List ℕ) → listed xs c ≡ false → NoneOf xs c
    none [] e = tt
    none (x ∷ xs) e =
        by_test (eqb c x) (λ t. never (rw t) e)
        (λ t. (eqb-false c x t, none xs (rw t at e)))

none_append : (xs ys : List ℕ) (c : ℕ) → NoneOf xs c → NoneOf ys c → NoneOf (xs ++ ys) c
none_append [] ys c n m = m
none_append (x ∷ xs) ys c n m = (n.0, none_append xs ys c n.1 m)

-- white space behind the run from 0x2000 on
pub not_white : (c : ℕ) → 0x200a < c → NoneOf (drop 20 white_space) c → Has c white_space → ⊥
not_white c l n = not_one white_space c (none_append (take 20 white_space) (drop 20 white_space) c (below c l) n)
  where
    below : (c : ℕ) → 0x200a < c → NoneOf (take 20 white_space) c
    below c l = omega arith
