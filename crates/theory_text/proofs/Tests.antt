-- A definition by tests is a ladder of `cond`: to show P of it, show P of each arm from what its test tells.
use mathlib.Core.Path.{◌≡◌, refl}
use mathlib.Core.Bool.{Bool, true, false, cond}
use Prim.Native.Nat.{ℕ, ◌<◌, ◌≤◌}
use lib.Dec.{ltb, leb}
use borrow.Author.Tests.{ltb-true, ltb-false, leb-true, leb-false}
use Rattle.theory_whole.proofs.Cases.{by_test, never}
use Rattle.theory_lists.specs.Bounds.{between}
use Rattle.theory_lists.proofs.Between.{is_between, bounds_of}

module _ {A : Type 0} (P : A → Type 0) where
  pub by_cond : (t : Bool) {x y : A} → (t ≡ true → P x) → (t ≡ false → P y) → P (cond t x y)
  by_cond true f g = f refl
  by_cond false f g = g refl

  module _ (m n : ℕ) {x y : A} where
    pub by_ltb : (m < n → P x) → (n ≤ m → P y) → P (cond (ltb m n) x y)
    by_ltb f g = by_cond (ltb m n) (λ e. f (ltb-true m n e)) (λ e. g (ltb-false m n e))

-- where the byte is known to be no smaller
module _ (l h b : ℕ) where
  pub by_high : {A : Type 0} (P : A → Type 0) {x y : A} → l ≤ b → (b ≤ h → P x) → (h < b → P y) → P (cond (between l h b) x y)
  by_high P p f g =
      by_cond P (between l h b) (λ e. f (bounds_of l h b e).1)
      (λ e. by_test (leb b h) (λ q. never (is_between l h b p (leb-true b h q)) e) (λ q. g (leb-false b h q)))
