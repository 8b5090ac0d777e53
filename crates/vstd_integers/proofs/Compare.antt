-- Our comparisons are vstd's promises, for both signs; and what it is for a promise to be pinned: two answers that both keep it are equal.
use mathlib.Core.Path.{◌≡◌, refl, ap, ◌∙◌}
use mathlib.Core.Bool.{not, ◌||◌}
use lib.IntN.{ℤ}
use Rattle.std.specs.declared.cmp.Ordering.{Ordering}
use Rattle.std.specs.declared.cmp.Ordering.TheVariants.{Less, Equal, Greater}
use Rattle.theory_whole.specs.Order.{order, is_less, is_equal, is_greater}
use Rattle.theory_whole.proofs.Orders.{equal_is}
use Rattle.vstd_integers.specs.Compare.{clone, eq, ne, cmp, lt, le, gt, ge}

module _ (x y : ℤ) where
  pub cmp_kept : order x y ≡ cmp x y
  unfolding order cmp
  cmp_kept = refl

  pub eq_kept : is_equal (order x y) ≡ eq x y
  unfolding eq
  eq_kept = equal_is x y

  pub ne_kept : not (is_equal (order x y)) ≡ ne x y
  unfolding ne
  ne_kept = ap not (equal_is x y)

  pub lt_kept : is_less (order x y) ≡ lt x y
  unfolding order cmp lt
  lt_kept = refl

  pub gt_kept : is_greater (order x y) ≡ gt x y
  unfolding order cmp gt
  gt_kept = refl

  pub le_kept : not (is_greater (order x y)) ≡ le x y
  unfolding le
  le_kept = to (order x y) ∙ rw cmp_kept
    where
      to : (o : Ordering) → not (is_greater o) ≡ is_less o || is_equal o
      to Less = refl
      to Equal = refl
      to Greater = refl

  pub ge_kept : not (is_less (order x y)) ≡ ge x y
  unfolding ge
  ge_kept = to (order x y) ∙ rw cmp_kept
    where
      to : (o : Ordering) → not (is_less o) ≡ is_greater o || is_equal o
      to Less = refl
      to Equal = refl
      to Greater = refl

pub clone_kept : (x : ℤ) → x ≡ clone x
unfolding clone
clone_kept x = refl
