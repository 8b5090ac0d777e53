-- `order` by its three cases, and the six tests that follow from it.
use mathlib.Core.Path.{◌≡◌, refl, sym, ap, ◌∙◌}
use mathlib.Core.Bool.{true, false, not}
use Prim.Native.Nat.{◌+◌}
use native.Mathlib.Omega.{arith}
use lib.IntN.{ℤ, pos, negsuc}
use lib.Signed.{le_z, lt_z}
use borrow.Author.Tests.{eqb-true, eq-eqb}
use Rattle.std.specs.declared.cmp.Ordering.{Ordering}
use Rattle.std.specs.declared.cmp.Ordering.TheVariants.{Less, Equal, Greater}
use Rattle.theory_whole.specs.Order.{order, eq_z, is_less, is_equal, is_greater}
use Rattle.theory_whole.proofs.Cases.{by_test, never, not_so}
use Rattle.theory_whole.proofs.Halves.{up, down, by_halves, same_halves, lt_yes, lt_no, not_lt, is_le, not_le}

pub equal_yes : (x y : ℤ) → eq_z x y ≡ true → x ≡ y
equal_yes (pos a) (pos b) e = ap pos (eqb-true a b e)
equal_yes (pos a) (negsuc b) e = never e refl
equal_yes (negsuc a) (pos b) e = never e refl
equal_yes (negsuc a) (negsuc b) e = ap negsuc (eqb-true a b e)

pub is_equal_lem : (x y : ℤ) → x ≡ y → eq_z x y ≡ true
is_equal_lem x y e = rw e (itself y)
  where
    itself : (z : ℤ) → eq_z z z ≡ true
    itself (pos n) = eq-eqb n n refl
    itself (negsuc n) = eq-eqb n n refl

pub not_equal : (x y : ℤ) → (up x + down y ≡ up y + down x → ⊥) → eq_z x y ≡ false
not_equal x y n = not_so (λ e. n (same_halves (equal_yes x y e)))

pub not_less_is : (x y : ℤ) → not (lt_z y x) ≡ le_z x y
not_less_is x y =
    by_test (lt_z y x)
    (λ e. let l = lt_yes y x e in rw (e, not_le x y (omega arith)))
    (λ e. let l = lt_no y x e in rw (e, is_le x y (omega arith)))

module _ (x y : ℤ) where
  pub order_less : lt_z x y ≡ true → order x y ≡ Less
  unfolding order
  order_less e = rw e

  pub order_greater : lt_z y x ≡ true → order x y ≡ Greater
  unfolding order
  order_greater e = let l = lt_yes y x e in rw (not_lt x y (omega arith), e)

  pub order_equal : x ≡ y → order x y ≡ Equal
  unfolding order
  order_equal e = rw (not_lt x y (rw e (omega arith)), not_lt y x (rw e (omega arith)))

  pub order_neither : lt_z x y ≡ false → lt_z y x ≡ false → order x y ≡ Equal
  order_neither a b = let l = lt_no x y a in let m = lt_no y x b in order_equal (by_halves x y (omega arith))

  -- what the three tests of an answer are
  pub record Ordered (o : Ordering) : Type 0 where
    pub less : is_less o ≡ lt_z x y
    pub equal : is_equal o ≡ eq_z x y
    pub greater : is_greater o ≡ lt_z y x

  pub ordered : Ordered (order x y)
  ordered =
      by_test (lt_z x y)
      (λ a. let l = lt_yes x y a in
      rw (order_less a) (record { less = sym a; equal = sym (not_equal x y (λ e. omega arith)); greater = sym (not_lt y x (omega arith)) }))
      (λ a. by_test (lt_z y x)
      (λ b. let l = lt_yes y x b in
      rw (order_greater b) (record { less = sym a; equal = sym (not_equal x y (λ e. omega arith)); greater = sym b }))
      (λ b. let l = lt_no x y a in
      let m = lt_no y x b in
      let e : x ≡ y = by_halves x y (omega arith) in
      rw (order_equal e) (record { less = sym a; equal = sym (is_equal_lem x y e); greater = sym b })))

  pub equal_is : is_equal (order x y) ≡ eq_z x y
  equal_is = ordered.equal

  pub less_is : is_less (order x y) ≡ lt_z x y
  less_is = ordered.less

  pub greater_is : is_greater (order x y) ≡ lt_z y x
  greater_is = ordered.greater

  pub at_most_is : not (is_greater (order x y)) ≡ le_z x y
  at_most_is = ap not greater_is ∙ not_less_is x y

  pub at_least_is : not (is_less (order x y)) ≡ le_z y x
  at_least_is = ap not less_is ∙ not_less_is y x
