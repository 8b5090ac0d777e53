-- What the comparisons of machine integers say of the whole numbers that they are.
use Rattle.std.specs.Prelude.{ℕ, ℤ, ◌≡◌, ◌<◌, ◌≤◌, Bool, true, false, cond, nat_lt, ◌==◌}
use Rattle.std.specs.Ordering.{nat_cmp, int_cmp, int_eq, is_lt, is_le}
use Rattle.std.specs.Int.Signed.{lt_z, le_z}
use Rattle.std.specs.declared.cmp.Ordering.TheVariants.{Less, Equal, Greater}
use Rattle.std.proofs.Common.{refl, sym}
use Rattle.theory_answers.specs.Says.{Says}
use Rattle.theory_answers.proofs.Tests.{says_equal, says_less}
use Rattle.theory_whole.specs.Order.{eq_z}
use Rattle.theory_whole.proofs.Cases.{by_test}
use Rattle.theory_whole.proofs.Halves.{by_halves, lt_yes, lt_no, is_le as at_most, not_le}
use Rattle.theory_whole.proofs.Orders.{is_equal_lem, not_equal}
use native.Mathlib.Omega.{arith}

pub natural_equal : (x y : ℕ) → Says (x == y) (x ≡ y)
natural_equal = says_equal

pub natural_less : (x y : ℕ) → Says (is_lt (nat_cmp x y)) (x < y)
natural_less x y = by (nat_lt x y) (x == y) (says_less x y)
  where
    by : (less same : Bool) → Says less (x < y) → Says (is_lt (cond less Less (cond same Equal Greater))) (x < y)
    by true same s = s
    by false true s = s
    by false false s = s

pub natural_at_most : (x y : ℕ) → Says (is_le (nat_cmp x y)) (x ≤ y)
natural_at_most x y = by (nat_lt x y) (x == y) (says_less x y) (says_equal x y)
  where
    by : (less same : Bool) → Says less (x < y) → Says same (x ≡ y) → Says (is_le (cond less Less (cond same Equal Greater))) (x ≤ y)
    by true same s e = omega arith
    by false true s e = omega arith
    by false false s e = λ h. s (strictly h e)
      where
        strictly : x ≤ y → (x ≡ y → ⊥) → x < y
        strictly h n = omega arith

-- ---- whole numbers

pub whole_equal : (x y : ℤ) → int_eq x y ≡ eq_z x y
whole_equal x y =
    by_test (lt_z x y)
    (λ e. let l = lt_yes x y e in rw e (sym (not_equal x y (λ s. omega arith))))
    (λ e. let l = lt_no x y e in
    by_test (lt_z y x)
    (λ f. let m = lt_yes y x f in rw (e, f) (sym (not_equal x y (λ s. omega arith))))
    (λ f. let m = lt_no y x f in rw (e, f) (sym (is_equal_lem x y (by_halves x y (omega arith))))))

pub whole_less : (x y : ℤ) → is_lt (int_cmp x y) ≡ lt_z x y
whole_less x y =
    by_test (lt_z x y)
    (λ e. rw e refl)
    (λ e. by_test (lt_z y x) (λ f. rw (e, f) refl) (λ f. rw (e, f) refl))

pub whole_at_most : (x y : ℤ) → is_le (int_cmp x y) ≡ le_z x y
whole_at_most x y =
    by_test (lt_z x y)
    (λ e. let l = lt_yes x y e in rw e (sym (at_most x y (omega arith))))
    (λ e. let l = lt_no x y e in
    by_test (lt_z y x)
    (λ f. let m = lt_yes y x f in rw (e, f) (sym (not_le x y (omega arith))))
    (λ f. let m = lt_no y x f in rw (e, f) (sym (at_most x y (omega arith)))))
