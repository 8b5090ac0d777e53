-- Our definitions are vstd's promises, for unsigned integers of any width: a and b are below 2 ^ w, y is a signed number of w bits.
use mathlib.Core.Path.{◌≡◌, sym}
use mathlib.Core.Bool.{not, cond}
use Prim.Native.Nat.{ℕ, ◌+◌, ◌-◌, ◌*◌, ◌/◌, ◌%◌, ◌^◌, ◌<◌}
use native.Mathlib.Nat.{div-le_self, lt_of_le_of_lt, mod-lt, mod-zero}
use native.Mathlib.Omega.{arith}
use lib.Dec.{eqb}
use lib.IntN.{ℤ, pos, ◌+ℤ◌, ◌-ℤ◌, ◌*ℤ◌}
use lib.Signed.{quot_z, rem_z}
use borrow.Author.Tests.{eqb-true, eqb-false}
use Rattle.theory_whole.specs.Kind.{unsigned, signed}
use Rattle.theory_whole.specs.Division.{◌modulo◌, ediv, emod}
use Rattle.theory_whole.specs.Order.{eq_z}
use Rattle.theory_answers.specs.Answer.{only_if}
use Rattle.std.specs.Prelude.{Some, None}
use Rattle.theory_whole.specs.Fit.{wrap, clamp, refuse, divided}
use Rattle.theory_whole.specs.Multiple.{is_multiple, next_multiple}
use Rattle.theory_whole.specs.Order.{eq_z}
use Rattle.theory_whole.proofs.Cases.{by_test}
use Rattle.theory_whole.proofs.Halves.{sum, difference}
use Rattle.theory_whole.proofs.Fits.{In, real_unsigned, in_fits}
use Rattle.theory_whole.proofs.Refuse.{divided_by_zero, divided_so}
use Rattle.theory_whole.proofs.Unsigned.{in_unsigned, wraps_modulo, wraps_quotient, difference_is}
use Rattle.vstd_integers.specs.Unsigned.{wrapping_add, wrapping_add_signed, wrapping_sub, wrapping_mul, wrapping_shl, wrapping_shr, next_multiple_of}
use Rattle.vstd_integers.specs.Unsigned.{checked_add, checked_add_signed, checked_sub, checked_mul, checked_next_multiple_of, checked_div, checked_rem}
use Rattle.vstd_integers.specs.Unsigned.{saturating_add, saturating_sub, saturating_mul, is_multiple_of}
use Rattle.vstd_integers.proofs.Bounds.{refuse_by_bounds, refuse_by_max, refuse_by_min, clamp_by_max, clamp_by_min, wrap_by_bounds, wrap_by_max}
use Rattle.vstd_integers.proofs.Bounds.{wrap_by_min}

module _ (w : ℕ) {a b : ℕ} (i : a < 2 ^ w) (j : b < 2 ^ w) where
  pub wrapping_add_kept : wrap (unsigned w) (pos a +ℤ pos b) ≡ wrapping_add w (pos a) (pos b)
  unfolding wrapping_add
  wrapping_add_kept = wrap_by_max (real_unsigned w) (pos (a + b)) (omega arith) (omega arith) (omega arith)

  pub wrapping_sub_kept : wrap (unsigned w) (pos a -ℤ pos b) ≡ wrapping_sub w (pos a) (pos b)
  unfolding wrapping_sub
  wrapping_sub_kept =
      let d = difference (pos a) (pos b) in wrap_by_min (real_unsigned w) (pos a -ℤ pos b) (omega arith) (omega arith) (omega arith)

  pub wrapping_mul_kept : wrap (unsigned w) (pos a *ℤ pos b) ≡ wrapping_mul w (pos a) (pos b)
  unfolding wrapping_mul
  wrapping_mul_kept = sym (wraps_modulo w (pos (a * b)))

  pub checked_add_kept : refuse (unsigned w) (pos a +ℤ pos b) ≡ checked_add w (pos a) (pos b)
  unfolding checked_add
  checked_add_kept = refuse_by_max (real_unsigned w) (pos (a + b)) (omega arith)

  pub checked_sub_kept : refuse (unsigned w) (pos a -ℤ pos b) ≡ checked_sub w (pos a) (pos b)
  unfolding checked_sub
  checked_sub_kept = let d = difference (pos a) (pos b) in refuse_by_min (real_unsigned w) (pos a -ℤ pos b) (omega arith)

  pub checked_mul_kept : refuse (unsigned w) (pos a *ℤ pos b) ≡ checked_mul w (pos a) (pos b)
  unfolding checked_mul
  checked_mul_kept = refuse_by_max (real_unsigned w) (pos (a * b)) (omega arith)

  divided_kept : (v : ℤ) → divided (unsigned w) (pos b) (pos (a / b)) v ≡ cond (eq_z (pos b) (pos 0)) None (Some v)
  divided_kept v =
      by_test (eqb b 0)
      (λ e. rw e (divided_by_zero (unsigned w) (pos b) (pos (a / b)) v e))
      (λ e. rw e (divided_so (unsigned w) (pos b) (pos (a / b)) v e (in_fits (real_unsigned w) (pos (a / b)) (in_unsigned w (lt_of_le_of_lt (div-le_self a b) i)))))

  pub checked_div_kept : divided (unsigned w) (pos b) (quot_z (pos a) (pos b)) (quot_z (pos a) (pos b)) ≡ checked_div w (pos a) (pos b)
  unfolding checked_div ediv
  checked_div_kept = divided_kept (pos (a / b))

  pub checked_div_euclid_kept : divided (unsigned w) (pos b) (ediv (pos a) (pos b)) (ediv (pos a) (pos b)) ≡ checked_div w (pos a) (pos b)
  unfolding checked_div ediv
  checked_div_euclid_kept = divided_kept (pos (a / b))

  pub checked_rem_kept : divided (unsigned w) (pos b) (quot_z (pos a) (pos b)) (rem_z (pos a) (pos b)) ≡ checked_rem w (pos a) (pos b)
  unfolding checked_rem ◌modulo◌
  checked_rem_kept = divided_kept (pos (a % b))

  pub checked_rem_euclid_kept : divided (unsigned w) (pos b) (ediv (pos a) (pos b)) (emod (pos a) (pos b)) ≡ checked_rem w (pos a) (pos b)
  unfolding checked_rem ediv ◌modulo◌
  checked_rem_euclid_kept = divided_kept (pos (a % b))

  pub saturating_add_kept : clamp (unsigned w) (pos a +ℤ pos b) ≡ saturating_add w (pos a) (pos b)
  unfolding saturating_add
  saturating_add_kept = clamp_by_max (real_unsigned w) (pos (a + b)) (omega arith)

  pub saturating_sub_kept : clamp (unsigned w) (pos a -ℤ pos b) ≡ saturating_sub w (pos a) (pos b)
  unfolding saturating_sub
  saturating_sub_kept = let d = difference (pos a) (pos b) in clamp_by_min (real_unsigned w) (pos a -ℤ pos b) (omega arith)

  pub saturating_mul_kept : clamp (unsigned w) (pos a *ℤ pos b) ≡ saturating_mul w (pos a) (pos b)
  unfolding saturating_mul
  saturating_mul_kept = clamp_by_max (real_unsigned w) (pos (a * b)) (omega arith)

-- a number and a signed one, less than the size in magnitude
module _ (w : ℕ) {a : ℕ} {y : ℤ} (i : a < 2 ^ w) (j : In (signed w) y) where
  pub wrapping_add_signed_kept : wrap (unsigned w) (pos a +ℤ y) ≡ wrapping_add_signed w (pos a) y
  unfolding wrapping_add_signed
  wrapping_add_signed_kept =
      let s = sum (pos a) y in
      wrap_by_bounds (real_unsigned w) (pos a +ℤ y) (omega arith) (omega arith)

  pub checked_add_signed_kept : refuse (unsigned w) (pos a +ℤ y) ≡ checked_add_signed w (pos a) y
  unfolding checked_add_signed
  checked_add_signed_kept = refuse_by_bounds (real_unsigned w) (pos a +ℤ y)

-- a number and a distance
module _ (w : ℕ) {a : ℕ} (i : a < 2 ^ w) (distance : ℕ) where
  pub wrapping_shl_kept : wrap (unsigned w) (pos a *ℤ pos (2 ^ (distance % w))) ≡ wrapping_shl w (pos a) distance
  unfolding wrapping_shl
  wrapping_shl_kept = sym (wraps_modulo w (pos (a * 2 ^ (distance % w))))

  pub wrapping_shr_kept : wrap (unsigned w) (ediv (pos a) (pos (2 ^ (distance % w)))) ≡ wrapping_shr w (pos a) distance
  unfolding wrapping_shr ediv
  wrapping_shr_kept = sym (wraps_quotient w (2 ^ (distance % w)) i)

-- ---- multiples
module _ (a b : ℕ) where
  pub is_multiple_of_kept : is_multiple a b ≡ is_multiple_of (pos a) (pos b)
  unfolding is_multiple is_multiple_of ◌modulo◌
  is_multiple_of_kept = by_test (eqb b 0) (λ e. rw (e, eqb-true b 0 e, mod-zero a)) (λ e. rw e)

  pub next_multiple_of_kept : 0 < b → pos (next_multiple a b) ≡ next_multiple_of (pos a) (pos b)
  unfolding next_multiple is_multiple next_multiple_of ◌modulo◌
  next_multiple_of_kept h =
      let l : a % b < b = mod-lt a h in
      by_test (eqb (a % b) 0)
      (λ e. rw e)
      (λ e. let d : pos (b - a % b) ≡ pos b -ℤ pos (a % b) = difference_is (omega arith) in rw (e, ← d))

pub checked_next_multiple_of_kept : (w : ℕ) {a b : ℕ} → a < 2 ^ w → b < 2 ^ w
    → only_if (not (eq_z (pos b) (pos 0))) (refuse (unsigned w) (pos (next_multiple a b))) ≡ checked_next_multiple_of w (pos a) (pos b)
unfolding checked_next_multiple_of only_if
checked_next_multiple_of_kept w {a} {b} i j =
    by_test (eqb b 0)
    (λ e. rw e)
    (λ e. let n = eqb-false b 0 e in rw (e, ← next_multiple_of_kept a b (omega arith)) (refuse_by_max (real_unsigned w) (pos (next_multiple a b)) (omega arith)))
