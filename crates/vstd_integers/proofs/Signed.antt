-- Our definitions are vstd's promises, for signed integers of any width w > 0: x and y are of w bits, b is below 2 ^ w.
use mathlib.Core.Path.{◌≡◌, refl, sym, ap, ◌∙◌}
use mathlib.Core.Bool.{Bool, true, false, not, ◌&&◌, ◌||◌, cond}
use Prim.Native.Nat.{ℕ, ◌/◌, ◌%◌, ◌^◌, ◌<◌}
use native.Mathlib.Nat.{div-le_self}
use native.Mathlib.Omega.{arith}
use lib.Pow.{pow_pos}
use lib.IntN.{ℤ, pos, negsuc, ◌+ℤ◌, ◌-ℤ◌, ◌*ℤ◌}
use lib.Signed.{lt_z, quot_z, rem_z}
use Rattle.theory_whole.specs.Kind.{signed, least, greatest}
use Rattle.theory_whole.specs.Division.{◌modulo◌, ediv, emod}
use Rattle.theory_whole.specs.Order.{eq_z}
use Rattle.theory_answers.specs.Answer.{only_if}
use Rattle.std.specs.Prelude.{Some, None}
use Rattle.theory_whole.specs.Fit.{fits, wrap, refuse, divided}
use Rattle.theory_whole.specs.Order.{eq_z}
use Rattle.theory_whole.proofs.Cases.{by_test, never}
use Rattle.theory_whole.proofs.Halves.{down, by_halves, up_neg, down_neg, sum, difference}
use Rattle.theory_whole.proofs.Alike.{alike_turned, alike_once, alike_then, modulo_below, modulo_alike}
use Rattle.theory_whole.proofs.Fits.{In, real_signed, in_fits, out_not_fits}
use Rattle.theory_whole.proofs.Wrap.{wrap_is, wrap_same}
use Rattle.theory_whole.proofs.Orders.{equal_yes, is_equal_lem}
use Rattle.theory_whole.proofs.Quotients.{two_halves, quotients_in, quotients_alike, minus_one_in, least_by_minus_one}
use Rattle.vstd_integers.specs.Signed.{wrapping_add, wrapping_add_unsigned, wrapping_sub, signed_crop, wrapping_mul, wrapping_shl, wrapping_shr}
use Rattle.vstd_integers.specs.Signed.{checked_add, checked_add_unsigned, checked_sub, checked_sub_unsigned, checked_mul, divided_unless, checked_div}
use Rattle.vstd_integers.specs.Signed.{checked_div_euclid, checked_rem, checked_rem_euclid}
use Rattle.vstd_integers.proofs.Bounds.{above_max, at_most_max, refuse_by_bounds, refuse_by_max, refuse_by_min, wrap_by_bounds, wrap_by_max}

module _ (w : ℕ) (some : 0 < w) where
  pub crop_kept : (z : ℤ) → wrap (signed w) z ≡ signed_crop w z
  unfolding signed_crop
  crop_kept z =
      let p = pow_pos w in
      let m : ℕ = z modulo 2 ^ w in
      let b : (z modulo 2 ^ w) < 2 ^ w = modulo_below p z in
      let a = modulo_alike p z in
      let h = two_halves w some in
      by_test (lt_z (greatest (signed w)) (pos m))
      (λ t. let l = above_max (real_signed w) (pos m) t in
      let q : ℤ = pos m -ℤ pos (2 ^ w) in
      let d = difference (pos m) (pos (2 ^ w)) in
      rw t
      (sym (wrap_is (real_signed w) z q (record { above = omega arith; below = omega arith })
      (alike_then p (alike_turned (alike_once (pos m) q (omega arith))) a))))
      (λ t. let l = at_most_max (real_signed w) (pos m) t in
      rw t (sym (wrap_is (real_signed w) z (pos m) (record { above = omega arith; below = omega arith }) a)))

  module _ {x y : ℤ} (i : In (signed w) x) (j : In (signed w) y) where
    pub wrapping_add_kept : wrap (signed w) (x +ℤ y) ≡ wrapping_add w x y
    unfolding wrapping_add
    wrapping_add_kept =
        let s = sum x y in
        let h = two_halves w some in
        wrap_by_bounds (real_signed w) (x +ℤ y) (omega arith) (omega arith)

    pub wrapping_sub_kept : wrap (signed w) (x -ℤ y) ≡ wrapping_sub w x y
    unfolding wrapping_sub
    wrapping_sub_kept =
        let s = difference x y in
        let h = two_halves w some in
        wrap_by_bounds (real_signed w) (x -ℤ y) (omega arith) (omega arith)

    pub wrapping_mul_kept : wrap (signed w) (x *ℤ y) ≡ wrapping_mul w x y
    unfolding wrapping_mul
    wrapping_mul_kept = crop_kept (x *ℤ y)

    pub checked_add_kept : refuse (signed w) (x +ℤ y) ≡ checked_add w x y
    unfolding checked_add
    checked_add_kept = refuse_by_bounds (real_signed w) (x +ℤ y)

    pub checked_sub_kept : refuse (signed w) (x -ℤ y) ≡ checked_sub w x y
    unfolding checked_sub
    checked_sub_kept = refuse_by_bounds (real_signed w) (x -ℤ y)

    pub checked_mul_kept : refuse (signed w) (x *ℤ y) ≡ checked_mul w x y
    unfolding checked_mul
    checked_mul_kept = refuse_by_bounds (real_signed w) (x *ℤ y)

  -- a number and an unsigned one
  module _ {x : ℤ} {b : ℕ} (i : In (signed w) x) (j : b < 2 ^ w) where
    pub wrapping_add_unsigned_kept : wrap (signed w) (x +ℤ pos b) ≡ wrapping_add_unsigned w x (pos b)
    unfolding wrapping_add_unsigned
    wrapping_add_unsigned_kept =
        let s = sum x (pos b) in
        let h = two_halves w some in
        wrap_by_max (real_signed w) (x +ℤ pos b) (omega arith) (omega arith) (omega arith)

    pub checked_add_unsigned_kept : refuse (signed w) (x +ℤ pos b) ≡ checked_add_unsigned w x (pos b)
    unfolding checked_add_unsigned
    checked_add_unsigned_kept = let s = sum x (pos b) in refuse_by_max (real_signed w) (x +ℤ pos b) (omega arith)

    pub checked_sub_unsigned_kept : refuse (signed w) (x -ℤ pos b) ≡ checked_sub_unsigned w x (pos b)
    unfolding checked_sub_unsigned
    checked_sub_unsigned_kept = let s = difference x (pos b) in refuse_by_min (real_signed w) (x -ℤ pos b) (omega arith)

  -- a number and a distance
  module _ {x : ℤ} (i : In (signed w) x) (distance : ℕ) where
    pub wrapping_shl_kept : wrap (signed w) (x *ℤ pos (2 ^ (distance % w))) ≡ wrapping_shl w x distance
    unfolding wrapping_shl
    wrapping_shl_kept = crop_kept (x *ℤ pos (2 ^ (distance % w)))

    pub wrapping_shr_kept : wrap (signed w) (ediv x (pos (2 ^ (distance % w)))) ≡ wrapping_shr w x distance
    unfolding wrapping_shr ediv
    wrapping_shr_kept = to x i (2 ^ (distance % w))
      where
        to : (x : ℤ) → In (signed w) x → (m : ℕ) → wrap (signed w) (ediv x (pos m)) ≡ ediv x (pos m)
        to (pos a) i m = let l = div-le_self a m in sym (wrap_same (real_signed w) (pos (a / m)) (record { above = omega arith; below = omega (arith, i.below) }))
        to (negsuc a) i m = let l = div-le_self a m in sym (wrap_same (real_signed w) (negsuc (a / m)) (record { above = omega (arith, i.above); below = omega (arith, pow_pos w) }))

  -- ---- divisions: refused exactly for divisor 0, and for MIN by -1
  zero_is : (y : ℤ) → eq_z y (pos 0) ≡ eq_z y (pos 0)
  zero_is (pos a) = refl
  zero_is (negsuc a) = refl

  least_down : down (least (signed w)) ≡ 2 ^ w / 2
  least_down = down_neg (pos (2 ^ w / 2))

  module _ {x y : ℤ} (i : In (signed w) x) (j : In (signed w) y) where
    quotient_fits : fits (signed w) (quot_z x y) ≡ not (eq_z x (least (signed w)) && eq_z y (negsuc 0))
    quotient_fits =
        by_test (eq_z y (negsuc 0))
        (λ e. let minus : y ≡ negsuc 0 = equal_yes y (negsuc 0) e in
        by_test (eq_z x (least (signed w)))
        (λ l. let d : down x ≡ 2 ^ w / 2 = ap down (equal_yes x (least (signed w)) l) ∙ least_down in
        rw (e, l, minus, out_not_fits (real_signed w) (quot_z x (negsuc 0)) (least_by_minus_one w some x d)))
        (λ l. rw (e, l, minus, in_fits (real_signed w) (quot_z x (negsuc 0)) (minus_one_in w some i (λ d. not_least x i d l)))))
        (λ e. rw (e, in_fits (real_signed w) (quot_z x y) (quotients_in w some i j (λ m. never (is_equal_lem y (negsuc 0) m) e)).0) (sym (ap not (and_false (eq_z x (least (signed w)))))))
      where
        and_false : (s : Bool) → s && false ≡ false
        and_false true = refl
        and_false false = refl

        not_least : (x : ℤ) → In (signed w) x → down x ≡ 2 ^ w / 2 → eq_z x (least (signed w)) ≡ false → ⊥
        not_least (pos n) i d l = omega (arith, two_halves w some, pow_pos w)
        not_least (negsuc n) i d l =
            let u = up_neg (pos (2 ^ w / 2)) in
            let d' = least_down in
            never (is_equal_lem (negsuc n) (least (signed w)) (by_halves (negsuc n) (least (signed w)) (omega arith))) l

    divided_kept : (q v : ℤ) → fits (signed w) q ≡ fits (signed w) (quot_z x y) → divided (signed w) y q v ≡ divided_unless w x y v
    unfolding divided only_if divided_unless
    divided_kept q v e = rw (e, quotient_fits, zero_is y) (turned (eq_z y (pos 0)) (eq_z x (least (signed w)) && eq_z y (negsuc 0)))
      where
        turned : (s t : Bool) → cond (not s && not t) (Some v) None ≡ cond (s || t) None (Some v)
        turned true t = refl
        turned false true = refl
        turned false false = refl

    pub checked_div_kept : divided (signed w) y (quot_z x y) (quot_z x y) ≡ checked_div w x y
    checked_div_kept = divided_kept (quot_z x y) (quot_z x y) refl

    pub checked_rem_kept : divided (signed w) y (quot_z x y) (rem_z x y) ≡ checked_rem w x y
    checked_rem_kept = divided_kept (quot_z x y) (rem_z x y) refl

    pub checked_div_euclid_kept : divided (signed w) y (ediv x y) (ediv x y) ≡ checked_div_euclid w x y
    checked_div_euclid_kept = divided_kept (ediv x y) (ediv x y) (quotients_alike w some x y i j)

    pub checked_rem_euclid_kept : divided (signed w) y (ediv x y) (emod x y) ≡ checked_rem_euclid w x y
    checked_rem_euclid_kept = divided_kept (ediv x y) (emod x y) (quotients_alike w some x y i j)
