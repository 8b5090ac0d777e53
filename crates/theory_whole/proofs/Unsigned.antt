-- Unsigned kinds, whose numbers are the naturals below 2 ^ w: what unsigned functions cite, over any width.
use mathlib.Core.Path.{◌≡◌, refl, sym, ◌∙◌}
use mathlib.Core.Bool.{Bool, true, false, not}
use Prim.Native.Nat.{ℕ, ◌+◌, ◌-◌, ◌/◌, ◌%◌, ◌^◌, ◌≤◌, ◌<◌}
use native.Mathlib.Nat.{div-le_self, lt_of_le_of_lt}
use native.Mathlib.Omega.{arith}
use lib.Pow.{pow_pos}
use lib.IntN.{ℤ, pos, ◌-ℤ◌}
use borrow.Author.Tests.{eq-eqb, ne_eqb}
use Rattle.theory_whole.specs.Kind.{unsigned}
use Rattle.theory_whole.specs.Division.{◌modulo◌, ediv}
use Rattle.theory_whole.specs.Order.{eq_z}
use Rattle.theory_answers.specs.Answer.{only_if, Answers}
use Rattle.std.specs.Prelude.{Option, Some, None}
use Rattle.std.specs.Option.{option_map, unwrap_or}
use Rattle.theory_whole.specs.Fit.{wrap, clamp, refuse, divided}
use Rattle.theory_whole.proofs.Halves.{up, down, by_halves, difference}
use Rattle.theory_whole.proofs.Alike.{modulo_below, modulo_alike}
use Rattle.theory_whole.proofs.Fits.{In, Out, under, over, real_unsigned, in_fits}
use Rattle.theory_whole.proofs.Wrap.{wrap_is, wrap_same, wrap_over, wrap_under}
use Rattle.theory_answers.proofs.Answer.{answer, refusal, only_if_so, only_if_not}
use Rattle.theory_whole.proofs.Refuse.{accepts, refuses, accepted, declined, divided_so, divided_by_zero}
use Rattle.theory_whole.proofs.Clamp.{clamp_in, clamp_over, clamp_under}

pub difference_is : {a b : ℕ} → b ≤ a → pos (a - b) ≡ pos a -ℤ pos b
difference_is {a} {b} h = let d = difference (pos a) (pos b) in by_halves (pos (a - b)) (pos a -ℤ pos b) (omega arith)

pub is_zero : (b : ℕ) → b ≡ 0 → eq_z (pos b) (pos 0) ≡ true
is_zero b e = eq-eqb b 0 e

pub not_zero : (b : ℕ) → (b ≡ 0 → ⊥) → eq_z (pos b) (pos 0) ≡ false
not_zero b n = ne_eqb b 0 n

pub positive : (b : ℕ) → (b ≡ 0 → ⊥) → 0 < b
positive b n = omega arith

module _ (w : ℕ) where
  pub in_unsigned : {n : ℕ} → n < 2 ^ w → In (unsigned w) (pos n)
  in_unsigned h = record { above = omega arith; below = omega arith }

  pub unsigned_below : {n : ℕ} → In (unsigned w) (pos n) → n < 2 ^ w
  unsigned_below i = let b = i.below in omega arith

  negative_out : {a b : ℕ} → a < b → Out (unsigned w) (pos a -ℤ pos b)
  negative_out {a} {b} h = let d = difference (pos a) (pos b) in under (omega arith)

  -- ---- wrap: z itself, z less the size, z and the size, the remainder
  module _ (z : ℤ) (r : ℕ) (h : r < 2 ^ w) where
    pub wraps_same : up z ≡ r + down z → pos r ≡ wrap (unsigned w) z
    wraps_same e = let s : pos r ≡ z = by_halves (pos r) z (omega arith) in rw (← s) (wrap_same (real_unsigned w) (pos r) (in_unsigned h))

    pub wraps_over : up z ≡ r + down z + 2 ^ w → pos r ≡ wrap (unsigned w) z
    wraps_over e = wrap_over (real_unsigned w) z (pos r) (in_unsigned h) (omega arith)

    pub wraps_under : up z + 2 ^ w ≡ r + down z → pos r ≡ wrap (unsigned w) z
    wraps_under e = wrap_under (real_unsigned w) z (pos r) (in_unsigned h) (omega arith)

  pub wraps_modulo : (z : ℤ) → pos (z modulo 2 ^ w) ≡ wrap (unsigned w) z
  wraps_modulo z = wrap_is (real_unsigned w) z (pos (z modulo 2 ^ w)) (in_unsigned (modulo_below (pow_pos w) z)) (modulo_alike (pow_pos w) z)

  pub wraps_remainder : (n : ℕ) → pos (n % 2 ^ w) ≡ wrap (unsigned w) (pos n)
  unfolding ◌modulo◌
  wraps_remainder n = wraps_modulo (pos n)

  pub wraps_quotient : {a : ℕ} (m : ℕ) → a < 2 ^ w → pos (a / m) ≡ wrap (unsigned w) (ediv (pos a) (pos m))
  unfolding ediv
  wraps_quotient {a} m h = wrap_same (real_unsigned w) (pos (a / m)) (in_unsigned (lt_of_le_of_lt (div-le_self a m) h))

  -- ---- refuse
  pub natural_fits : {n : ℕ} → n < 2 ^ w → Answers true (pos n) (refuse (unsigned w) (pos n))
  natural_fits {n} h = accepts (real_unsigned w) (pos n) (pos n) (in_unsigned h) refl

  pub natural_over : {n : ℕ} → 2 ^ w ≤ n → Answers false (pos 0) (refuse (unsigned w) (pos n))
  natural_over {n} h = refuses (real_unsigned w) (pos n) (over (omega arith))

  pub difference_fits : {a b : ℕ} → a < 2 ^ w → b ≤ a → Answers true (pos (a - b)) (refuse (unsigned w) (pos a -ℤ pos b))
  difference_fits {a} {b} h l = rw (← difference_is l) (natural_fits (omega arith))

  pub difference_under : {a b : ℕ} → a < b → Answers false (pos 0) (refuse (unsigned w) (pos a -ℤ pos b))
  difference_under {a} {b} l = refuses (real_unsigned w) (pos a -ℤ pos b) (negative_out l)

  -- ---- clamp
  pub clamps_same : {n : ℕ} → n < 2 ^ w → pos n ≡ clamp (unsigned w) (pos n)
  clamps_same {n} h = sym (clamp_in (real_unsigned w) (pos n) (in_unsigned h))

  pub clamps_over : {n : ℕ} → 2 ^ w ≤ n → pos (2 ^ w - 1) ≡ clamp (unsigned w) (pos n)
  clamps_over {n} h = sym (clamp_over (real_unsigned w) (pos n) (omega arith))

  pub clamps_difference : {a b : ℕ} → a < 2 ^ w → b ≤ a → pos (a - b) ≡ clamp (unsigned w) (pos a -ℤ pos b)
  clamps_difference {a} {b} h l = rw (← difference_is l) (clamps_same (omega arith))

  pub clamps_under : {a b : ℕ} → a < b → pos 0 ≡ clamp (unsigned w) (pos a -ℤ pos b)
  clamps_under {a} {b} l = let d = difference (pos a) (pos b) in sym (clamp_under (real_unsigned w) (pos a -ℤ pos b) (omega arith))

  module _ (ok : Bool) (v n : ℕ) (s : Answers ok (pos v) (refuse (unsigned w) (pos n))) where
    pub clamps_answer : ok ≡ true → pos v ≡ clamp (unsigned w) (pos n)
    clamps_answer e = let p = accepted (real_unsigned w) ok (pos v) (pos n) s e in p.1 ∙ clamps_same (unsigned_below p.0)

    pub clamps_refusal : ok ≡ false → pos (2 ^ w - 1) ≡ clamp (unsigned w) (pos n)
    clamps_refusal e = too_large (declined (real_unsigned w) ok (pos v) (pos n) s e)
      where
        too_large : Out (unsigned w) (pos n) → pos (2 ^ w - 1) ≡ clamp (unsigned w) (pos n)
        too_large (under o) = let none : ⊥ = omega arith in absurd none
        too_large (over o) = clamps_over (omega arith)

  -- the greatest number stands in for a number that is refused
  pub clamps_or_greatest : {A : Type 0} (whole : A → ℕ) (most : A) (n : ℕ) (o : Option A) → whole most + 1 ≡ 2 ^ w
      → option_map (λ r. pos (whole r)) o ≡ refuse (unsigned w) (pos n) → pos (whole (unwrap_or o most)) ≡ clamp (unsigned w) (pos n)
  clamps_or_greatest whole most n None m e =
      let top : whole most ≡ 2 ^ w - 1 = omega arith in
      rw top (clamps_refusal false 0 n (refusal _ (sym e)) refl)
  clamps_or_greatest whole most n (Some r) m e = clamps_answer true (whole r) n (answer _ _ (sym e)) refl

  -- ---- divisions
  module _ (a b : ℕ) (v : ℤ) where
    pub division_refused : b ≡ 0 → Answers false (pos 0) (divided (unsigned w) (pos b) (pos (a / b)) v)
    division_refused e = refusal (divided (unsigned w) (pos b) (pos (a / b)) v) (divided_by_zero (unsigned w) (pos b) (pos (a / b)) v (is_zero b e))

    pub division_answers : (b ≡ 0 → ⊥) → a < 2 ^ w → Answers true v (divided (unsigned w) (pos b) (pos (a / b)) v)
    division_answers n h =
        answer (divided (unsigned w) (pos b) (pos (a / b)) v) v
        (divided_so (unsigned w) (pos b) (pos (a / b)) v (not_zero b n)
        (in_fits (real_unsigned w) (pos (a / b)) (in_unsigned (lt_of_le_of_lt (div-le_self a b) h))))

-- ---- what is asked of a divisor
pub by_zero_refused : {b : ℕ} (x : Option ℤ) → b ≡ 0 → Answers false (pos 0) (only_if (not (eq_z (pos b) (pos 0))) x)
by_zero_refused {b} x e = refusal (only_if (not (eq_z (pos b) (pos 0))) x) (only_if_not (not (eq_z (pos b) (pos 0))) x (rw (is_zero b e)))

pub by_other : {b : ℕ} (x : Option ℤ) → (b ≡ 0 → ⊥) → only_if (not (eq_z (pos b) (pos 0))) x ≡ x
by_other {b} x n = only_if_so (not (eq_z (pos b) (pos 0))) x (rw (not_zero b n))
