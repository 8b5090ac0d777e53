-- What the language asks of the operators of signed integers, and what its shifts give, in whole numbers.
use Rattle.std.specs.Prelude.{ℕ, ℤ, ◌≡◌, ◌*◌, ◌%◌, ◌^◌, ◌<◌, true, false, zero, suc, pos, negsuc, ◌*ℤ◌, FitsSigned}
use Rattle.std.specs.Int.{Width, CanDivide, cast_signed, cast_unsigned, int_shr}
use Rattle.std.specs.Int.Signed.{quot_z}
use Rattle.std.proofs.Common.{refl, ◌∙◌}
use Rattle.theory_whole.specs.Kind.{signed}
use Rattle.theory_whole.specs.Division.{ediv}
use Rattle.theory_whole.specs.Fit.{fits, wrap}
use Rattle.theory_whole.specs.Order.{eq_z}
use Rattle.theory_whole.proofs.Cases.{never}
use Rattle.theory_whole.proofs.Fits.{real_signed, in_fits, fits_in}
use Rattle.theory_machine.proofs.Bits.{halves, signed_fits, in_signed, shifted_left as left, rounded_down}
use native.Mathlib.Omega.{arith}
use mir.Val.{bits}

module _ (w : Width) where
  pub known : {z : ℤ} → FitsSigned w z → fits (signed (bits w)) z ≡ true
  known {z} f = in_fits (real_signed (bits w)) z (in_signed w f)

  pub allowed : {z : ℤ} → fits (signed (bits w)) z ≡ true → FitsSigned w z
  allowed {z} f = signed_fits w (fits_in (real_signed (bits w)) z f)

  not_zero_bits : {b : ℤ} → FitsSigned w b → eq_z b (pos 0) ≡ false → 0 < cast_unsigned w b
  not_zero_bits {b} g n = to b g n
    where
      to : (b : ℤ) → FitsSigned w b → eq_z b (pos 0) ≡ false → 0 < cast_unsigned w b
      to (pos zero) g n = never refl n
      to (pos (suc b)) g n = omega arith
      to (negsuc b) g n = omega (arith, halves w, g.sfits)

  pub divides : (a b : ℤ) → fits (signed (bits w)) b ≡ true → eq_z b (pos 0) ≡ false
      → fits (signed (bits w)) (quot_z a b) ≡ true → CanDivide w a b
  divides a b f n q = (not_zero_bits (allowed f) n, allowed q)

  pub shifted_left : (a : ℤ) (m : ℕ) {r : ℤ} → fits (signed (bits w)) a ≡ true
      → r ≡ cast_signed w ((cast_unsigned w a * m) % 2 ^ bits w) → r ≡ wrap (signed (bits w)) (a *ℤ pos m)
  shifted_left a m f e = e ∙ left w m (allowed f)

pub shifted_right : (a : ℤ) (k : ℕ) {r : ℤ} → r ≡ int_shr a k → r ≡ ediv a (pos (2 ^ k))
shifted_right a k e = e ∙ rounded_down a (2 ^ k)
