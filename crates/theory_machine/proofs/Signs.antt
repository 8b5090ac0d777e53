-- What code learns of a signed number by comparing it with 0, and what it then makes of it: `!a` of a negative number is not negative, and has
-- one less than its magnitude.
use mathlib.Core.Path.{◌≡◌}
use mathlib.Core.Bool.{true, false}
use Prim.Native.Nat.{ℕ, suc, ◌+◌, ◌-◌, ◌^◌, ◌<◌}
use native.Mathlib.Omega.{arith}
use lib.Pow.{pow_pos}
use lib.Dec.{T}
use lib.IntN.{ℤ, pos, negsuc, nat_abs}
use lib.Signed.{lt_z, non_neg}
use mir.Syntax.{Width}
use mir.Val.{bits, hbits, Fits, SFits, to_z, of_z}
use mir.Facts.{to_z-of_z, to_z_pos}
use Rattle.theory_whole.specs.Kind.{unsigned}
use Rattle.theory_whole.specs.Fit.{wrap}
use Rattle.theory_whole.proofs.Halves.{lt_yes, lt_no}
use Rattle.theory_whole.proofs.Unsigned.{wraps_same, wraps_under}
use Rattle.theory_machine.proofs.Bits.{halves}

pub data Negative (w : Width) : ℤ → Type 0 where
  negative : {n : ℕ} → n < 2 ^ hbits w → Negative w (negsuc n)

pub data Natural (w : Width) : ℤ → Type 0 where
  natural : {n : ℕ} → n < 2 ^ hbits w → Natural w (pos n)

module _ (w : Width) where
  pub below_zero : {a : ℤ} → SFits w a → lt_z (to_z w (of_z w a)) (pos 0) ≡ true → Negative w a
  below_zero {a} f t = to a f (rw (to_z-of_z f) at t)
    where
      to : (a : ℤ) → SFits w a → lt_z a (pos 0) ≡ true → Negative w a
      to (pos n) f t = let none : ⊥ = omega (arith, lt_yes (pos n) (pos 0) t) in absurd none
      to (negsuc n) f t = negative f.sfits

  pub not_below_zero : {a : ℤ} → SFits w a → lt_z (to_z w (of_z w a)) (pos 0) ≡ false → Natural w a
  not_below_zero {a} f t = to a f (rw (to_z-of_z f) at t)
    where
      to : (a : ℤ) → SFits w a → lt_z a (pos 0) ≡ false → Natural w a
      to (pos n) f t = natural f.sfits
      to (negsuc n) f t = let none : ⊥ = omega (arith, lt_no (negsuc n) (pos 0) t) in absurd none

  -- ---- a negative number: `!a`
  flipped : {n : ℕ} → n < 2 ^ hbits w → to_z w (2 ^ bits w - 1 - of_z w (negsuc n)) ≡ pos n
  flipped {n} h = let e : 2 ^ bits w - 1 - (2 ^ bits w - suc n) ≡ n = omega (arith, halves w) in rw e (to_z_pos w h)

  pub negative_cast : {a : ℤ} → Negative w a → T (non_neg (to_z w (2 ^ bits w - 1 - of_z w a))) × Fits w (nat_abs (to_z w (2 ^ bits w - 1 - of_z w a)))
  negative_cast (negative h) = rw (flipped h) (tt, record { fits = omega (arith, halves w) })

  pub negative_bits : {a : ℤ} → Negative w a → pos (2 ^ bits w - 1 - nat_abs (to_z w (2 ^ bits w - 1 - of_z w a))) ≡ wrap (unsigned (bits w)) a
  negative_bits (negative {n} h) = rw (flipped h) (wraps_under (bits w) (negsuc n) (2 ^ bits w - 1 - n) (omega (arith, halves w)) (omega (arith, halves w)))

  pub negative_magnitude : {a : ℤ} → Negative w a → nat_abs (to_z w (2 ^ bits w - 1 - of_z w a)) + 1 ≡ nat_abs a
  negative_magnitude (negative h) = rw (flipped h) (omega arith)

  pub negative_magnitude_fits : {a : ℤ} → Negative w a → Fits w (nat_abs (to_z w (2 ^ bits w - 1 - of_z w a)) + 1)
  negative_magnitude_fits (negative h) = rw (flipped h) (record { fits = omega (arith, halves w, pow_pos (hbits w)) })

  -- ---- one that is not: `a` itself
  pub natural_cast : {a : ℤ} → Natural w a → T (non_neg (to_z w (of_z w a))) × Fits w (nat_abs (to_z w (of_z w a)))
  natural_cast (natural h) = rw (to_z_pos w h) (tt, record { fits = omega (arith, halves w) })

  pub natural_bits : {a : ℤ} → Natural w a → pos (nat_abs (to_z w (of_z w a))) ≡ wrap (unsigned (bits w)) a
  natural_bits (natural {n} h) = rw (to_z_pos w h) (wraps_same (bits w) (pos n) n (omega (arith, halves w)) (omega arith))
