-- Signed numbers that code takes to 64 bits and back: what is widened keeps its value, and what is narrowed is tested once.
use mathlib.Core.Path.{◌≡◌, ◌∙◌}
use mathlib.Core.Bool.{true, false}
use Prim.Native.Nat.{ℕ, ◌+◌, ◌/◌, ◌^◌, ◌≤◌, ◌<◌}
use native.Mathlib.Omega.{arith}
use lib.Pow.{pow_mono}
use lib.IntN.{ℤ, pos, ◌+ℤ◌, ◌-ℤ◌, +ℤ_comm}
use mir.Syntax.{Width, w64}
use mir.Val.{bits, SFits, to_z, of_z}
use mir.Facts.{to_z-of_z}
use Rattle.theory_whole.specs.Kind.{signed, unsigned}
use Rattle.theory_answers.specs.Answer.{Answers}
use Rattle.theory_whole.specs.Fit.{wrap, refuse}
use Rattle.theory_whole.proofs.Halves.{up, down, sum, difference}
use Rattle.theory_whole.proofs.Fits.{In, real_signed}
use Rattle.theory_whole.proofs.Refuse.{accepts, refuses}
use Rattle.theory_whole.proofs.Narrow.{narrow_in, narrow_out}
use Rattle.theory_machine.proofs.Bits.{in_signed, signed_fits}

module _ (w : Width) (l : bits w < 62) where
  abbrev wide : ℤ → ℤ
  wide a = to_z w64 (of_z w64 (to_z w (of_z w a)))

  size_below : 2 ^ bits w ≤ 2 ^ 61
  size_below = pow_mono {i = bits w} {j = 61} (omega arith)

  in_wide : {a : ℤ} → SFits w a → In (signed 64) a
  in_wide f =
      let i = in_signed w f in
      let b = size_below in
      record { above = omega (arith, i.above); below = omega (arith, i.below) }

  pub widened : {a : ℤ} → SFits w a → SFits w64 (to_z w (of_z w a))
  widened f = rw (to_z-of_z f) (signed_fits w64 (in_wide f))

  wide_is : {a : ℤ} → SFits w a → wide a ≡ a
  wide_is f = to_z-of_z (widened f) ∙ to_z-of_z f

  -- ---- sums and differences of two: z is what code has, x what it means, and u is z raised by half the size
  pub record Narrowed (z x : ℤ) : Type 0 where
    pub same : z ≡ x
    pub fits : SFits w64 z
    pub raised : SFits w64 (to_z w64 (of_z w64 z) +ℤ pos (2 ^ bits w / 2))

  near_zero : (z x : ℤ) → z ≡ x → up x ≤ down x + 2 ^ bits w → down x ≤ up x + 2 ^ bits w → Narrowed z x
  near_zero z x e u d =
      let b = size_below in
      let s = sum x (pos (2 ^ bits w / 2)) in
      let h : SFits w64 z = rw e (signed_fits w64 (record { above = omega arith; below = omega arith })) in
      record { same = e; fits = h; raised = rw (to_z-of_z h, e) (signed_fits w64 (record { above = omega arith; below = omega arith })) }

  module _ {a b : ℤ} (f : SFits w a) (g : SFits w b) where
    pub sum_narrowed : Narrowed (wide a +ℤ wide b) (a +ℤ b)
    sum_narrowed =
        let i = in_signed w f in
        let j = in_signed w g in
        let s = sum a b in
        near_zero (wide a +ℤ wide b) (a +ℤ b) (rw (wide_is f, wide_is g)) (omega (arith, i.below, j.below)) (omega (arith, i.above, j.above))

    pub difference_narrowed : Narrowed (wide a -ℤ wide b) (a -ℤ b)
    difference_narrowed =
        let i = in_signed w f in
        let j = in_signed w g in
        let s = difference a b in
        near_zero (wide a -ℤ wide b) (a -ℤ b) (rw (wide_is f, wide_is g)) (omega (arith, i.below, j.above)) (omega (arith, i.above, j.below))

  module _ {z x : ℤ} (n : Narrowed z x) (u : ℕ) (e : pos u ≡ wrap (unsigned 64) (to_z w64 (of_z w64 (to_z w64 (of_z w64 z) +ℤ pos (2 ^ bits w / 2))))) where
    raised_is : pos u ≡ wrap (unsigned 64) (pos (2 ^ bits w / 2) +ℤ z)
    raised_is = let h : pos u ≡ wrap (unsigned 64) (z +ℤ pos (2 ^ bits w / 2)) = (rw (to_z-of_z n.raised, to_z-of_z n.fits) at e) in rw (+ℤ_comm (pos (2 ^ bits w / 2)) z) h

    narrow : bits w < 64
    narrow = omega arith

    pub narrows_not : 2 ^ bits w ≤ u → Answers false (pos 0) (refuse (signed (bits w)) x)
    narrows_not h = rw (← n.same) (refuses (real_signed (bits w)) z (narrow_out (bits w) narrow z (in_signed w64 n.fits) u raised_is h))

    pub narrows : u < 2 ^ bits w → SFits w (to_z w64 (of_z w64 z))
    narrows h = rw (to_z-of_z n.fits) (signed_fits w (narrow_in (bits w) narrow z (in_signed w64 n.fits) u raised_is h))

    pub narrowed_is : u < 2 ^ bits w → Answers true (to_z w (of_z w (to_z w64 (of_z w64 z)))) (refuse (signed (bits w)) x)
    narrowed_is h =
        rw (← n.same)
        (accepts (real_signed (bits w)) z (to_z w (of_z w (to_z w64 (of_z w64 z)))) (narrow_in (bits w) narrow z (in_signed w64 n.fits) u raised_is h) (to_z-of_z (narrows h) ∙ to_z-of_z n.fits))
