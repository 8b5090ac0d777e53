-- Whether a number of 64 bits fits a narrower signed kind, by one test: raised by half the size, and read without a sign, it is below the size.
use mathlib.Core.Path.{◌≡◌, sym, ◌∙◌}
use Prim.Native.Nat.{ℕ, ◌+◌, ◌-◌, ◌/◌, ◌^◌, ◌≤◌, ◌<◌}
use native.Mathlib.Decide.{dec_le}
use native.Mathlib.Omega.{arith}
use lib.Pow.{pow_mono}
use lib.IntN.{ℤ, pos, ◌+ℤ◌}
use Rattle.theory_whole.specs.Kind.{unsigned, signed}
use Rattle.theory_whole.specs.Fit.{wrap}
use Rattle.theory_whole.proofs.Halves.{up, down, sum, same_halves}
use Rattle.theory_whole.proofs.Fits.{In, Out, under, over, real_unsigned}
use Rattle.theory_whole.proofs.Wrap.{wrap_same, wrap_under}

module _ (w : ℕ) (l : w < 64) (z : ℤ) (i : In (signed 64) z) (u : ℕ) (e : pos u ≡ wrap (unsigned 64) (pos (2 ^ w / 2) +ℤ z)) where
  below : 2 ^ w ≤ 2 ^ 63
  below = pow_mono {i = w} {j = 63} (omega arith)

  raised : ℤ
  raised = pos (2 ^ w / 2) +ℤ z

  not_negative : down z ≤ 2 ^ w / 2 + up z → up z + 2 ^ w / 2 ≡ u + down z
  unfolding raised
  not_negative h =
      let s = sum (pos (2 ^ w / 2)) z in
      let b = below in
      let m = same_halves (e ∙ sym (wrap_same (real_unsigned 64) raised (record { above = omega (arith, i.above, i.below); below = omega (arith, i.above, i.below) }))) in
      omega arith

  is_negative : 2 ^ w / 2 + up z < down z → up z + 2 ^ w / 2 + 2 ^ 64 ≡ u + down z
  unfolding raised
  is_negative h =
      let s = sum (pos (2 ^ w / 2)) z in
      let b = below in
      let a = i.above in
      let n = 2 ^ 64 + up raised - down raised in
      let m = same_halves (e ∙ sym (wrap_under (real_unsigned 64) raised (pos n) (record { above = omega arith; below = omega arith }) (omega arith))) in
      omega arith

  pub narrow_in : u < 2 ^ w → In (signed w) z
  narrow_in h = go (dec_le (down z) (2 ^ w / 2 + up z))
    where
      go : Dec (down z ≤ 2 ^ w / 2 + up z) → In (signed w) z
      go (yes p) = record { above = p; below = omega (arith, not_negative p, h) }
      go (no p) = let none : ⊥ = omega (arith, is_negative (omega arith), h, below, i.above) in absurd none

  pub narrow_out : 2 ^ w ≤ u → Out (signed w) z
  narrow_out h = go (dec_le (down z) (2 ^ w / 2 + up z))
    where
      go : Dec (down z ≤ 2 ^ w / 2 + up z) → Out (signed w) z
      go (yes p) = over (omega (arith, not_negative p, h))
      go (no p) = under (omega arith)
