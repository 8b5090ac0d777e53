-- What it is to fit a kind, where `omega` reads it: a number is `In` the kind, or `Out` of it, below or above. Kinds that hold 0 are `Real`; all of ours are.
use mathlib.Core.Path.{◌≡◌}
use mathlib.Core.Bool.{true, false}
use mathlib.Core.Logic.{◌⊎◌, inl, inr, ⊎_elim}
use Prim.Native.Nat.{ℕ, ◌+◌, ◌≤◌, ◌<◌}
use native.Mathlib.Omega.{arith}
use lib.IntN.{ℤ, pos}
use lib.Signed.{le_z}
use lib.Dec.{leb, ltb}
use lib.Pow.{pow_pos}
use borrow.Author.Tests.{ltb-true, ltb-false, leb-true, leb-false}
use Rattle.theory_whole.specs.Kind.{Kind, unsigned, signed, least, greatest}
use Rattle.theory_whole.specs.Fit.{fits}
use Rattle.theory_whole.proofs.Cases.{by_test, never, both, both_are, first_not, second_not}
use Rattle.theory_whole.proofs.Halves.{up, down, up_neg, down_neg, le_yes, is_le, not_le}

pub record Real (k : Kind) : Type 0 where
  pub zero_in : k.low < k.size

pub real_unsigned : (w : ℕ) → Real (unsigned w)
real_unsigned w = record { zero_in = pow_pos w }

pub real_signed : (w : ℕ) → Real (signed w)
real_signed w = let p = pow_pos w in record { zero_in = omega arith }

pub record In (k : Kind) (z : ℤ) : Type 0 where
  pub above : down z ≤ k.low + up z
  pub below : up z + k.low < k.size + down z

pub data Out (k : Kind) (z : ℤ) : Type 0 where
  under : k.low + up z < down z → Out k z
  over : k.size + down z ≤ up z + k.low → Out k z

pub in_or_out : (k : Kind) (z : ℤ) → In k z ⊎ Out k z
in_or_out k z =
    by_test (leb (down z) (k.low + up z))
    (λ a. by_test (ltb (up z + k.low) (k.size + down z))
    (λ b. inl (record { above = leb-true (down z) (k.low + up z) a; below = ltb-true (up z + k.low) (k.size + down z) b }))
    (λ b. inr (over (ltb-false (up z + k.low) (k.size + down z) b))))
    (λ a. inr (under (leb-false (down z) (k.low + up z) a)))

module _ {k : Kind} (real : Real k) (z : ℤ) where
  pub in_fits : In k z → fits k z ≡ true
  unfolding fits
  in_fits i =
      let u = up_neg (pos k.low) in
      let d = down_neg (pos k.low) in
      both (is_le (least k) z (omega arith)) (is_le z (greatest k) (omega arith))

  pub out_not_fits : Out k z → fits k z ≡ false
  unfolding fits
  out_not_fits (under o) =
      let u = up_neg (pos k.low) in
      let d = down_neg (pos k.low) in
      first_not (le_z z (greatest k)) (not_le (least k) z (omega arith))
  out_not_fits (over o) = second_not (le_z (least k) z) (not_le z (greatest k) (omega arith))

  pub fits_in : fits k z ≡ true → In k z
  unfolding fits
  fits_in e =
      let u = up_neg (pos k.low) in
      let d = down_neg (pos k.low) in
      let b = both_are (le_z (least k) z) (le_z z (greatest k)) e in
      let l = le_yes (least k) z b.0 in
      let g = le_yes z (greatest k) b.1 in
      record { above = omega arith; below = omega arith }

  pub not_fits_out : fits k z ≡ false → Out k z
  not_fits_out e = ⊎_elim (λ i. never (in_fits i) e) (λ o. o) (in_or_out k z)
