-- `clamp k z` is of kind k and nearest to z, and no other number of the kind is as near.
use mathlib.Core.Path.{◌≡◌}
use mathlib.Core.Logic.{◌⊎◌, inl, inr, ⊎_elim}
use Prim.Native.Nat.{◌+◌, ◌≤◌, ◌<◌}
use native.Mathlib.Omega.{arith}
use lib.IntN.{ℤ, pos, negsuc, nat_abs, ◌-ℤ◌}
use Rattle.theory_whole.specs.Kind.{Kind, least, greatest}
use Rattle.theory_whole.specs.Fit.{clamp}
use Rattle.theory_whole.proofs.Halves.{up, down, up_neg, down_neg, difference, is_lt, not_lt}
use Rattle.theory_whole.proofs.Fits.{Real, In, Out, under, over, in_or_out}

module _ {k : Kind} (real : Real k) (z : ℤ) where
  pub clamp_in : In k z → clamp k z ≡ z
  unfolding clamp
  clamp_in i =
      let u = up_neg (pos k.low) in
      let d = down_neg (pos k.low) in
      rw (not_lt z (least k) (omega arith), not_lt (greatest k) z (omega arith))

  pub clamp_over : k.size + down z ≤ up z + k.low → clamp k z ≡ greatest k
  unfolding clamp
  clamp_over o =
      let u = up_neg (pos k.low) in
      let d = down_neg (pos k.low) in
      let h = real.zero_in in
      rw (not_lt z (least k) (omega arith), is_lt (greatest k) z (omega arith))

  pub clamp_under : k.low + up z < down z → clamp k z ≡ least k
  unfolding clamp
  clamp_under o =
      let u = up_neg (pos k.low) in
      let d = down_neg (pos k.low) in
      rw (is_lt z (least k) (omega arith))

-- ---- nearest

pub distance : (x y : ℤ) → (nat_abs (x -ℤ y) + (down x + up y) ≡ up x + down y) ⊎ (nat_abs (x -ℤ y) + (up x + down y) ≡ down x + up y)
distance x y = by (x -ℤ y) (difference x y)
  where
    by : (d : ℤ) → up d + (down x + up y) ≡ up x + down y + down d → (nat_abs d + (down x + up y) ≡ up x + down y) ⊎ (nat_abs d + (up x + down y) ≡ down x + up y)
    by (pos n) e = inl (omega arith)
    by (negsuc n) e = inr (omega arith)

-- c is the number of kind k nearest to z
pub record Nearest (k : Kind) (z c : ℤ) : Type 0 where
  pub inside : In k c
  pub nearest : (x : ℤ) → In k x → nat_abs (z -ℤ c) ≤ nat_abs (z -ℤ x)

module _ {k : Kind} (real : Real k) (z : ℤ) where
  least_in : In k (least k)
  least_in =
      let u = up_neg (pos k.low) in
      let d = down_neg (pos k.low) in
      let h = real.zero_in in
      record { above = omega arith; below = omega arith }

  greatest_in : In k (greatest k)
  greatest_in = let h = real.zero_in in record { above = omega arith; below = omega arith }

  pub clamp_nearest : Nearest k z (clamp k z)
  clamp_nearest = ⊎_elim stays moves (in_or_out k z)
    where
      stays : In k z → Nearest k z (clamp k z)
      stays i =
          rw (clamp_in real z i)
          (record { inside = i; nearest = λ x j. ⊎_elim (λ e. omega arith) (λ e. omega arith) (distance z z) })

      moves : Out k z → Nearest k z (clamp k z)
      moves (under o) =
          let u = up_neg (pos k.low) in
          let d = down_neg (pos k.low) in
          rw (clamp_under real z o)
          (record {
            inside = least_in;
            nearest = λ x j.
                let a = j.above in
                ⊎_elim (λ e. ⊎_elim (λ f. omega arith) (λ f. omega arith) (distance z x)) (λ e. ⊎_elim (λ f. omega arith) (λ f. omega arith) (distance z x)) (distance z (least k));
          })
      moves (over o) =
          rw (clamp_over real z o)
          (record {
            inside = greatest_in;
            nearest = λ x j.
                let b = j.below in
                let h = real.zero_in in
                ⊎_elim (λ e. ⊎_elim (λ f. omega arith) (λ f. omega arith) (distance z x)) (λ e. ⊎_elim (λ f. omega arith) (λ f. omega arith) (distance z x)) (distance z (greatest k));
          })
