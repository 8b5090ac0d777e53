-- A sum is told by what it wraps to. Where z lies less than the size away from a, a number of the kind, and r is z wrapped, z fits exactly
-- where r lies on the same side of a as z does: the test that code makes, `(z < a) != (r < a)`, is that z does not fit.
use mathlib.Core.Path.{◌≡◌, refl, sym, ◌∙◌}
use mathlib.Core.Bool.{Bool, true, false, not, beq}
use mathlib.Core.Logic.{⊎_elim}
use Prim.Native.Nat.{◌+◌, ◌≤◌, ◌<◌}
use native.Mathlib.Omega.{arith}
use lib.IntN.{ℤ, pos, ◌+ℤ◌, ◌-ℤ◌}
use lib.Signed.{lt_z}
use Rattle.theory_whole.specs.Kind.{Kind}
use Rattle.theory_answers.specs.Answer.{Answers}
use Rattle.theory_whole.specs.Fit.{fits, wrap, refuse}
use Rattle.theory_whole.proofs.Cases.{by_test, never, so, not_so}
use Rattle.theory_whole.proofs.Halves.{up, down, same_halves, sum, difference, lt_yes, lt_no, is_lt, not_lt}
use Rattle.theory_whole.proofs.Fits.{Real, In, Out, under, over, in_or_out, in_fits, out_not_fits, fits_in, not_fits_out}
use Rattle.theory_whole.proofs.Wrap.{wrap_same, wrap_over, wrap_under}
use Rattle.theory_whole.proofs.Refuse.{accepts, refuses}

-- a sum is below its first summand where the second is below 0
pub sum_below : (x y : ℤ) → lt_z (x +ℤ y) x ≡ lt_z y (pos 0)
sum_below x y =
    let s = sum x y in
    by_test (lt_z y (pos 0))
    (λ e. let l = lt_yes y (pos 0) e in rw e (is_lt (x +ℤ y) x (omega arith)))
    (λ e. let l = lt_no y (pos 0) e in rw e (not_lt (x +ℤ y) x (omega arith)))

-- r is z wrapped, and d that z does not fit
pub record Told (k : Kind) (z r : ℤ) (d : Bool) : Type 0 where
  pub wraps : r ≡ wrap k z
  pub tells : d ≡ not (fits k z)

-- m is a number of the kind or the one after its last, and z lies at most the size below it and less than the size above it
pub record Near (k : Kind) (m z : ℤ) : Type 0 where
  pub first : down m ≤ k.low + up m
  pub last : up m + k.low ≤ k.size + down m
  pub from_below : up m + down z ≤ up z + down m + k.size
  pub from_above : up z + down m < up m + down z + k.size

-- `side` is s of the numbers below m, and not s of the others
module _ {k : Kind} (real : Real k) (m z r : ℤ) (near : Near k m z) (e : r ≡ wrap k z) (side : ℤ → Bool) (s : Bool)
    (below : (x : ℤ) → up x + down m < up m + down x → side x ≡ s) (others : (x : ℤ) → up m + down x ≤ up x + down m → side x ≡ not s) where
  told_by_side : Told k z r (not (beq (side z) (side r)))
  told_by_side = record { wraps = e; tells = ⊎_elim inside outside (in_or_out k z) }
    where
      same : (t : Bool) → not (beq t t) ≡ false
      same true = refl
      same false = refl

      other : (t : Bool) → (not (beq t (not t)) ≡ true) × (not (beq (not t) t) ≡ true)
      other true = (refl, refl)
      other false = (refl, refl)

      inside : In k z → not (beq (side z) (side r)) ≡ not (fits k z)
      inside j = rw (in_fits real z j, e ∙ sym (wrap_same real z j)) (same (side z))

      outside : Out k z → not (beq (side z) (side r)) ≡ not (fits k z)
      outside (under o) =
          let q = sum z (pos k.size) in
          let h = same_halves (wrap_under real z (z +ℤ pos k.size) (record { above = omega arith; below = omega arith }) (omega arith) ∙ sym e) in
          rw (out_not_fits real z (under o), below z (omega arith), others r (omega arith)) (other s).0
      outside (over o) =
          let q = difference z (pos k.size) in
          let h = same_halves (wrap_over real z (z -ℤ pos k.size) (record { above = omega arith; below = omega arith }) (omega arith) ∙ sym e) in
          rw (out_not_fits real z (over o), others z (omega arith), below r (omega arith)) (other s).1

module _ {k : Kind} (real : Real k) (a z r : ℤ) (e : r ≡ wrap k z) where
  pub told_below : Near k a z → Told k z r (not (beq (lt_z z a) (lt_z r a)))
  told_below near = told_by_side real a z r near e (λ x. lt_z x a) true (λ x. is_lt x a) (λ x. not_lt x a)

  -- what is above a is not below the next number
  pub told_above : Near k (a +ℤ pos 1) z → Told k z r (not (beq (lt_z a z) (lt_z a r)))
  told_above near =
      let n = sum a (pos 1) in
      told_by_side real (a +ℤ pos 1) z r near e (λ x. lt_z a x) false (λ x h. not_lt a x (omega arith)) (λ x h. is_lt a x (omega arith))

-- what a checked operation answers by such a test
module _ {k : Kind} (real : Real k) {z r : ℤ} {d : Bool} (told : Told k z r d) where
  pub no_overflow : d ≡ false → Answers true r (refuse k z)
  no_overflow n =
      let f : fits k z ≡ true = so (λ g. never (rw g at told.tells) n) in
      let j = fits_in real z f in
      accepts real z r j (told.wraps ∙ sym (wrap_same real z j))

  pub overflow : d ≡ true → Answers false (pos 0) (refuse k z)
  overflow y = let f : fits k z ≡ false = not_so (λ g. never y (rw g at told.tells)) in refuses real z (not_fits_out real z f)
