-- `wrap k z` is of kind k and differs from z by a multiple of the size; no other number does both.
use mathlib.Core.Path.{◌≡◌}
use mathlib.Core.Bool.{true}
use Prim.Native.Nat.{ℕ, ◌+◌, ◌-◌, ◌<◌}
use native.Mathlib.Omega.{arith}
use lib.IntN.{ℤ, pos, ◌+ℤ◌, ◌-ℤ◌}
use Rattle.theory_whole.specs.Kind.{Kind}
use Rattle.theory_whole.specs.Division.{◌modulo◌}
use Rattle.theory_whole.specs.Fit.{fits, wrap}
use Rattle.theory_whole.proofs.Halves.{up, down, by_halves, sum, difference}
use Rattle.theory_whole.proofs.Congruence.{equal, itself, ◌then◌, added, cancel, alone}
use Rattle.theory_whole.proofs.Alike.{Alike, alike_itself, alike_same, alike_turned, alike_once, alike_then, alike_sub, modulo_below, modulo_alike}
use Rattle.theory_whole.proofs.Fits.{Real, In, in_fits}

module _ {k : Kind} (real : Real k) where
  some : 0 < k.size
  some = omega (arith, real.zero_in)

  -- two numbers of one kind that differ by a multiple of the size are one
  pub one_of_kind : (r s : ℤ) → In k r → In k s → Alike k.size r s → r ≡ s
  one_of_kind r s i j a =
      let p = some in
      let x : ℕ = up r + k.low - down r in
      let y : ℕ = up s + k.low - down s in
      let e : up r + k.low - down r + (down r + down s) ≡ up r + down s + k.low = omega arith in
      let e' : up s + down r + k.low ≡ up s + k.low - down s + (down r + down s) = omega arith in
      let c : x ≡ y = alone (omega arith) (omega arith) (cancel p (down r + down s) (equal e then added a.halves (itself k.low) then equal e')) in
      by_halves r s (omega arith)

  module _ (z : ℤ) where
    raised : ℕ
    raised = (z +ℤ pos k.low) modulo k.size

    lifted : up (wrap k z) + k.low ≡ raised + down (wrap k z)
    unfolding wrap raised
    lifted = omega (arith, difference (pos ((z +ℤ pos k.low) modulo k.size)) (pos k.low))

    pub wrap_in : In k (wrap k z)
    unfolding raised
    wrap_in =
        let b : raised < k.size = modulo_below some (z +ℤ pos k.low) in
        let l = lifted in
        record { above = omega arith; below = omega arith }

    pub wrap_alike : Alike k.size (wrap k z) z
    unfolding wrap
    wrap_alike =
        let s = sum z (pos k.low) in
        let d = difference (z +ℤ pos k.low) (pos k.low) in
        let e : z +ℤ pos k.low -ℤ pos k.low ≡ z = by_halves (z +ℤ pos k.low -ℤ pos k.low) z (omega arith) in
        alike_then some (alike_sub some (modulo_alike some (z +ℤ pos k.low)) (alike_itself (pos k.low))) (alike_same e)

  pub wrap_is : (z r : ℤ) → In k r → Alike k.size r z → r ≡ wrap k z
  wrap_is z r i a = one_of_kind r (wrap k z) i (wrap_in z) (alike_then some a (alike_turned (wrap_alike z)))

  -- z itself; z less the size; z and the size
  pub wrap_same : (z : ℤ) → In k z → z ≡ wrap k z
  wrap_same z i = wrap_is z z i (alike_itself z)

  pub wrap_over : (z r : ℤ) → In k r → up z + down r ≡ up r + down z + k.size → r ≡ wrap k z
  wrap_over z r i e = wrap_is z r i (alike_turned (alike_once z r e))

  pub wrap_under : (z r : ℤ) → In k r → up z + down r + k.size ≡ up r + down z → r ≡ wrap k z
  wrap_under z r i e = wrap_is z r i (alike_once r z (omega arith))

  pub wrap_fits : (z : ℤ) → fits k (wrap k z) ≡ true
  wrap_fits z = in_fits real (wrap k z) (wrap_in z)

  -- an operation on numbers that were wrapped before
  module _ {x a y b : ℤ} (op : ℤ → ℤ → ℤ) (keeps : Alike k.size x a → Alike k.size y b → Alike k.size (op x y) (op a b)) where
    pub wrap_op : (r : ℤ) → Alike k.size x a → Alike k.size y b → r ≡ wrap k (op x y) → r ≡ wrap k (op a b)
    wrap_op r p q e = wrap_is (op a b) r (rw e (wrap_in (op x y))) (alike_then some (rw e (wrap_alike (op x y))) (keeps p q))

-- a number that was wrapped to another kind of the same size
module _ {k k' : Kind} (real : Real k) (real' : Real k') (same : k'.size ≡ k.size) where
  pub wrapped_alike : {x a : ℤ} → x ≡ wrap k' a → Alike k.size x a
  wrapped_alike {x} {a} e = rw (← same, e) (wrap_alike real' a)

  pub wrap_again : {t r : ℤ} (z : ℤ) → t ≡ wrap k' z → r ≡ wrap k t → r ≡ wrap k z
  wrap_again {t} {r} z p q =
      wrap_is real z r (rw q (wrap_in real t))
      (alike_then (omega (arith, real.zero_in)) (rw q (wrap_alike real t)) (wrapped_alike p))
