-- What makes each definition the right one to a reader: it has its property, and nothing else does.
use mathlib.Core.Path.{◌≡◌}
use mathlib.Core.Bool.{true, false}
use mathlib.Core.Logic.{⊎_elim}
use Prim.Native.Nat.{◌+◌, ◌≤◌, ◌<◌}
use native.Mathlib.Omega.{arith}
use lib.IntN.{ℤ, pos, nat_abs, ◌+ℤ◌, ◌-ℤ◌, ◌*ℤ◌, *ℤ-zero, +ℤ_idr}
use Rattle.theory_whole.specs.Kind.{Kind, least, greatest}
use Rattle.theory_whole.specs.Division.{◌modulo◌, ediv}
use Rattle.std.specs.Prelude.{Some, None}
use Rattle.theory_whole.specs.Fit.{fits, wrap, clamp, refuse}
use Rattle.theory_whole.proofs.Halves.{up, down, by_halves, same_halves, up_neg, down_neg, sum, difference}
use Rattle.theory_whole.proofs.Alike.{Alike, alike_itself, alike_same, alike_turned, alike_once, alike_then, alike_add, alike_mul}
use Rattle.theory_whole.proofs.Fits.{Real, In, Out, under, over, in_or_out, fits_in}
use Rattle.theory_whole.proofs.Wrap.{wrap_is}
use Rattle.theory_answers.proofs.Answer.{only_if_so, only_if_not}
use Rattle.theory_whole.proofs.Clamp.{Nearest, distance, clamp_in, clamp_over, clamp_under}
use Rattle.theory_whole.proofs.Divisions.{euclidean}

-- ---- wrap: the number of the kind that differs from z by a multiple of the size

module _ {k : Kind} (real : Real k) (z : ℤ) where
  some : 0 < k.size
  some = omega (arith, real.zero_in)

  pub wrap_differs : (t : ℤ) × (z ≡ wrap k z +ℤ t *ℤ pos k.size)
  unfolding wrap
  wrap_differs =
      let y = z +ℤ pos k.low in
      let t = ediv y (pos k.size) in
      let m = pos (y modulo k.size) in
      let whole = same_halves (euclidean y (pos k.size) some).0 in
      let s = sum z (pos k.low) in
      let p = sum (t *ℤ pos k.size) m in
      let d = difference m (pos k.low) in
      let q = sum (m -ℤ pos k.low) (t *ℤ pos k.size) in
      (t, by_halves z (m -ℤ pos k.low +ℤ t *ℤ pos k.size) (omega arith))

  -- a multiple of the size is like 0
  multiple : (t : ℤ) → Alike k.size (t *ℤ pos k.size) (pos 0)
  multiple t =
      alike_then some (alike_mul some (alike_itself t) (alike_once (pos k.size) (pos 0) (omega arith))) (alike_same (*ℤ-zero t))

  pub wrap_only : (r t : ℤ) → fits k r ≡ true → z ≡ r +ℤ t *ℤ pos k.size → r ≡ wrap k z
  wrap_only r t f e =
      wrap_is real z r (fits_in real r f)
      (alike_turned (alike_then some (alike_same e) (alike_then some (alike_add some (alike_itself r) (multiple t)) (alike_same (+ℤ_idr r)))))

-- ---- refuse: the number itself exactly where it fits

pub refuse_fits : (k : Kind) (z : ℤ) → fits k z ≡ true → refuse k z ≡ Some z
unfolding refuse
refuse_fits k z e = only_if_so (fits k z) (Some z) e

pub refuse_not : (k : Kind) (z : ℤ) → fits k z ≡ false → refuse k z ≡ None
unfolding refuse
refuse_not k z e = only_if_not (fits k z) (Some z) e

-- ---- clamp: nearest (`clamp_nearest`), and alone in that

pub clamp_only : {k : Kind} → Real k → (z c : ℤ) → Nearest k z c → c ≡ clamp k z
clamp_only {k} real z c n = ⊎_elim inside outside (in_or_out k z)
  where
    inside : In k z → c ≡ clamp k z
    inside i =
        let l = n.nearest z i in
        rw (clamp_in real z i)
        (⊎_elim
        (λ e. ⊎_elim (λ f. by_halves c z (omega arith)) (λ f. by_halves c z (omega arith)) (distance z c))
        (λ e. ⊎_elim (λ f. by_halves c z (omega arith)) (λ f. by_halves c z (omega arith)) (distance z c))
        (distance z z))

    near : (b : ℤ) → nat_abs (z -ℤ c) ≤ nat_abs (z -ℤ b)
        → (up z + down b < up b + down z → up b + down c ≤ up c + down b → c ≡ b) × (up b + down z < up z + down b → up c + down b ≤ up b + down c → c ≡ b)
    near b l = (
      λ h g. ⊎_elim (λ e. ⊎_elim (λ f. by_halves c b (omega arith)) (λ f. by_halves c b (omega arith)) (distance z c))
          (λ e. ⊎_elim (λ f. by_halves c b (omega arith)) (λ f. by_halves c b (omega arith)) (distance z c)) (distance z b),
      λ h g. ⊎_elim (λ e. ⊎_elim (λ f. by_halves c b (omega arith)) (λ f. by_halves c b (omega arith)) (distance z c))
          (λ e. ⊎_elim (λ f. by_halves c b (omega arith)) (λ f. by_halves c b (omega arith)) (distance z c)) (distance z b),
    )

    outside : Out k z → c ≡ clamp k z
    outside (under o) =
        let u = up_neg (pos k.low) in
        let d = down_neg (pos k.low) in
        let h = real.zero_in in
        let i = n.inside in
        rw (clamp_under real z o)
        ((near (least k) (n.nearest (least k) (record { above = omega arith; below = omega arith }))).0 (omega arith) (omega (arith, i.above)))
    outside (over o) =
        let h = real.zero_in in
        let i = n.inside in
        rw (clamp_over real z o)
        ((near (greatest k) (n.nearest (greatest k) (record { above = omega arith; below = omega arith }))).1 (omega arith) (omega (arith, i.below)))
