-- `refuse k z` answers z exactly where it fits; what an answer tells, and the answers of checked divisions.
use mathlib.Core.Path.{◌≡◌, refl}
use mathlib.Core.Bool.{Bool, true, false, not, ◌&&◌}
use lib.IntN.{ℤ, pos}
use Rattle.theory_whole.specs.Kind.{Kind}
use Rattle.theory_whole.specs.Order.{eq_z}
use Rattle.theory_answers.proofs.Answer.{refusal, only_if_so, only_if_not}
use Rattle.theory_answers.specs.Answer.{Answers}
use Rattle.std.specs.Prelude.{Some, None}
use Rattle.theory_whole.specs.Fit.{fits, refuse, divided}
use Rattle.theory_whole.proofs.Cases.{by_test, never, first_not, second_not, both}
use Rattle.theory_whole.proofs.Fits.{Real, In, Out, in_fits, out_not_fits, fits_in, not_fits_out}

module _ {k : Kind} (real : Real k) where
  pub accepts : (z v : ℤ) → In k z → v ≡ z → Answers true v (refuse k z)
  unfolding refuse
  accepts z v i e = rw (only_if_so (fits k z) (Some z) (in_fits real z i)) (refl, e)

  pub refuses : (z : ℤ) → Out k z → Answers false (pos 0) (refuse k z)
  unfolding refuse
  refuses z o = refusal (refuse k z) (only_if_not (fits k z) (Some z) (out_not_fits real z o))

  -- what an answer tells
  module _ (ok : Bool) (v z : ℤ) (a : Answers ok v (refuse k z)) where
    pub accepted : ok ≡ true → In k z × (v ≡ z)
    unfolding refuse
    accepted e =
        by_test (fits k z)
        (λ f. (fits_in real z f, (rw (only_if_so (fits k z) (Some z) f) at a).1))
        (λ f. never e (rw (only_if_not (fits k z) (Some z) f) at a).0)

    pub declined : ok ≡ false → Out k z
    unfolding refuse
    declined e =
        by_test (fits k z)
        (λ f. never (rw (only_if_so (fits k z) (Some z) f) at a).0 e)
        (λ f. not_fits_out real z f)

module _ (k : Kind) (b q v : ℤ) where
  pub divided_by_zero : eq_z b (pos 0) ≡ true → divided k b q v ≡ None
  unfolding divided
  divided_by_zero e = only_if_not (not (eq_z b (pos 0)) && fits k q) (Some v) (first_not {s = not (eq_z b (pos 0))} (fits k q) (rw e))

  pub divided_not : fits k q ≡ false → divided k b q v ≡ None
  unfolding divided
  divided_not e = only_if_not (not (eq_z b (pos 0)) && fits k q) (Some v) (second_not (not (eq_z b (pos 0))) e)

  pub divided_so : eq_z b (pos 0) ≡ false → fits k q ≡ true → divided k b q v ≡ Some v
  unfolding divided
  divided_so e f = only_if_so (not (eq_z b (pos 0)) && fits k q) (Some v) (both {s = not (eq_z b (pos 0))} (rw e) f)
