-- The three ways to fit, by tests against MAX and MIN as vstd makes them, for both signs: `greatest k` is MAX and `least k` is MIN.
use mathlib.Core.Path.{◌≡◌, sym, ◌∙◌}
use mathlib.Core.Bool.{true, false, ◌||◌, cond}
use Prim.Native.Nat.{◌+◌, ◌≤◌, ◌<◌}
use native.Mathlib.Omega.{arith}
use lib.IntN.{ℤ, pos, ◌+ℤ◌, ◌-ℤ◌}
use lib.Signed.{lt_z}
use Rattle.theory_whole.specs.Kind.{Kind, least, greatest}
use Rattle.std.specs.Prelude.{Some, None}
use Rattle.theory_whole.specs.Fit.{fits, wrap, clamp, refuse}
use Rattle.theory_whole.proofs.Cases.{by_test}
use Rattle.theory_whole.proofs.Halves.{up, down, up_neg, down_neg, sum, difference, lt_yes, lt_no, not_lt}
use Rattle.theory_whole.proofs.Fits.{Real, under, over, in_fits, out_not_fits}
use Rattle.theory_whole.proofs.Wrap.{wrap_same, wrap_over, wrap_under}
use Rattle.theory_answers.proofs.Answer.{only_if_so, only_if_not}

module _ {k : Kind} (real : Real k) (z : ℤ) where
  pub above_max : lt_z (greatest k) z ≡ true → k.size + down z ≤ up z + k.low
  above_max e = let l = lt_yes (greatest k) z e in omega (arith, real.zero_in)

  pub at_most_max : lt_z (greatest k) z ≡ false → up z + k.low < k.size + down z
  at_most_max e = let l = lt_no (greatest k) z e in omega (arith, real.zero_in)

  pub below_min : lt_z z (least k) ≡ true → k.low + up z < down z
  below_min e = let l = lt_yes z (least k) e in let u = up_neg (pos k.low) in let d = down_neg (pos k.low) in omega arith

  pub at_least_min : lt_z z (least k) ≡ false → down z ≤ k.low + up z
  at_least_min e = let l = lt_no z (least k) e in let u = up_neg (pos k.low) in let d = down_neg (pos k.low) in omega arith

  -- known to lie on one side
  pub not_above : up z + k.low < k.size + down z → lt_z (greatest k) z ≡ false
  not_above h = not_lt (greatest k) z (omega arith)

  pub not_below : down z ≤ k.low + up z → lt_z z (least k) ≡ false
  not_below h = let u = up_neg (pos k.low) in let d = down_neg (pos k.low) in not_lt z (least k) (omega arith)

  -- ---- refuse
  pub refuse_by_bounds : refuse k z ≡ cond (lt_z (greatest k) z || lt_z z (least k)) None (Some z)
  unfolding refuse
  refuse_by_bounds =
      by_test (lt_z (greatest k) z)
      (λ a. rw (a, only_if_not (fits k z) (Some z) (out_not_fits real z (over (above_max a)))))
      (λ a. by_test (lt_z z (least k))
      (λ b. rw (a, b, only_if_not (fits k z) (Some z) (out_not_fits real z (under (below_min b)))))
      (λ b. rw (a, b, only_if_so (fits k z) (Some z) (in_fits real z (record { above = at_least_min b; below = at_most_max a })))))

  pub refuse_by_max : down z ≤ k.low + up z → refuse k z ≡ cond (lt_z (greatest k) z) None (Some z)
  refuse_by_max h = refuse_by_bounds ∙ by_test (lt_z (greatest k) z) (λ a. rw a) (λ a. rw (a, not_below h))

  pub refuse_by_min : up z + k.low < k.size + down z → refuse k z ≡ cond (lt_z z (least k)) None (Some z)
  refuse_by_min h = refuse_by_bounds ∙ rw (not_above h)

  -- ---- clamp
  pub clamp_by_max : down z ≤ k.low + up z → clamp k z ≡ cond (lt_z (greatest k) z) (greatest k) z
  unfolding clamp
  clamp_by_max h = rw (not_below h)

  pub clamp_by_min : up z + k.low < k.size + down z → clamp k z ≡ cond (lt_z z (least k)) (least k) z
  unfolding clamp
  clamp_by_min h = by_test (lt_z z (least k)) (λ b. rw b) (λ b. rw (b, not_above h))

  -- ---- wrap, of a number that lies less than the size outside
  module _ (near-above : up z + k.low < k.size + k.size + down z) (near-below : down z ≤ k.low + k.size + up z) where
    pub wrap_by_bounds : wrap k z ≡ cond (lt_z (greatest k) z) (z -ℤ pos k.size) (cond (lt_z z (least k)) (z +ℤ pos k.size) z)
    wrap_by_bounds =
        by_test (lt_z (greatest k) z)
        (λ a. let l = above_max a in
        let d = difference z (pos k.size) in
        rw a (sym (wrap_over real z (z -ℤ pos k.size) (record { above = omega arith; below = omega arith }) (omega arith))))
        (λ a. by_test (lt_z z (least k))
        (λ b. let l = below_min b in
        let s = sum z (pos k.size) in
        rw (a, b) (sym (wrap_under real z (z +ℤ pos k.size) (record { above = omega arith; below = omega arith }) (omega arith))))
        (λ b. rw (a, b) (sym (wrap_same real z (record { above = at_least_min b; below = at_most_max a })))))

    pub wrap_by_max : down z ≤ k.low + up z → wrap k z ≡ cond (lt_z (greatest k) z) (z -ℤ pos k.size) z
    wrap_by_max h = wrap_by_bounds ∙ by_test (lt_z (greatest k) z) (λ a. rw a) (λ a. rw (a, not_below h))

    pub wrap_by_min : up z + k.low < k.size + down z → wrap k z ≡ cond (lt_z z (least k)) (z +ℤ pos k.size) z
    wrap_by_min h = wrap_by_bounds ∙ rw (not_above h)
