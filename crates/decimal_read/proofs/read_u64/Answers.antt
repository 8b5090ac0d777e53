use mathlib.Core.Path.{refl, sym, ◌∙◌}
use mathlib.Core.Logic.{⊎_elim}
use native.Mathlib.Omega.{arith}
use lib.IntN.{pos}
use lib.ListN.{length}
use Rattle.theory_whole.specs.Kind.{unsigned}
use Rattle.theory_answers.proofs.Answer.{answer, refusal, some_answer, no_answer}
use Rattle.theory_lists.specs.Part.{part}
use Rattle.theory_lists.proofs.Part.{length_part}
use Rattle.theory_decimal.proofs.Reading.{past_the_end, no_text, no_natural, nothing_yet, so_far_next, so_far_stuck, so_far_all}
use Rattle.decimal_read.proofs.Text.{of_the_part}
use Rattle.decimal_read.proofs.read_u64.Goals as goal

pub returns-then-s-to : goal.returns-then-s-to
returns-then-s-to c =
    let k = unsigned 64 in
    no_answer (pos 0) _ (⊎_elim (λ h. past_the_end _ k _ _ _ h) (λ h. no_text _ k _ _ _ no_natural h.0 h.1) c.then-s-to.either)

pub loop-c-init : goal.loop-c-init
loop-c-init c = nothing_yet 64 _ _

pub returns-in_err-n : goal.returns-in_err-n
returns-in_err-n c =
    let text = part c.args.from c.args.to c.args.s.now in
    let stuck = so_far_stuck 64 _ _ _ _ c.loop-c.invariant c.loop-c-test.true _ 0 (refusal _ (sym c.in_err-n.ensures)) refl
    (length text) c.loop-c-test.true (omega arith) in
    rw c.from_residual.ensures (no_answer (pos 0) _ stuck ∙ of_the_part (unsigned 64) _ _ _ (omega arith))

pub loop-c-preserved : goal.loop-c-preserved
loop-c-preserved c =
    so_far_next 64 _ _ _ _ c.loop-c.invariant c.loop-c-test.true _ _ (answer _ _ (sym c.in_ok-n.ensures)) refl

pub returns : goal.returns
returns c =
    let text = part c.args.from c.args.to c.args.s.now in
    let some = length_part {f = c.args.from} {t = c.args.to} {s = c.args.s.now} (record { ordered = omega arith; ends = omega arith }) in
    let all = so_far_all 64 _ _ _ (length text) _ c.loop-c.invariant (omega arith) (omega arith) (omega arith) in
    some_answer _ _ all ∙ of_the_part (unsigned 64) _ _ _ (omega arith)
