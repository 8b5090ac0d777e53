use mathlib.Core.Path.{refl}
use Rattle.theory_answers.proofs.Says.{says_true, says_false}
use Rattle.theory_text.proofs.Boundaries.{boundary_splits, splits_boundary, splits_valid}
use Rattle.text_valid.proofs.split_at.Goals as goal

pub returns-in_err-is_boundary : goal.returns-in_err-is_boundary
returns-in_err-is_boundary c = rw c.from_residual.ensures (λ p. c.in_err-is_boundary.ensures (splits_valid _ _ p))

pub returns-then-branch : goal.returns-then-branch
returns-then-branch c = let t = c.in_ok-is_boundary.ensures in (boundary_splits _ t.0 _ (says_true t.1 c.if-branch.true), refl)

pub returns-else-branch : goal.returns-else-branch
returns-else-branch c = let t = c.in_ok-is_boundary.ensures in λ p. says_false t.1 c.if-branch.false (splits_boundary _ _ p)
