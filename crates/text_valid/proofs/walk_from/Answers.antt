use Rattle.text_valid.proofs.Onward.{reading_stuck, reading_end}
use Rattle.text_valid.proofs.walk_from.Goals as goal

pub returns-in_default : goal.returns-in_default
returns-in_default c = reading_stuck _ _ c.loop-at.invariant c.in_default.ensures

pub returns : goal.returns
returns c = reading_end _ _ c.loop-at.invariant c.loop-at-test.false
