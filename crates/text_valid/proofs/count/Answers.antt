use mathlib.Core.Path.{◌∙◌}
use Rattle.theory_answers.proofs.Says.{says_true}
use Rattle.theory_text.proofs.Counts.{started_valid}
use Rattle.text_valid.proofs.count.Goals as goal

pub returns-then-valid : goal.returns-then-valid
returns-then-valid c = let v = says_true c.valid.ensures c.if-valid.true in (v, c.starts_in.ensures ∙ started_valid _ v)
