use mathlib.Core.Path.{sym}
use Rattle.theory_answers.proofs.Says.{says_true}
use Rattle.theory_text.proofs.Ascii.{ascii_valid}
use Rattle.theory_text.proofs.Unique.{valid_all}
use Rattle.text_valid.proofs.valid_up_to.Goals as goal

pub returns-then-is_ascii : goal.returns-then-is_ascii
returns-then-is_ascii c =
    let s = c.args.s.now in
    sym (valid_all s (ascii_valid s (says_true c.is_ascii.ensures c.if-is_ascii.true)))
