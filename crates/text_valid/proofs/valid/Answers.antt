use mathlib.Core.Path.{sym, ◌∙◌}
use lib.Dec.{eqb}
use lib.ListN.{length}
use Rattle.theory_answers.proofs.Says.{says_alike}
use Rattle.theory_answers.proofs.Tests.{says_equal}
use Rattle.theory_text.proofs.Unique.{all_valid, valid_all}
use Rattle.text_valid.proofs.valid.Goals as goal

pub returns : goal.returns
returns c =
    let s = c.args.s.now in
    let to = c.valid_up_to in
    says_alike (eqb to.result (length s)) (λ e. all_valid s (sym to.ensures ∙ e)) (λ v. to.ensures ∙ valid_all s v) (says_equal to.result (length s))
