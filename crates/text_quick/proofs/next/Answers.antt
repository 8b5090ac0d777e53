use borrow.Author.Rules.{rules}
use Rattle.text_quick.proofs.Rule.{next_at}
use Rattle.text_quick.proofs.next.Goals as goal

pub returns : goal.returns
returns c = let a = c.args in next_at a.t.now a.b a.x c.requires.0 (search rules) c.requires.1
