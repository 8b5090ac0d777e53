use Rattle.std.proofs.Common.{rules, tests}
use Rattle.std.proofs.lemmas.Iterator.Consumers.{count_from_yields_List}
use Rattle.std.proofs.lemmas.Iterator.Splits.{YieldsList-from_slice_split}
use Rattle.words.proofs.line.Words.of.Goals as goal

pub returns : goal.returns
returns c =
    let split = c.split.ensures in
    count_from_yields_List _ _ c.count.ensures.ran (YieldsList-from_slice_split _ _ c.args.line.now split.rest split.done split.closure (λ x r q k. search (rules, tests)))
