use mathlib.Core.Path.{subst}
use mathlib.Core.List.{List}
use Prim.Native.Nat.{ℕ}
use Rattle.theory_text.specs.Text.{Begins}
use Rattle.text_read.specs.Reads.{Reads}
use Rattle.text_read.proofs.Answered.{within_reads}
use Rattle.text_read.proofs.read_first.Goals as goal

pub returns : goal.returns
returns c =
    let part = c.in_ok-get.ensures.lookup.0 in
    within_reads _ c.front.result (record { ordered = part.0; ends = part.1 }) (subst (λ (l : List ℕ). Reads (λ c. Begins c l) c.front.result) part.2 c.front.ensures)
