-- A part that is read as a text of its own.
use mathlib.Core.Path.{◌≡◌, sym, ap, ◌∙◌}
use mathlib.Core.List.{List}
use Prim.Native.Nat.{ℕ, ◌-◌, ◌≤◌}
use native.Mathlib.Omega.{arith}
use lib.ListN.{length}
use lib.Seq.{take_all}
use Rattle.theory_whole.specs.Kind.{Kind}
use Rattle.theory_lists.specs.Part.{part}
use Rattle.theory_decimal.specs.Read.{saying_natural, fitting, natural_in}
use Rattle.theory_decimal.proofs.Reading.{read_part, no_natural}

pub of_the_part : (k : Kind) (f t : ℕ) (s : List ℕ) → t ≤ length s → natural_in k 0 (length (part f t s)) (part f t s) ≡ natural_in k f t s
of_the_part k f t s h =
    let text = part f t s in
    read_part saying_natural k 0 (length text) text no_natural (omega arith)
    ∙ ap (λ (r : List ℕ). fitting k (saying_natural r)) (take_all (length text - 0) text (omega arith))
    ∙ sym (read_part saying_natural k f t s no_natural h)
