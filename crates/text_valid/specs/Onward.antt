-- One step of reading from the front: from a place to the next that is left to read, or none where no scalar begins.
use Rattle.std.specs.Prelude.{ℕ, ◌<◌, ◌≤◌, ◌≡◌, List, length, drop, Option, Some, None}
use Rattle.theory_text.specs.Table.{first}
use Rattle.theory_text.specs.Reading.{rest}

pub record Past (s : List ℕ) (at next : ℕ) : Type 0 where
  pub further : at < next
  pub inside : next ≤ length s
  pub same : rest (drop next s) ≡ rest (drop at s)

abbrev pub Onward : List ℕ → ℕ → Option ℕ → Type 0
Onward s at None = first (drop at s) ≡ 0
Onward s at (Some next) = Past s at next
