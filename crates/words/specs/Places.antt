-- Where a byte stands first.
use Rattle.std.specs.Prelude.{List, ℕ, min, length}
use Rattle.theory_lists.specs.Search.{Until, holds_at, is}

-- r is the first place of s from `from` on where v stands, or the end
abbrev pub FirstFrom : List ℕ → ℕ → ℕ → ℕ → Type 0
FirstFrom s from v r = Until (holds_at (is v) s) (min from (length s)) (length s) r
