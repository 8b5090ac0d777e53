-- Bytes, or scalars, below 0x80.
use Rattle.std.specs.Prelude.{ℕ, ◌<◌, ◌≤◌, List, length, get_or}
use Rattle.theory_lists.specs.Bounds.{AllBelow}
use Rattle.theory_lists.specs.Part.{part}

abbrev pub Ascii : List ℕ → Type 0
Ascii s = AllBelow 0x80 s

-- the place t is the first from f on where no ASCII stands, or the end
pub record AsciiRun (s : List ℕ) (f t : ℕ) : Type 0 where
  pub ordered : f ≤ t
  pub inside : f ≤ length s → t ≤ length s
  pub ascii : Ascii (part f t s)
  pub stops : t < length s → 0x80 ≤ get_or s t 0
