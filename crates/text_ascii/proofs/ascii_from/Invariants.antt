use mathlib.Core.List.{List}
use Prim.Native.Nat.{ℕ, ◌-◌, ◌≤◌}
use lib.ListN.{length}
use Rattle.theory_lists.specs.Search.{All, holds_at, below}
use Rattle.text_ascii.proofs.ascii_from.Given as goal

-- both loops: the bytes from `from` up to i are ASCII, and i is not past the end unless `from` is
abbrev AsciiUpTo : List ℕ → ℕ → ℕ → Type 0
AsciiUpTo s from i = ((from ≤ i) × (from ≤ length s → i ≤ length s)) × All (holds_at (below 0x80) s) from i

abbrev pub invariant-loop-i : goal.invariant-loop-i
invariant-loop-i l = AsciiUpTo l.s l.from l.i

abbrev pub decreases-loop-i : goal.decreases-loop-i
decreases-loop-i l = length l.s - l.i

abbrev pub invariant-loop-i-2 : goal.invariant-loop-i-2
invariant-loop-i-2 l = AsciiUpTo l.s l.from l.i

abbrev pub decreases-loop-i-2 : goal.decreases-loop-i-2
decreases-loop-i-2 l = length l.s - l.i
