use Prim.Native.Nat.{◌+◌, ◌≤◌}
use mathlib.Core.Path.{◌≡◌}
use lib.ListN.{drop}
use Rattle.theory_text.specs.Boundary.{started}
use Rattle.text_valid.proofs.starts_in_block.Given as goal

abbrev pub invariant-loop-byte : goal.invariant-loop-byte
invariant-loop-byte l = (l.n ≤ l.byte-index) × (started l.block ≡ l.n + started (drop l.byte-index l.block))
