use Prim.Native.Nat.{◌+◌}
use mathlib.Core.Path.{◌≡◌}
use Rattle.theory_text.specs.Boundary.{started}
use Rattle.text_valid.proofs.starts_in.Given as goal

abbrev pub invariant-loop-block : goal.invariant-loop-block
invariant-loop-block l = (started l.s ≡ l.n + started l.block-iterator.rest.now) × (l.block-iterator.size ≡ 192)
