use mir.Syntax.{w32}
use Rattle.integers.specs.Signs.{known}
use Rattle.integers.proofs.i32.I32Signed.known.Goals as goal

pub returns : goal.returns
returns c = known w32 c.ranges.self
