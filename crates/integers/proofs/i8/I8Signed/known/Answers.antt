use mir.Syntax.{w8}
use Rattle.integers.specs.Signs.{known}
use Rattle.integers.proofs.i8.I8Signed.known.Goals as goal

pub returns : goal.returns
returns c = known w8 c.ranges.self
