use mir.Syntax.{w64}
use Rattle.integers.specs.Signs.{known}
use Rattle.integers.proofs.isize.IsizeSigned.known.Goals as goal

pub returns : goal.returns
returns c = known w64 c.ranges.self
