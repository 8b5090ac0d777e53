use mir.Syntax.{w16}
use Rattle.integers.specs.Signs.{known}
use Rattle.integers.proofs.i16.I16Signed.known.Goals as goal

pub returns : goal.returns
returns c = known w16 c.ranges.self
