use Rattle.integers.specs.Narrow.{fitting}
use Rattle.integers.proofs.usize.UsizeUnsigned.from_u64.Goals as goal

pub returns : goal.returns
returns c = fitting 64 _ c.ranges.n.fits
