use Rattle.number_bytes.proofs.Steps.{turned_parts, one_turned}
use Prim.Native.Nat.{◌/◌}
use Rattle.number_bytes.proofs.turned_2.Goals as goal

pub returns : goal.returns
returns c = rw (← one_turned c.args.x, ← one_turned (c.args.x / 256)) (turned_parts 1 1 c.args.x)
