use Rattle.std.proofs.Common.{◌≡◌, take, reverse}
use Rattle.slices_reverse.proofs.turn.Given as goal

abbrev pub invariant-loop-i : goal.invariant-loop-i
invariant-loop-i l = take l.i l.d ≡ take l.i (reverse l.s)
