use Rattle.std.proofs.Common.{◌≡◌, take}
use Rattle.slices_mut.proofs.copy.Given as goal

abbrev pub invariant-loop-i : goal.invariant-loop-i
invariant-loop-i l = take l.i l.d ≡ take l.i l.s
