use mathlib.Core.Path.{◌≡◌}
use mathlib.Core.Bool.{true}
use lib.ListN.{length}
use Rattle.theory_lists.proofs.Search.{each_start, says_all_next}
use Rattle.theory_lists.proofs.Below.{says_below}
use native.Mathlib.Omega.{arith}
use Rattle.text_ascii.proofs.all.Goals as goal

pub loop-byte-init : goal.loop-byte-init
loop-byte-init c = each_start true _ 0

pub loop-byte-preserved : goal.loop-byte-preserved
loop-byte-preserved c = let l = c.loop-byte in says_all_next _ l.all 0 l.byte-index (omega arith) l.invariant

pub returns : goal.returns
returns c =
    let l = c.loop-byte in
    let s = c.args.s.now in
    let e : l.byte-index ≡ length s = omega arith in
    says_below 0x80 s l.all (rw e at l.invariant)
