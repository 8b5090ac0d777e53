use mathlib.Core.Path.{◌≡◌, sym, ap, ◌∙◌}
use mathlib.Core.List.{List, [], ◌∷◌}
use Prim.Native.Nat.{ℕ, ◌+◌, ◌<◌, ◌≤◌}
use native.Mathlib.Numerals.{add-one}
use native.Mathlib.Omega.{arith}
use lib.ListN.{length, get_or, set, take}
use lib.Seq.{take-suc, take_all, length-take-le}
use Rattle.theory_lists.specs.Written.{written}
use Rattle.theory_lists.proofs.Written.{length_written, written_none, written_one, written_twice_up}
use Rattle.text_write.proofs.put.Goals as goal

-- one byte more
next : (s new : List ℕ) (at k : ℕ) → k < length new → at + length new ≤ length s
    → set (written s at (take k new)) (at + k) (get_or new k 0) ≡ written s at (take (k + 1) new)
next s new at k h fits =
    let n : length (take k new) ≡ k = length-take-le k new (omega arith) in
    let l : length (written s at (take k new)) ≡ length s = length_written s at (take k new) (omega (arith, n)) in
    let one : List ℕ = get_or new k 0 ∷ [] in
    written_one (written s at (take k new)) (at + k) (get_or new k 0) (omega (arith, l))
    ∙ ap (λ (i : ℕ). written (written s at (take k new)) (at + i) one) (sym n)
    ∙ written_twice_up s at (take k new) one (omega (arith, n))
    ∙ rw (add-one, take-suc new k 0 h)

pub loop-k-init : goal.loop-k-init
loop-k-init g c = sym (written_none c.args.out.now c.args.at)

pub loop-k-preserved : goal.loop-k-preserved
loop-k-preserved g c =
    let a = c.args in
    let l = c.loop-k in
    rw l.invariant (next a.out.now a.bytes a.at l.k (omega arith) (omega arith))

pub returns : goal.returns
returns g c =
    let a = c.args in
    let l = c.loop-k in
    l.invariant ∙ ap (written a.out.now a.at) (take_all l.k a.bytes (omega arith))
