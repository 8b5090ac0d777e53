use mathlib.Core.List.{List}
use Prim.Native.Nat.{ℕ, ◌-◌}
use lib.ListN.{length, take, drop, length-drop}
use lib.Seq.{take_all}
use mathlib.Core.Path.{◌≡◌, sym, ◌∙◌}
use borrow.Author.Tests.{eqb-true}
use Rattle.theory_text.proofs.ReadIs.{end_none, end_some, end_empty}
use native.Mathlib.Omega.{arith}
use Rattle.text_read.proofs.end.Goals as goal

-- the last k elements, as the code takes them
last : (s : List ℕ) (k : ℕ) → take (length s - (length s - k)) (drop (length s - k) s) ≡ drop (length s - k) s
last s k = take_all (length s - (length s - k)) (drop (length s - k) s) (omega (arith, length-drop (length s - k) s))

pub returns-then-is_empty : goal.returns-then-is_empty
returns-then-is_empty c = let s = c.args.s.now in end_empty s (eqb-true (length s) 0 (sym c.is_empty.ensures ∙ c.if-is_empty.true))

pub returns-in_err-first_of : goal.returns-in_err-first_of
returns-in_err-first_of c =
    let s = c.args.s.now in
    let b = c.back-length in
    let f = rw (last s b.result) at c.in_err-first_of.ensures in
    rw c.from_residual.ensures (end_none s b.result b.ensures (λ q. omega (arith, b.ensures.some, f, q)))

pub returns-then-branch-length : goal.returns-then-branch-length
returns-then-branch-length c =
    let s = c.args.s.now in
    let b = c.back-length in
    let f = rw (last s b.result) at c.in_ok-first_of.ensures in
    end_none s b.result b.ensures (λ q. c.if-branch-length.true (f.1 ∙ q))

pub returns : goal.returns
returns c =
    let s = c.args.s.now in
    let b = c.back-length in
    let f = rw (last s b.result) at c.in_ok-first_of.ensures in
    let v = rw (last s b.result) at c.value_at.ensures in
    end_some s b.result b.ensures _ (sym f.1 ∙ c.if-branch-length.false) v
