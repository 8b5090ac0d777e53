use mathlib.Core.Path.{◌≡◌, sym, ◌∙◌}
use mathlib.Core.List.{[], ◌∷◌}
use Prim.Native.Nat.{◌<◌}
use lib.ListN.{length, get_or}
use borrow.Author.Tests.{eqb-false}
use Rattle.theory_text.specs.Table.{first}
use Rattle.text_read.proofs.Padding.{four_first}
use native.Mathlib.Omega.{arith}
use Rattle.text_read.proofs.first_of.Goals as goal

pub returns : goal.returns
returns c =
    let s = c.args.s.now in
    let p : 0 < length s = omega (arith, eqb-false (length s) 0 (sym c.is_empty.ensures ∙ c.if-is_empty.false)) in
    let e : first s ≡ first (get_or s 0 0 ∷ c.byte_at.result ∷ c.byte_at-2.result ∷ c.byte_at-3.result ∷ []) =
    rw (c.byte_at.ensures, c.byte_at-2.ensures, c.byte_at-3.ensures) (sym (four_first s p)) in
    rw e c.length_of.ensures
