use borrow.Author.Rules.{rules}
use native.Mathlib.Omega.{arith}
use mathlib.Core.Path.{◌≡◌, ap, ◌∙◌}
use Prim.Native.Nat.{ℕ}
use Rattle.theory_lists.specs.Part.{part}
use Rattle.theory_lists.specs.Written.{written}
use Rattle.theory_lists.proofs.Moved.{copied_none}
use Rattle.slices_move.proofs.copy_within.Goals as goal

pub returns-then-n-eq0 : goal.returns-then-n-eq0
returns-then-n-eq0 c =
    let a = c.args in
    let s = a.s.now in
    let e : a.from ≡ a.to = omega arith in
    record { asked = (search rules, omega arith); given = copied_none s s a.from a.at ∙ ap (λ (t : ℕ). written s a.at (part a.from t s)) e }
