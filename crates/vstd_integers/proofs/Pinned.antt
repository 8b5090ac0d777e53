-- Pinned: two answers that both keep a promise, for the same arguments, are equal. A promise that is an equation or an Option is pinned by one of these
-- laws, at every width.
use mathlib.Core.Path.{◌≡◌, sym, ap, ◌∙◌}
use mathlib.Core.Bool.{Bool}
use Prim.Native.Nat.{ℕ}
use lib.IntN.{ℤ, pos, nat_abs}
use Rattle.theory_answers.specs.Answer.{Answers}
use Rattle.std.specs.Prelude.{Option}
use Rattle.theory_answers.proofs.Answer.{pinned_answer}

pub pinned_equation : {A : Type 0} {r s v : A} → r ≡ v → s ≡ v → r ≡ s
pinned_equation p q = p ∙ sym q

pub pinned_unsigned : {r s : ℕ} {v : ℤ} → pos r ≡ v → pos s ≡ v → r ≡ s
pinned_unsigned p q = ap nat_abs (p ∙ sym q)

pub pinned_option : (ok ok' : Bool) (r s : ℤ) (a : Option ℤ) → Answers ok r a → Answers ok' s a → (ok ≡ ok') × (r ≡ s)
pinned_option = pinned_answer

pub pinned_unsigned_option : (ok ok' : Bool) (r s : ℕ) (a : Option ℤ) → Answers ok (pos r) a → Answers ok' (pos s) a → (ok ≡ ok') × (r ≡ s)
pinned_unsigned_option ok ok' r s a p q = let e = pinned_answer ok ok' (pos r) (pos s) a p q in (e.0, ap nat_abs e.1)
