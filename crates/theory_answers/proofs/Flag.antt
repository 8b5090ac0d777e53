-- A flag with a value says what the answer that may be none says.
use mathlib.Core.Path.{◌≡◌, refl, ap, sym, ◌∙◌}
use mathlib.Core.Bool.{Bool, true, false, true≢false, false≢true}
use Prim.Native.Nat.{ℕ}
use lib.IntN.{ℤ, pos}
use Rattle.std.specs.Prelude.{Option, Some, None, SomeIff, MatchOption}
use Rattle.std.specs.Option.{option_map}
use Rattle.theory_answers.specs.Says.{Says, Tells, Outcome}
use Rattle.theory_answers.specs.Answer.{Answers}
use Rattle.theory_answers.specs.Flag.{Flagged}

-- of a type whose values are whole numbers, and of which one is 0
pub flagged_answers : {A : Type 0} (whole : A → ℤ) {nothing : A} → whole nothing ≡ pos 0 → (ok : Bool) (v : A) (o : Option A) (a : Option ℤ)
    → option_map whole o ≡ a → Flagged ok v nothing o → Answers ok (whole v) a
flagged_answers whole z ok v None a e f = rw (sym e) (f.0, ap whole f.1 ∙ z)
flagged_answers whole z ok v (Some x) a e f = rw (sym e) (f.0, ap whole f.1)

pub flagged_outcome : {A : Type 0} (ok : Bool) {v nothing x : A} {P : Type 0} (o : Option A)
    → SomeIff o P x → Flagged ok v nothing o → Outcome ok P (v ≡ x) (v ≡ nothing)
flagged_outcome true None n f = absurd (true≢false f.0)
flagged_outcome false None n f = record { asked = n; given = f.1 }
flagged_outcome true (Some y) s f = record { asked = s.0; given = f.1 ∙ s.1 }
flagged_outcome false (Some y) s f = absurd (false≢true f.0)

-- with what is left besides
pub flagged_left : {A : Type 0} (ok : Bool) {v nothing x : A} {P : Type 0} (X Y : Type 0) (o : Option A)
    → SomeIff o P x → MatchOption o Y (λ _. X) → Flagged ok v nothing o → Outcome ok P ((v ≡ x) × X) ((v ≡ nothing) × Y)
flagged_left true X Y None n l f = absurd (true≢false f.0)
flagged_left false X Y None n l f = record { asked = n; given = (f.1, l) }
flagged_left true X Y (Some y) s l f = record { asked = s.0; given = (f.1 ∙ s.1, l) }
flagged_left false X Y (Some y) s l f = absurd (false≢true f.0)

-- a test
pub flagged_tells : (ok : Bool) {v : Bool} {P : Type 0} (Q : Type 0) (o : Option Bool) → Tells o P Q → Flagged ok v false o → Outcome ok P (Says v Q) (v ≡ false)
flagged_tells true Q None n f = absurd (true≢false f.0)
flagged_tells false Q None n f = record { asked = n; given = f.1 }
flagged_tells true Q (Some b) t f = record { asked = t.0; given = rw f.1 t.1 }
flagged_tells false Q (Some b) t f = absurd (false≢true f.0)

-- several values: what is said of them where x is given, and where nothing is
pub matched_outcome : {A : Type 0} (ok : Bool) {P Y : Type 0} {x : A} (X : A → Type 0) (o : Option A)
    → SomeIff o P x → MatchOption o ((ok ≡ false) × Y) (λ y. (ok ≡ true) × X y) → Outcome ok P (X x) Y
matched_outcome true X None n m = absurd (true≢false m.0)
matched_outcome false X None n m = record { asked = n; given = m.1 }
matched_outcome true X (Some y) s m = record { asked = s.0; given = rw s.1 at m.1 }
matched_outcome false X (Some y) s m = absurd (false≢true m.0)
