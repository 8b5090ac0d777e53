-- How an answer is used, and that it is pinned: one question has one answer.
use mathlib.Core.Path.{◌≡◌, refl}
use mathlib.Core.Bool.{Bool, true, false}
use Rattle.theory_answers.specs.Says.{Says, Given, Outcome}

pub says_true : {b : Bool} {P : Type 0} → Says b P → b ≡ true → P
says_true {b} {P} s e = rw e at s

pub says_false : {b : Bool} {P : Type 0} → Says b P → b ≡ false → P → ⊥
says_false {b} {P} s e = rw e at s

-- the same of a test that has been made
pub it_says : {b : Bool} {P : Type 0} → Says b P → true ≡ b → P
it_says {b} {P} s e = rw (← e) at s

pub it_denies : {b : Bool} {P : Type 0} → Says b P → false ≡ b → P → ⊥
it_denies {b} {P} s e = rw (← e) at s

pub true_where : (b : Bool) {P : Type 0} → Says b P → P → b ≡ true
true_where true s p = refl
true_where false s p = absurd (s p)

pub false_where : (b : Bool) {P : Type 0} → Says b P → (P → ⊥) → b ≡ false
false_where true s n = absurd (n s)
false_where false s n = refl

-- the same question in other words
pub says_alike : (b : Bool) {P Q : Type 0} → (P → Q) → (Q → P) → Says b P → Says b Q
says_alike true f g s = f s
says_alike false f g s = λ q. s (g q)

pub pinned_says : (b b' : Bool) (P : Type 0) → Says b P → Says b' P → b ≡ b'
pinned_says true true P s s' = refl
pinned_says true false P s s' = absurd (s' s)
pinned_says false true P s s' = absurd (s s')
pinned_says false false P s s' = refl

module _ {ok : Bool} {P X Y : Type 0} (o : Outcome ok P X Y) where
  pub ok_tells : ok ≡ true → P × X
  ok_tells e = (says_true o.asked e, rw e at o.given)

  pub refused_tells : ok ≡ false → (P → ⊥) × Y
  refused_tells e = (says_false o.asked e, rw e at o.given)

  pub ok_where : P → (ok ≡ true) × X
  ok_where p = let e = true_where ok o.asked p in (e, (ok_tells e).1)

  pub refused_where : (P → ⊥) → (ok ≡ false) × Y
  refused_where n = let e = false_where ok o.asked n in (e, (refused_tells e).1)

-- the same answer in other words: what was asked, and what each outcome says
pub outcome_alike : {ok : Bool} {P Q X Z Y W : Type 0} → (P → Q) → (Q → P) → (P → X → Z) → (Y → W) → Outcome ok P X Y → Outcome ok Q Z W
outcome_alike {ok} {P} {Q} {X} {Z} {Y} {W} to from given left o = record { asked = says_alike ok to from o.asked; given = by ok o.asked o.given }
  where
    by : (b : Bool) → Says b P → Given b X Y → Given b Z W
    by true p x = given p x
    by false n y = left y

-- two answers to one question are both ok or both refused; so they are equal in what both outcomes settle
pub pinned_outcome : {ok ok' : Bool} {P X X' Y Y' E : Type 0}
    → Outcome ok P X Y → Outcome ok' P X' Y' → (X → X' → E) → (Y → Y' → E) → (ok ≡ ok') × E
pinned_outcome {ok = true} {ok' = true} o o' given left = (refl, given o.given o'.given)
pinned_outcome {ok = true} {ok' = false} o o' given left = absurd (o'.asked o.asked)
pinned_outcome {ok = false} {ok' = true} o o' given left = absurd (o.asked o'.asked)
pinned_outcome {ok = false} {ok' = false} o o' given left = (refl, left o.given o'.given)
