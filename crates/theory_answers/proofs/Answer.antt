-- What an answer is, from its test; that it is pinned; and that `Answers` is an `Outcome`.
use mathlib.Core.Path.{◌≡◌, refl, ap}
use mathlib.Core.Logic.{◌↔◌}
use mathlib.Core.Bool.{Bool, true, false, true≢false, false≢true}
use lib.IntN.{ℤ, pos}
use Rattle.theory_answers.specs.Says.{Outcome}
use Rattle.theory_answers.specs.Answer.{only_if, Answers}
use Rattle.std.specs.Prelude.{Option, Some, None}

pub answer : (a : Option ℤ) (v : ℤ) → a ≡ Some v → Answers true v a
answer a v e = rw e (refl, refl)

pub refusal : (a : Option ℤ) → a ≡ None → Answers false (pos 0) a
refusal a e = rw e (refl, refl)

pub only_if_so : (t : Bool) (a : Option ℤ) → t ≡ true → only_if t a ≡ a
unfolding only_if
only_if_so t a e = rw e

pub only_if_not : (t : Bool) (a : Option ℤ) → t ≡ false → only_if t a ≡ None
unfolding only_if
only_if_not t a e = rw e

-- the answer itself, where it is given and where it is refused
pub some_answer : (v : ℤ) (a : Option ℤ) → Answers true v a → Some v ≡ a
some_answer v None s = absurd (true≢false s.0)
some_answer v (Some z) s = ap Some s.1

pub no_answer : (v : ℤ) (a : Option ℤ) → Answers false v a → None ≡ a
no_answer v None s = refl
no_answer v (Some z) s = absurd (false≢true s.0)

-- two functions that give one answer give it alike
pub pinned_answer : (ok ok' : Bool) (v v' : ℤ) (a : Option ℤ) → Answers ok v a → Answers ok' v' a → (ok ≡ ok') × (v ≡ v')
pinned_answer ok ok' v v' None p q = ((cc), (cc))
pinned_answer ok ok' v v' (Some z) p q = ((cc), (cc))

-- the two forms of an answer say the same: `Answers` is an `Outcome`
pub answers_outcome : (ok : Bool) (v : ℤ) (t : Bool) (z : ℤ) → Answers ok v (only_if t (Some z)) ↔ Outcome ok (t ≡ true) (v ≡ z) (v ≡ pos 0)
unfolding only_if
answers_outcome true v true z = (λ a. record { asked = refl; given = a.1 }, λ o. (refl, o.given))
answers_outcome true v false z = (λ a. absurd (true≢false a.0), λ o. absurd (false≢true o.asked))
answers_outcome false v true z = (λ a. absurd (false≢true a.0), λ o. absurd (o.asked refl))
answers_outcome false v false z = (λ a. record { asked = false≢true; given = a.1 }, λ o. (refl, o.given))
