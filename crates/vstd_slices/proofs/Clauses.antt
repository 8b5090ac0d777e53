-- vstd's clauses by themselves. Most pin the answer: Some or None, and what is in Some. Two leave it open, and the two answers stand here.
use mathlib.Core.Path.{◌≡◌, refl, sym, ◌∙◌}
use mathlib.Core.Bool.{Bool, true, false}
use mathlib.Core.List.{List, [], ◌∷◌}
use Prim.Native.Nat.{ℕ}
use native.Mathlib.Decide.{dec_lt, ℕ_discrete}
use native.Mathlib.Omega.{arith}
use lib.ListN.{length}
use Rattle.theory_whole.proofs.Cases.{never}
use Rattle.vstd_slices.specs.Slices.{Got, SomeUnlessEmpty, SplitAt, SplitFirst, FalseWhereLonger, PartsJoined}
use Rattle.vstd_slices.proofs.Sequences.{subrange_pinned}

-- ---- pinned

pub got_clause_pinned : (ok ok' : Bool) (x x' : ℕ) (s : List ℕ) (i : ℕ) → Got ok x s i → Got ok' x' s i → (ok ≡ ok') × (ok ≡ true → x ≡ x')
got_clause_pinned true true x x' s i p q = (refl, λ e. p.1 ∙ sym q.1)
got_clause_pinned true false x x' s i p q = absurd (q p.0)
got_clause_pinned false true x x' s i p q = absurd (p q.0)
got_clause_pinned false false x x' s i p q = (refl, λ e. never e refl)

-- None where P, and elsewhere Some with one answer
none_or_same : {P Same : Type 0} {ok ok' : Bool} → Dec P → (P → ok ≡ false) → (P → ok' ≡ false) → ((P → ⊥) → (ok ≡ true) × (ok' ≡ true) × Same)
    → (ok ≡ ok') × (ok ≡ true → Same)
none_or_same (yes e) p q some = (p e ∙ sym (q e), λ o. never o (p e))
none_or_same (no n) p q some = let s = some n in (s.0 ∙ sym s.1, λ o. s.2)

-- the first and the last
pub ends_clause_pinned : (ok ok' : Bool) (x x' : ℕ) (s : List ℕ) (y : ℕ) → SomeUnlessEmpty ok x s y → SomeUnlessEmpty ok' x' s y → (ok ≡ ok') × (ok ≡ true → x ≡ x')
ends_clause_pinned ok ok' x x' s y p q =
    none_or_same (ℕ_discrete (length s) 0) p.none q.none (λ n. ((p.present n).0, (q.present n).0, (p.present n).1 ∙ sym (q.present n).1))

pub split_at_clause_pinned : (ok ok' : Bool) (a b a' b' s : List ℕ) (m : ℕ) → SplitAt ok a b s m → SplitAt ok' a' b' s m → (ok ≡ ok') × (ok ≡ true → (a ≡ a') × (b ≡ b'))
split_at_clause_pinned ok ok' a b a' b' s m p q =
    none_or_same (dec_lt (length s) m) p.outside q.outside
    (λ n.
    let i = p.inside (omega arith) in
    let j = q.inside (omega arith) in
    (i.0, j.0, (subrange_pinned i.1 j.1, subrange_pinned i.2 j.2)))

pub split_first_clause_pinned : (ok ok' : Bool) (x x' : ℕ) (b b' s : List ℕ) → SplitFirst ok x b s → SplitFirst ok' x' b' s → (ok ≡ ok') × (ok ≡ true → (x ≡ x') × (b ≡ b'))
split_first_clause_pinned ok ok' x x' b b' s p q =
    none_or_same (ℕ_discrete (length s) 0) p.none q.none
    (λ n.
    let i = p.present (omega arith) in
    let j = q.present (omega arith) in
    (i.0, j.0, (i.1 ∙ sym j.1, subrange_pinned i.2 j.2)))

-- ---- open

-- where the equality of elements is not known to be lawful, both answers keep vstd's clause
pub longer_clause_open : (s : List ℕ) → FalseWhereLonger true s [] × FalseWhereLonger false s []
longer_clause_open s = ((λ l. absurd (omega arith)), (λ l. refl))

-- split_at_mut's clause does not say where the parts meet at the end: of 1 2 3, split after 1, either may have taken the 2
pub parts_clause_open : PartsJoined (1 ∷ 2 ∷ 3 ∷ []) (1 ∷ []) (2 ∷ 3 ∷ []) × PartsJoined (1 ∷ 2 ∷ 3 ∷ []) (1 ∷ 2 ∷ []) (3 ∷ [])
parts_clause_open = (refl, refl)
