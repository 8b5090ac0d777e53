-- Two states told apart by a test.
use mathlib.Core.Path.{◌≡◌, refl, ap, ◌∙◌}
use mathlib.Core.Bool.{Bool, true, false, ◌&&◌}
use mathlib.Core.List.{List, [], ◌∷◌}
use Prim.Native.Nat.{ℕ, zero, suc, ◌+◌, ◌<◌, ◌≤◌}
use native.Mathlib.Omega.{arith}
use lib.Dec.{eqb}
use borrow.Author.Tests.{eqb-true, eqb-false}
use Rattle.theory_whole.proofs.Cases.{by_test, never, both_are}
use Rattle.theory_text.specs.Table.{Range, ◌to◌, After, more, wrong}

abbrev same_range : Range → Range → Bool
same_range r t = eqb r.low t.low && eqb r.high t.high

abbrev same_ranges : List Range → List Range → Bool
same_ranges [] [] = true
same_ranges [] (t ∷ ts) = false
same_ranges (r ∷ rs) [] = false
same_ranges (r ∷ rs) (t ∷ ts) = same_range r t && same_ranges rs ts

abbrev pub same : After → After → Bool
same wrong wrong = true
same wrong (more ts) = false
same (more rs) wrong = false
same (more rs) (more ts) = same_ranges rs ts

same_range_lem : (r t : Range) → same_range r t ≡ true → r ≡ t
same_range_lem r t e =
    let p = both_are (eqb r.low t.low) (eqb r.high t.high) e in
    let l = eqb-true r.low t.low p.0 in
    let h = eqb-true r.high t.high p.1 in
    (λ i. l i to h i)

same_ranges_lem : (rs ts : List Range) → same_ranges rs ts ≡ true → rs ≡ ts
same_ranges_lem [] [] e = refl
same_ranges_lem [] (t ∷ ts) e = never e refl
same_ranges_lem (r ∷ rs) [] e = never e refl
same_ranges_lem (r ∷ rs) (t ∷ ts) e =
    let p = both_are (same_range r t) (same_ranges rs ts) e in
    let q = same_range_lem r t p.0 in
    let qs = same_ranges_lem rs ts p.1 in
    (λ i. q i ∷ qs i)

pub are_same : (a b : After) → same a b ≡ true → a ≡ b
are_same wrong wrong e = refl
are_same wrong (more ts) e = never e refl
are_same (more rs) wrong e = never e refl
are_same (more rs) (more ts) e = ap more (same_ranges_lem rs ts e)

-- a test of the n numbers from a on
abbrev pub every : (ℕ → Bool) → ℕ → ℕ → Bool
every f a zero = true
every f a (suc n) = f a && every f (suc a) n

pub each : (f : ℕ → Bool) (a n : ℕ) → every f a n ≡ true → (k : ℕ) → a ≤ k → k < a + n → f k ≡ true
each f a zero e k l h = absurd (omega arith)
each f a (suc n) e k l h =
    let p = both_are (f a) (every f (suc a) n) e in
    by_test (eqb k a)
    (λ t. ap f (eqb-true k a t) ∙ p.0)
    (λ t. let d = eqb-false k a t in each f (suc a) n p.1 k (omega arith) (omega arith))
