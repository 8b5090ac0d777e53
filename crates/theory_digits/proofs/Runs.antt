-- The run at the front of a list: what stands in it, what ends it, and that no other number says as much.
use mathlib.Core.Path.{◌≡◌, refl}
use mathlib.Core.List.{List, [], ◌∷◌}
use Prim.Native.Nat.{ℕ, zero, suc, ◌≤◌, ◌<◌, zero-le}
use native.Mathlib.Omega.{arith}
use borrow.Author.Tests.{eq-eqb, ne_eqb, eqb-true, eqb-false}
use lib.Dec.{eqb}
use lib.ListN.{length, get_or, take, replicate}
use Rattle.theory_whole.proofs.Cases.{by_test}
use Rattle.theory_digits.specs.Runs.{run}

pub run_goes_on : {d x : ℕ} (xs : List ℕ) → x ≡ d → run d (x ∷ xs) ≡ suc (run d xs)
unfolding run
run_goes_on {d} {x} xs e = rw (eq-eqb x d e)

pub run_stops : {d x : ℕ} (xs : List ℕ) → (x ≡ d → ⊥) → run d (x ∷ xs) ≡ 0
unfolding run
run_stops {d} {x} xs n = rw (ne_eqb x d n)

-- whether the first element is d
by_first : (P : Type 0) (x d : ℕ) → (x ≡ d → P) → ((x ≡ d → ⊥) → P) → P
by_first P x d f g = by_test (eqb x d) (λ e. f (eqb-true x d e)) (λ e. g (eqb-false x d e))

pub run_within : (d : ℕ) (xs : List ℕ) → run d xs ≤ length xs
unfolding run
run_within d [] = zero-le
run_within d (x ∷ xs) =
    let ih = run_within d xs in
    by_first (run d (x ∷ xs) ≤ suc (length xs)) x d (λ e. omega (arith, run_goes_on xs e)) (λ n. omega (arith, run_stops xs n))

-- n elements at the front are d exactly where the run is as long
pub reached : (d n : ℕ) (xs : List ℕ) → n ≤ run d xs → take n xs ≡ replicate n d
unfolding run
reached d zero xs h = refl
reached d (suc n) [] h = absurd (omega arith)
reached d (suc n) (x ∷ xs) h =
    by_first (x ∷ take n xs ≡ replicate (suc n) d) x d
    (λ e. let g = run_goes_on xs e in rw (e, reached d n xs (omega arith)))
    (λ m. let g = run_stops xs m in let none : ⊥ = omega arith in absurd none)

pub reaches : (d n : ℕ) (xs : List ℕ) → n ≤ length xs → take n xs ≡ replicate n d → n ≤ run d xs
unfolding run
reaches d zero xs l e = zero-le
reaches d (suc n) [] l e = absurd (omega arith)
reaches d (suc n) (x ∷ xs) l e =
    let first : x ≡ d = cc in
    let others : take n xs ≡ replicate n d = cc in
    let ih = reaches d n xs (omega arith) others in
    omega (arith, run_goes_on xs first)

pub run_before : (d : ℕ) (xs : List ℕ) (i : ℕ) → i < run d xs → get_or xs i 0 ≡ d
unfolding run
run_before d [] i h = absurd (omega arith)
run_before d (x ∷ xs) zero h = by_first (x ≡ d) x d (λ e. e) (λ n. let g = run_stops xs n in let none : ⊥ = omega arith in absurd none)
run_before d (x ∷ xs) (suc i) h =
    by_first (get_or xs i 0 ≡ d) x d
    (λ e. let g = run_goes_on xs e in run_before d xs i (omega arith))
    (λ n. let g = run_stops xs n in let none : ⊥ = omega arith in absurd none)

pub run_ended : (d : ℕ) (xs : List ℕ) → run d xs < length xs → get_or xs (run d xs) 0 ≡ d → ⊥
unfolding run
run_ended d [] h e = omega arith
run_ended d (x ∷ xs) h e =
    by_first ⊥ x d
    (λ y. let g = run_goes_on xs y in run_ended d xs (omega arith) (rw g at e))
    (λ n. let g = run_stops xs n in n (rw g at e))

-- a number that says as much is the run
pub run_is : (d t : ℕ) (xs : List ℕ) → t ≤ length xs → ((i : ℕ) → i < t → get_or xs i 0 ≡ d) → (t < length xs → get_or xs t 0 ≡ d → ⊥) → t ≡ run d xs
run_is d t xs within before ended =
    let less : t < run d xs → ⊥ = λ l. ended (omega (arith, run_within d xs)) (run_before d xs t l) in
    let more : run d xs < t → ⊥ = λ l. run_ended d xs (omega arith) (before (run d xs) l) in
    omega arith
