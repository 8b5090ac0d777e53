-- These bytes changed, no others: what every function that writes into a lent slice says of it.
use Rattle.std.specs.Prelude.{◌≡◌, Bool, List, ◌++◌, ℕ, ◌+◌, ◌≤◌, length, take, drop}
use Rattle.theory_answers.specs.Says.{Outcome}

-- s with the elements of new from place at on
unfoldable pub written : List ℕ → ℕ → List ℕ → List ℕ
written s at new = take at s ++ (new ++ drop (length new) (drop at s))

-- `ok` and `after` are how a writer answers and what it leaves: refused, and all as it was, where `new` at the place would run past the end
abbrev pub Writes : Bool → List ℕ → ℕ → List ℕ → List ℕ → Type 0
Writes ok before at new after = Outcome ok (at + length new ≤ length before) (after ≡ written before at new) (after ≡ before)
