-- A list in pieces of n, of which the last may be shorter.
use Rattle.std.specs.Prelude.{List, [], ◌∷◌, ◌++◌, ℕ, zero, suc, ◌+◌, ◌-◌, ◌/◌, length, take, drop}

-- how many pieces of n a list of the given length has
unfoldable pub count : ℕ → ℕ → ℕ
count n len = (len + (n - 1)) / n

-- the first so many pieces
unfoldable pub first_pieces : ℕ → ℕ → List ℕ → List (List ℕ)
first_pieces zero n s = []
first_pieces (suc k) n s = take n s ∷ first_pieces k n (drop n s)

unfoldable pub pieces : ℕ → List ℕ → List (List ℕ)
pieces n s = first_pieces (count n (length s)) n s

-- the pieces one after another
unfoldable pub joined : List (List ℕ) → List ℕ
joined [] = []
joined (p ∷ ps) = p ++ joined ps
