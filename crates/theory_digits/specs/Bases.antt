-- Digits in the base b regrouped into digits in the base b ^ k, each of which stands for k of them, and back.
use Rattle.std.specs.Prelude.{List, [], ◌∷◌, ◌++◌, map, reverse, ℕ}
use Rattle.theory_lists.specs.Pieces.{first_pieces}
use Rattle.theory_digits.specs.Digits.{digits, value}

-- m * k digits in the base b as m digits in the base b ^ k
unfoldable pub larger : ℕ → ℕ → ℕ → List ℕ → List ℕ
larger b m k ds = map (value b) (first_pieces m k ds)

-- digits in the base b ^ k, each as k digits in the base b
unfoldable pub smaller : ℕ → ℕ → List ℕ → List ℕ
smaller b k [] = []
smaller b k (d ∷ ds) = digits b k d ++ smaller b k ds

-- `larger` and `smaller`, highest first
abbrev pub larger_high : ℕ → ℕ → ℕ → List ℕ → List ℕ
larger_high b m k ds = reverse (larger b m k (reverse ds))

abbrev pub smaller_high : ℕ → ℕ → List ℕ → List ℕ
smaller_high b k ds = reverse (smaller b k (reverse ds))
