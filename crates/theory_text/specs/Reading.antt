-- Text as it is read from the front: scalar after scalar, as far as it goes.
use Rattle.std.specs.Prelude.{ℕ, zero, suc, ◌+◌, ◌*◌, ◌%◌, ◌≤◌, ◌≡◌, List, [], ◌∷◌, length, get_or, drop}
use Rattle.theory_text.specs.Text.{encode}
use Rattle.theory_text.specs.Table.{first}

-- the value of n bytes that have the marks of a form
abbrev pub value_of : ℕ → ℕ → ℕ → ℕ → ℕ → ℕ
value_of zero b0 b1 b2 b3 = 0
value_of (suc zero) b0 b1 b2 b3 = b0
value_of (suc (suc zero)) b0 b1 b2 b3 = b0 % 32 * 64 + b1 % 64
value_of (suc (suc (suc zero))) b0 b1 b2 b3 = (b0 % 16 * 64 + b1 % 64) * 64 + b2 % 64
value_of (suc (suc (suc (suc n)))) b0 b1 b2 b3 = ((b0 % 8 * 64 + b1 % 64) * 64 + b2 % 64) * 64 + b3 % 64

abbrev pub decoded : ℕ → List ℕ → ℕ
decoded n bs = value_of n (get_or bs 0 0) (get_or bs 1 0) (get_or bs 2 0) (get_or bs 3 0)

-- the scalars that are read, and the bytes at which no scalar begins any more; the first so many bytes belong to a scalar that was read
unfoldable pub scalars_from : ℕ → List ℕ → List ℕ
scalars_from k [] = []
scalars_from (suc k) (b ∷ bs) = scalars_from k bs
scalars_from zero (b ∷ bs) = elim (first (b ∷ bs)) [ zero ↦ [] | suc k ↦ decoded (suc k) (b ∷ bs) ∷ scalars_from k bs ]

unfoldable pub rest_from : ℕ → List ℕ → List ℕ
rest_from k [] = []
rest_from (suc k) (b ∷ bs) = rest_from k bs
rest_from zero (b ∷ bs) = elim (first (b ∷ bs)) [ zero ↦ b ∷ bs | suc k ↦ rest_from k bs ]

abbrev pub scalars : List ℕ → List ℕ
scalars bs = scalars_from 0 bs

abbrev pub rest : List ℕ → List ℕ
rest bs = rest_from 0 bs

-- how far the text is valid: the place behind the last scalar that is read
abbrev pub valid_to : List ℕ → ℕ
valid_to bs = length (encode (scalars bs))

-- all before the place was read, and what is left of s is read from there on
pub record ReadFrom (s : List ℕ) (at : ℕ) : Type 0 where
  pub inside : at ≤ length s
  pub same : rest (drop at s) ≡ rest s
