-- The places between scalars. In valid text these are the ends and the places where no byte 10xxxxxx stands.
use Rattle.std.specs.Prelude.{ℕ, suc, ◌-◌, ◌<◌, ◌≤◌, ◌≡◌, Bool, true, false, not, cond, List, [], ◌∷◌, length, get_or, take, drop}
use Rattle.theory_text.specs.Text.{encode, Valid}
use Rattle.theory_text.specs.Reading.{scalars}
use Rattle.theory_text.specs.Scalar.{follows}

-- where the n-th of the scalars begins; the end, where there are just n
abbrev pub place : List ℕ → ℕ → ℕ
place cs n = length (encode (take n cs))

-- in valid text: before, between or behind its scalars
abbrev pub Boundary : List ℕ → ℕ → Type 0
Boundary s at = (n : ℕ) × (n ≤ length (scalars s)) × (at ≡ place (scalars s) n)

-- the place splits s into two texts
pub record Splits (s : List ℕ) (at : ℕ) : Type 0 where
  pub inside : at ≤ length s
  pub before : Valid (take at s)
  pub behind : Valid (drop at s)

-- what a boundary looks like; past the end counts as 0, which is no 10xxxxxx
abbrev pub starts : List ℕ → ℕ → Bool
starts s at = not (follows (get_or s at 0))

-- how many bytes of s are no 10xxxxxx
unfoldable pub started : List ℕ → ℕ
started [] = 0
started (b ∷ s) = cond (follows b) (started s) (suc (started s))

-- how far to go back from the end of s for the start of a scalar: k bytes, all of them 10xxxxxx but the first; that one is none,
-- unless going back ends there because it is the fourth from the end, or the first of s
pub record Back (s : List ℕ) (k : ℕ) : Type 0 where
  pub some : 0 < k
  pub most : k ≤ 4
  pub inside : k ≤ length s
  pub behind : (j : ℕ) → 0 < j → j < k → follows (get_or s (length s - j) 0) ≡ true
  pub stops : k < 4 → k < length s → follows (get_or s (length s - k) 0) ≡ false
