-- A part of a list, by the place where it begins and the place where it ends.
use Rattle.std.specs.Prelude.{Bool, ◌&&◌, cond, List, [], ℕ, ◌-◌, ◌≤◌, leb, length, take, drop}
use Rattle.theory_lists.specs.Search.{Any, holds_at, is}

-- the elements of s from place f up to and without place t
abbrev pub part : ℕ → ℕ → List ℕ → List ℕ
part f t s = take (t - f) (drop f s)

-- f and t are the ends of a part of s
pub record Within (f t : ℕ) (s : List ℕ) : Type 0 where
  pub ordered : f ≤ t
  pub ends : t ≤ length s

-- the test of it
unfoldable pub is_within : ℕ → ℕ → List ℕ → Bool
is_within f t s = leb f t && leb t (length s)

-- that part, or no elements where there is none
unfoldable pub part_or_none : ℕ → ℕ → List ℕ → List ℕ
part_or_none f t s = cond (is_within f t s) (part f t s) []

-- v stands at a place of s
abbrev pub Has : ℕ → List ℕ → Type 0
Has v s = Any (holds_at (is v) s) 0 (length s)
