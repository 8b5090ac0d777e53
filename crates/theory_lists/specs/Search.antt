-- Where a test holds, among the places from f up to and without t: at each of them, at one, first and last. Everything that looks for something asks one of
-- these.
use Rattle.std.specs.Prelude.{◌≡◌, Bool, true, false, ◌||◌, List, [], ◌∷◌, ℕ, ◌+◌, ◌≤◌, ◌<◌, eqb, ltb, get_or}

-- the test q of a place answers b at each of the places: true at all of them, false at none
abbrev pub Each : Bool → (ℕ → Bool) → ℕ → ℕ → Type 0
Each b q f t = (k : ℕ) → f ≤ k → k < t → q k ≡ b

abbrev pub All : (ℕ → Bool) → ℕ → ℕ → Type 0
All q f t = Each true q f t

abbrev pub None : (ℕ → Bool) → ℕ → ℕ → Type 0
None q f t = Each false q f t

-- one of the places, at which it holds
pub record Any (q : ℕ → Bool) (f t : ℕ) : Type 0 where
  pub place : ℕ
  pub after : f ≤ place
  pub before : place < t
  pub holds : q place ≡ true

-- k is the first of them
pub record First (q : ℕ → Bool) (f t k : ℕ) : Type 0 where
  pub after : f ≤ k
  pub before : k < t
  pub holds : q k ≡ true
  pub none : None q f k

-- k is the last of them
pub record Last (q : ℕ → Bool) (f t k : ℕ) : Type 0 where
  pub after : f ≤ k
  pub before : k < t
  pub holds : q k ≡ true
  pub none : None q (k + 1) t

-- k is the first of them, or t where there is none
pub record Until (q : ℕ → Bool) (f t k : ℕ) : Type 0 where
  pub after : f ≤ k
  pub before : k ≤ t
  pub holds : k < t → q k ≡ true
  pub none : None q f k

-- ---- tests of a place

-- a test of a byte, at the places of s
abbrev pub holds_at : (ℕ → Bool) → List ℕ → ℕ → Bool
holds_at p s k = p (get_or s k 0)

-- the same byte stands there in both
abbrev pub alike_at : List ℕ → List ℕ → ℕ → Bool
alike_at a b k = eqb (get_or a k 0) (get_or b k 0)

-- ---- tests of a byte

abbrev pub is : ℕ → ℕ → Bool
is v x = eqb x v

abbrev pub below : ℕ → ℕ → Bool
below b x = ltb x b

abbrev pub listed : List ℕ → ℕ → Bool
listed [] v = false
listed (x ∷ xs) v = eqb v x || listed xs v
