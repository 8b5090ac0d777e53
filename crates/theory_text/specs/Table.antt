-- Well-formed byte sequences by byte ranges: the nine rows of the Unicode Standard's table 3-7, to be checked by eye.
use Rattle.std.specs.Prelude.{ℕ, suc, Bool, true, false, cond, ◌&&◌, List, [], ◌∷◌, length}
use Rattle.theory_lists.specs.Bounds.{between}

pub record Range : Type 0 where
  pub low : ℕ
  pub high : ℕ

infixl 7 ◌to◌
abbrev pub ◌to◌ : ℕ → ℕ → Range
a to b = record { low = a; high = b }

abbrev pub rows : List (List Range)
rows =
    ((0x00 to 0x7f) ∷ [])
    ∷ ((0xc2 to 0xdf) ∷ (0x80 to 0xbf) ∷ [])
    ∷ ((0xe0 to 0xe0) ∷ (0xa0 to 0xbf) ∷ (0x80 to 0xbf) ∷ [])
    ∷ ((0xe1 to 0xec) ∷ (0x80 to 0xbf) ∷ (0x80 to 0xbf) ∷ [])
    ∷ ((0xed to 0xed) ∷ (0x80 to 0x9f) ∷ (0x80 to 0xbf) ∷ [])
    ∷ ((0xee to 0xef) ∷ (0x80 to 0xbf) ∷ (0x80 to 0xbf) ∷ [])
    ∷ ((0xf0 to 0xf0) ∷ (0x90 to 0xbf) ∷ (0x80 to 0xbf) ∷ (0x80 to 0xbf) ∷ [])
    ∷ ((0xf1 to 0xf3) ∷ (0x80 to 0xbf) ∷ (0x80 to 0xbf) ∷ (0x80 to 0xbf) ∷ [])
    ∷ ((0xf4 to 0xf4) ∷ (0x80 to 0x8f) ∷ (0x80 to 0xbf) ∷ (0x80 to 0xbf) ∷ [])
    ∷ []

-- bs begins with bytes of these ranges
abbrev pub matches : List Range → List ℕ → Bool
matches [] bs = true
matches (r ∷ rs) [] = false
matches (r ∷ rs) (b ∷ bs) = between r.low r.high b && matches rs bs

-- what a first byte asks for: the ranges of the bytes that must follow, or it is wrong
pub data After : Type 0 where
  more : List Range → After
  wrong : After

abbrev pub after_in : List (List Range) → ℕ → After
after_in [] b = wrong
after_in ([] ∷ others) b = after_in others b
after_in ((r ∷ rs) ∷ others) b = cond (between r.low r.high b) (more rs) (after_in others b)

unfoldable pub after : ℕ → After
after b = after_in rows b

-- how many bytes a form has whose first byte asks for that much, where bs stands behind it; 0 where bs does not follow
abbrev pub followed : After → List ℕ → ℕ
followed wrong bs = 0
followed (more rs) bs = cond (matches rs bs) (suc (length rs)) 0

-- how many bytes the form has that bs begins with; 0 where it begins with none
abbrev pub first : List ℕ → ℕ
first [] = 0
first (b ∷ bs) = followed (after b) bs
