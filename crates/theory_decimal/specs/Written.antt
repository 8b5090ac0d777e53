-- Whole numbers as decimal text: the digits in base ten, highest first and none too many, with '-' in front of a negative number.
use Rattle.std.specs.Prelude.{◌≡◌, Bool, true, false, cond, List, ◌∷◌, map, ℕ, zero, suc, ◌+◌, ◌/◌, ◌≤◌, ltb, ℤ, pos, negsuc, length}
use Rattle.theory_answers.specs.Says.{Outcome}
use Rattle.theory_lists.specs.Written.{written}
use Rattle.theory_digits.specs.Digits.{digits_high}

-- how many digits n has in the base b, where so many divisions are enough
unfoldable pub places_in : ℕ → ℕ → ℕ → ℕ
places_in zero b n = 1
places_in (suc steps) b n = cond (ltb n b) 1 (suc (places_in steps b (n / b)))

-- n divisions are enough for n; 0 has one digit
unfoldable pub places : ℕ → ℕ → ℕ
places b n = places_in n b n

-- the byte that stands for a digit: 0x30 is '0'
abbrev pub figure : ℕ → ℕ
figure d = 0x30 + d

-- so many digits of n as text
abbrev pub figures : ℕ → ℕ → List ℕ
figures count n = map figure (digits_high 10 count n)

unfoldable pub natural : ℕ → List ℕ
natural n = figures (places 10 n) n

-- with '-' in front, which is 0x2d, or without
abbrev pub with_sign : Bool → ℕ → List ℕ
with_sign negative n = cond negative (0x2d ∷ natural n) (natural n)

unfoldable pub whole : ℤ → List ℕ
whole (pos n) = with_sign false n
whole (negsuc n) = with_sign true (suc n)

-- how a writer of decimal text answers, and what it leaves: how many bytes it wrote, and 0 where there was no room
abbrev pub Shows : Bool → ℕ → List ℕ → ℕ → List ℕ → List ℕ → Type 0
Shows ok bytes before at text after =
    Outcome ok (at + length text ≤ length before) ((bytes ≡ length text) × (after ≡ written before at text)) ((bytes ≡ 0) × (after ≡ before))
