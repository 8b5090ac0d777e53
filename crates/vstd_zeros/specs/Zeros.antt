-- vstd's zeros and ones (std_specs/bits), for a number i of w bits: defined by halving, and five facts for each. `i >> n` is `i / 2 ^ n`,
-- `i << n` is `i * 2 ^ n % 2 ^ w`, `!i` is `2 ^ w - 1 - i`.
use Rattle.std.specs.Prelude.{◌≡◌, cond, ◌↔◌, ℕ, zero, suc, ◌+◌, ◌-◌, ◌*◌, ◌/◌, ◌%◌, ◌^◌, ◌≤◌, ◌<◌, eqb}
use Rattle.std.specs.Int.Bits.{bit_and}

-- ---- by halving: the first number says how many halvings may follow, and i of them are enough for i

unfoldable pub trailing_halving : ℕ → ℕ → ℕ → ℕ
trailing_halving zero w i = w
trailing_halving (suc steps) w i = cond (eqb i 0) w (cond (eqb (bit_and i 1) 0) (1 + trailing_halving steps w (i / 2)) 0)

unfoldable pub leading_halving : ℕ → ℕ → ℕ → ℕ
leading_halving zero w i = w
leading_halving (suc steps) w i = cond (eqb i 0) w (leading_halving steps w (i / 2) - 1)

unfoldable pub vstd_trailing_zeros : ℕ → ℕ → ℕ
vstd_trailing_zeros w i = trailing_halving i w i

unfoldable pub vstd_leading_zeros : ℕ → ℕ → ℕ
vstd_leading_zeros w i = leading_halving i w i

unfoldable pub vstd_trailing_ones : ℕ → ℕ → ℕ
vstd_trailing_ones w i = vstd_trailing_zeros w (2 ^ w - 1 - i)

unfoldable pub vstd_leading_ones : ℕ → ℕ → ℕ
vstd_leading_ones w i = vstd_leading_zeros w (2 ^ w - 1 - i)

-- ---- the facts, of an answer t

pub record TrailingZerosFacts (w i t : ℕ) : Type 0 where
  pub at_most : t ≤ w
  pub all : (i ≡ 0) ↔ (t ≡ w)
  pub next : t < w → bit_and (i / 2 ^ t) 1 ≡ 1
  pub shifted : i * 2 ^ (w - t) % 2 ^ w ≡ 0
  pub before : (j : ℕ) → j < t → bit_and (i / 2 ^ j) 1 ≡ 0

pub record TrailingOnesFacts (w i t : ℕ) : Type 0 where
  pub at_most : t ≤ w
  pub all : (i ≡ 2 ^ w - 1) ↔ (t ≡ w)
  pub next : t < w → bit_and (i / 2 ^ t) 1 ≡ 0
  pub shifted : (2 ^ w - 1 - i) * 2 ^ (w - t) % 2 ^ w ≡ 0
  pub before : (j : ℕ) → j < t → bit_and (i / 2 ^ j) 1 ≡ 1

pub record LeadingZerosFacts (w i t : ℕ) : Type 0 where
  pub at_most : t ≤ w
  pub all : (i ≡ 0) ↔ (t ≡ w)
  pub next : t < w → bit_and (i / 2 ^ (w - 1 - t)) 1 ≡ 0 → ⊥
  pub shifted : i / 2 ^ (w - t) ≡ 0
  pub before : (j : ℕ) → w - t ≤ j → j < w → bit_and (i / 2 ^ j) 1 ≡ 0

pub record LeadingOnesFacts (w i t : ℕ) : Type 0 where
  pub at_most : t ≤ w
  pub all : (i ≡ 2 ^ w - 1) ↔ (t ≡ w)
  pub next : t < w → bit_and (i / 2 ^ (w - 1 - t)) 1 ≡ 0
  pub shifted : (2 ^ w - 1 - i) / 2 ^ (w - t) ≡ 0
  pub before : (j : ℕ) → w - t ≤ j → j < w → bit_and (i / 2 ^ j) 1 ≡ 1
