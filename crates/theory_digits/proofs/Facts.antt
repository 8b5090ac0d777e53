-- Facts by which the number t of digits d at an end of x can be told. Our counts keep all of them, and whatever keeps enough of them is our count.
use mathlib.Core.Path.{◌≡◌, sym}
use mathlib.Core.Logic.{◌↔◌}
use Prim.Native.Nat.{ℕ, zero, suc, ◌-◌, ◌*◌, ◌/◌, ◌%◌, ◌^◌, ◌≤◌, ◌<◌}
use native.Mathlib.Omega.{arith}
use lib.Pow.{pow_pos}
use Rattle.theory_digits.specs.Runs.{trailing, leading}
use Rattle.theory_digits.proofs.Ends.{trailing_within, trailing_before, trailing_ended, trailing_is, trailing_all, trailing_shifted, trailing_ones}
use Rattle.theory_digits.proofs.Ends.{leading_within, leading_before, leading_ended, leading_is, leading_all, leading_shifted, leading_ones}

-- the number whose digit is 0 where that of x is d
abbrev pub apart : ℕ → ℕ → ℕ → ℕ
apart zero w x = x
apart (suc d) w x = 2 ^ w - 1 - x

-- ---- the facts, one by one

module _ (d w x t : ℕ) where
  -- no more than there are
  abbrev pub AtMost : Type 0
  AtMost = t ≤ w

  -- all of them just where x has no other digit
  abbrev pub All : Type 0
  All = (x ≡ d * (2 ^ w - 1)) ↔ (t ≡ w)

  -- the next digit is the other one
  abbrev pub LowNext : Type 0
  LowNext = t < w → x / 2 ^ t % 2 ≡ 1 - d

  abbrev pub HighNext : Type 0
  HighNext = t < w → x / 2 ^ (w - 1 - t) % 2 ≡ 1 - d

  -- the digits before it are d
  abbrev pub LowBefore : Type 0
  LowBefore = (j : ℕ) → j < t → x / 2 ^ j % 2 ≡ d

  abbrev pub HighBefore : Type 0
  HighBefore = (j : ℕ) → w - t ≤ j → j < w → x / 2 ^ j % 2 ≡ d

  -- and nothing is left where the others are shifted out
  abbrev pub LowShifted : Type 0
  LowShifted = apart d w x * 2 ^ (w - t) % 2 ^ w ≡ 0

  abbrev pub HighShifted : Type 0
  HighShifted = apart d w x / 2 ^ (w - t) ≡ 0

pub record AtLow (d w x t : ℕ) : Type 0 where
  pub at_most : AtMost d w x t
  pub all : All d w x t
  pub next : LowNext d w x t
  pub shifted : LowShifted d w x t
  pub before : LowBefore d w x t

pub record AtHigh (d w x t : ℕ) : Type 0 where
  pub at_most : AtMost d w x t
  pub all : All d w x t
  pub next : HighNext d w x t
  pub shifted : HighShifted d w x t
  pub before : HighBefore d w x t

-- ---- our counts keep them

complement_below : (w x : ℕ) → 2 ^ w - 1 - x < 2 ^ w
complement_below w x = omega (arith, pow_pos w)

-- t digits d at an end are told by what a shift leaves, where zeros are and ones are the zeros of the complement
module _ (count : ℕ → ℕ → ℕ → ℕ) (Left : (w x t : ℕ) → Type 0)
    (zeros : (w x t : ℕ) → x < 2 ^ w → t ≤ w → (t ≤ count 0 w x) ↔ Left w x t) (ones : (w x : ℕ) → x < 2 ^ w → count 1 w x ≡ count 0 w (2 ^ w - 1 - x)) where
  told_by_shift : (d w x t : ℕ) → d < 2 → x < 2 ^ w → t ≤ w → (t ≤ count d w x) ↔ Left w (apart d w x) t
  told_by_shift zero w x t h b l = zeros w x t b l
  told_by_shift (suc zero) w x t h b l = rw (ones w x b) (zeros w (2 ^ w - 1 - x) t (complement_below w x) l)
  told_by_shift (suc (suc d)) w x t h b l = absurd (omega arith)

low_shifted : (d w x t : ℕ) → d < 2 → x < 2 ^ w → t ≤ w → (t ≤ trailing d w x) ↔ LowShifted d w x t
low_shifted = told_by_shift trailing (λ w x t. x * 2 ^ (w - t) % 2 ^ w ≡ 0) (λ w x t b l. trailing_shifted x l) (λ w x b. trailing_ones w b)

high_shifted : (d w x t : ℕ) → d < 2 → x < 2 ^ w → t ≤ w → (t ≤ leading d w x) ↔ HighShifted d w x t
high_shifted = told_by_shift leading (λ w x t. x / 2 ^ (w - t) ≡ 0) (λ w x t b l. leading_shifted x l b) (λ w x b. leading_ones w b)

module _ (d w x : ℕ) (h : d < 2) (b : x < 2 ^ w) where
  pub low_facts : AtLow d w x (trailing d w x)
  low_facts = record {
    at_most = trailing_within d w x;
    all = trailing_all h b;
    next = λ l. (let n : x / 2 ^ trailing d w x % 2 ≡ d → ⊥ = trailing_ended d w x l in omega arith);
    shifted = (low_shifted d w x (trailing d w x) h b (trailing_within d w x)).0 (omega arith);
    before = trailing_before d w x;
  }

  pub high_facts : AtHigh d w x (leading d w x)
  high_facts = record {
    at_most = leading_within d w x;
    all = leading_all h b;
    next = λ l. (let n : x / 2 ^ (w - 1 - leading d w x) % 2 ≡ d → ⊥ = leading_ended d w x l in omega arith);
    shifted = (high_shifted d w x (leading d w x) h b (leading_within d w x)).0 (omega arith);
    before = leading_before d w x;
  }

-- ---- enough of them

module _ (d w x t : ℕ) (h : d < 2) where
  pub low_by_bits : AtMost d w x t → LowNext d w x t → LowBefore d w x t → t ≡ trailing d w x
  low_by_bits at_most next before = trailing_is d w x t at_most before (λ l e. omega (arith, next l))

  pub high_by_bits : AtMost d w x t → HighNext d w x t → HighBefore d w x t → t ≡ leading d w x
  high_by_bits at_most next before = leading_is d w x t at_most before (λ l e. omega (arith, next l))

  -- `all` in place of `at_most`: where every digit is d there is no more to count
  no_more_by_all : {c : ℕ} → All d w x c → All d w x t → (w < t → w ≡ c) → AtMost d w x t
  no_more_by_all counted all full = let short : w < t → ⊥ = λ l. omega (arith, all.0 (counted.1 (sym (full l)))) in omega arith

  module _ (b : x < 2 ^ w) where
    pub low_by_all : All d w x t → LowNext d w x t → LowBefore d w x t → t ≡ trailing d w x
    low_by_all all next before =
        low_by_bits (no_more_by_all (trailing_all h b) all
        (λ l. trailing_is d w x w (omega arith) (λ j g. before j (omega arith)) (λ g e. omega arith))) next before

    pub high_by_all : All d w x t → HighNext d w x t → HighBefore d w x t → t ≡ leading d w x
    high_by_all all next before =
        high_by_bits (no_more_by_all (leading_all h b) all
        (λ l. leading_is d w x w (omega arith) (λ j a g. before j (omega arith) g) (λ g e. omega arith))) next before

-- `shifted` in place of `before`
module _ (d w x t : ℕ) (h : d < 2) (b : x < 2 ^ w) where
  pub low_by_shift : AtMost d w x t → LowNext d w x t → LowShifted d w x t → t ≡ trailing d w x
  low_by_shift at_most next s =
      let reach = (low_shifted d w x t h b at_most).1 s in
      low_by_bits d w x t h at_most next (λ j l. trailing_before d w x j (omega arith))

  pub high_by_shift : AtMost d w x t → HighNext d w x t → HighShifted d w x t → t ≡ leading d w x
  high_by_shift at_most next s =
      let reach = (high_shifted d w x t h b at_most).1 s in
      high_by_bits d w x t h at_most next (λ j a l. leading_before d w x j (omega arith) l)
