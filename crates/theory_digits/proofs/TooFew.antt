-- Too few of the facts: two answers keep them, at 8 digits. Each of these sets is as large as it can be: what is part of none of them is enough
-- (`low_by_bits` and the others of its kind, Facts and Enough).
use mathlib.Core.Path.{◌≡◌, refl}
use Prim.Native.Nat.{ℕ, ◌-◌, ◌*◌, ◌/◌, ◌%◌, ◌^◌, ◌≤◌, ◌<◌}
use native.Mathlib.Nat.{zero-mul, zero-div, zero-mod}
use native.Mathlib.Omega.{arith}
use lib.Dec.{lit≤}
use Rattle.theory_digits.specs.Digits.{digits}
use Rattle.theory_digits.specs.Runs.{run, leading}
use Rattle.theory_digits.proofs.Ends.{leading_before}
use Rattle.theory_digits.proofs.Facts.{apart, AtMost, All, LowNext, LowBefore, LowShifted, HighNext, HighBefore, HighShifted}

pub record TwoAnswers (Keeps : ℕ → Type 0) : Type 0 where
  pub one : ℕ
  pub other : ℕ
  pub differ : one ≡ other → ⊥
  pub one_keeps : Keeps one
  pub other_keeps : Keeps other

-- no digit or one, where not all of the digits are d
none_or_one : (d x : ℕ) → (x ≡ d * (2 ^ 8 - 1) → ⊥) → {Keeps : ℕ → Type 0} → (AtMost d 8 x 0 → All d 8 x 0 → Keeps 0) → (AtMost d 8 x 1 → All d 8 x 1 → Keeps 1)
    → TwoAnswers Keeps
none_or_one d x mixed p q = record {
  one = 0;
  other = 1;
  differ = λ e. omega arith;
  one_keeps = p (lit≤ tt) (λ e. absurd (mixed e), λ e. omega arith);
  other_keeps = q (lit≤ tt) (λ e. absurd (mixed e), λ e. omega arith);
}

-- all of the digits or more
full_or_more : {Keeps : ℕ → Type 0} → ((t : ℕ) → 8 ≤ t → Keeps t) → TwoAnswers Keeps
full_or_more p = record { one = 8; other = 9; differ = λ e. omega arith; one_keeps = p 8 (lit≤ tt); other_keeps = p 9 (lit≤ tt) }

none_left_low : (d x t : ℕ) → apart d 8 x ≡ 0 → LowShifted d 8 x t
none_left_low d x t e = rw (e, zero-mul, zero-mod)

none_left_high : (d x t : ℕ) → apart d 8 x ≡ 0 → HighShifted d 8 x t
none_left_high d x t e = rw (e, zero-div)

lowest_bit : (x d : ℕ) → x / 2 ^ 0 % 2 ≡ d → (j : ℕ) → j < 1 → x / 2 ^ j % 2 ≡ d
lowest_bit x d p j l = let e : j ≡ 0 = omega arith in rw e p

highest_bit : (x d : ℕ) → x / 2 ^ 7 % 2 ≡ d → (j : ℕ) → 7 ≤ j → j < 8 → x / 2 ^ j % 2 ≡ d
highest_bit x d p j a l = let e : j ≡ 7 = omega arith in rw e p

no_bit : (j : ℕ) → 0 / 2 ^ j % 2 ≡ 0
no_bit j = rw (zero-div, zero-mod)

every_bit : (j : ℕ) → j < 8 → 255 / 2 ^ j % 2 ≡ 1
unfolding leading run digits
every_bit j l = let full : leading 1 8 255 ≡ 8 = refl in leading_before 1 8 255 j (omega arith) l

-- ---- without `next`: no digit, or all that there are

pub trailing_zeros_need_next : TwoAnswers (λ t. AtMost 0 8 2 t × All 0 8 2 t × LowShifted 0 8 2 t × LowBefore 0 8 2 t)
trailing_zeros_need_next = none_or_one 0 2 (λ e. omega arith) (λ m a. (m, a, refl, λ j l. omega arith)) (λ m a. (m, a, refl, lowest_bit 2 0 refl))

pub trailing_ones_need_next : TwoAnswers (λ t. AtMost 1 8 253 t × All 1 8 253 t × LowShifted 1 8 253 t × LowBefore 1 8 253 t)
trailing_ones_need_next = none_or_one 1 253 (λ e. omega arith) (λ m a. (m, a, refl, λ j l. omega arith)) (λ m a. (m, a, refl, lowest_bit 253 1 refl))

pub leading_zeros_need_next : TwoAnswers (λ t. AtMost 0 8 64 t × All 0 8 64 t × HighShifted 0 8 64 t × HighBefore 0 8 64 t)
leading_zeros_need_next = none_or_one 0 64 (λ e. omega arith) (λ m a. (m, a, refl, λ j k l. omega arith)) (λ m a. (m, a, refl, highest_bit 64 0 refl))

pub leading_ones_need_next : TwoAnswers (λ t. AtMost 1 8 191 t × All 1 8 191 t × HighShifted 1 8 191 t × HighBefore 1 8 191 t)
leading_ones_need_next = none_or_one 1 191 (λ e. omega arith) (λ m a. (m, a, refl, λ j k l. omega arith)) (λ m a. (m, a, refl, highest_bit 191 1 refl))

-- ---- without `before` and `shifted`: any digit of the other kind ends the count

pub trailing_zeros_need_before : TwoAnswers (λ t. AtMost 0 8 3 t × All 0 8 3 t × LowNext 0 8 3 t)
trailing_zeros_need_before = none_or_one 0 3 (λ e. omega arith) (λ m a. (m, a, λ l. refl)) (λ m a. (m, a, λ l. refl))

pub trailing_ones_need_before : TwoAnswers (λ t. AtMost 1 8 252 t × All 1 8 252 t × LowNext 1 8 252 t)
trailing_ones_need_before = none_or_one 1 252 (λ e. omega arith) (λ m a. (m, a, λ l. refl)) (λ m a. (m, a, λ l. refl))

pub leading_zeros_need_before : TwoAnswers (λ t. AtMost 0 8 192 t × All 0 8 192 t × HighNext 0 8 192 t)
leading_zeros_need_before = none_or_one 0 192 (λ e. omega arith) (λ m a. (m, a, λ l. refl)) (λ m a. (m, a, λ l. refl))

pub leading_ones_need_before : TwoAnswers (λ t. AtMost 1 8 63 t × All 1 8 63 t × HighNext 1 8 63 t)
leading_ones_need_before = none_or_one 1 63 (λ e. omega arith) (λ m a. (m, a, λ l. refl)) (λ m a. (m, a, λ l. refl))

-- ---- without `at_most` and `all`: more than there are. Of ones at the low end `before` goes too (`trailing_ones_by_two`)

pub trailing_zeros_need_at_most : TwoAnswers (λ t. LowNext 0 8 0 t × LowShifted 0 8 0 t × LowBefore 0 8 0 t)
trailing_zeros_need_at_most = full_or_more (λ t m. (λ l. omega arith, none_left_low 0 0 t refl, λ j l. no_bit j))

pub trailing_ones_need_at_most : TwoAnswers (λ t. LowNext 1 8 255 t × LowShifted 1 8 255 t)
trailing_ones_need_at_most = full_or_more (λ t m. (λ l. omega arith, none_left_low 1 255 t refl))

pub leading_zeros_need_at_most : TwoAnswers (λ t. HighNext 0 8 0 t × HighShifted 0 8 0 t × HighBefore 0 8 0 t)
leading_zeros_need_at_most = full_or_more (λ t m. (λ l. omega arith, none_left_high 0 0 t refl, λ j a l. no_bit j))

pub leading_ones_need_at_most : TwoAnswers (λ t. HighNext 1 8 255 t × HighShifted 1 8 255 t × HighBefore 1 8 255 t)
leading_ones_need_at_most = full_or_more (λ t m. (λ l. omega arith, none_left_high 1 255 t refl, λ j a l. every_bit j l))
