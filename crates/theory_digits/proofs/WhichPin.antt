-- Which of the five facts pin a count: of each list all 32 choices are decided, by a formula. What is enough is so at every width, and what is not has two
-- answers at 8 digits.
use mathlib.Core.Path.{◌≡◌}
use mathlib.Core.Bool.{Bool, true, false, ◌&&◌, ◌||◌}
use Prim.Native.Nat.{ℕ, ◌^◌, ◌<◌}
use native.Mathlib.Omega.{arith}
use Rattle.theory_digits.specs.Runs.{trailing, leading}
use Rattle.theory_digits.proofs.Facts.{AtMost, All, LowNext, LowBefore, LowShifted, HighNext, HighBefore, HighShifted}
use Rattle.theory_digits.proofs.Facts.{low_by_bits, low_by_all, low_by_shift, high_by_bits, high_by_all, high_by_shift}
use Rattle.theory_digits.proofs.Enough.{low_by_all_shift, high_by_all_shift, trailing_ones_by_two}
use Rattle.theory_digits.proofs.TooFew as too_few
use Rattle.theory_digits.proofs.TooFew.{TwoAnswers}

-- a fact that is asked or not
abbrev pub Asked : Bool → Type 0 → Type 0
Asked true P = P
Asked false P = Unit {0}

asked : {P : Type 0} (a : Bool) → P → Asked a P
asked true p = p
asked false p = tt

-- those of the list that are asked
abbrev pub LowAsked : (at_most all next shifted before : Bool) (d w x t : ℕ) → Type 0
LowAsked at_most all next shifted before d w x t =
    Asked at_most (AtMost d w x t) × Asked all (All d w x t) × Asked next (LowNext d w x t)
    × Asked shifted (LowShifted d w x t) × Asked before (LowBefore d w x t)

abbrev pub HighAsked : (at_most all next shifted before : Bool) (d w x t : ℕ) → Type 0
HighAsked at_most all next shifted before d w x t =
    Asked at_most (AtMost d w x t) × Asked all (All d w x t) × Asked next (HighNext d w x t)
    × Asked shifted (HighShifted d w x t) × Asked before (HighBefore d w x t)

-- they pin the count of every number, or some number has two answers
abbrev pub Decided : Bool → ((w x t : ℕ) → Type 0) → (ℕ → ℕ → ℕ) → Type 0
Decided true Keeps count = (w x t : ℕ) → x < 2 ^ w → Keeps w x t → t ≡ count w x
Decided false Keeps count = (x : ℕ) × TwoAnswers (Keeps 8 x)

fewer : {P Q : ℕ → Type 0} → ((t : ℕ) → P t → Q t) → TwoAnswers P → TwoAnswers Q
fewer f p = record { one = p.one; other = p.other; differ = p.differ; one_keeps = f p.one p.one_keeps; other_keeps = f p.other p.other_keeps }

-- ---- `next`, one of `at_most` and `all`, and one of `shifted` and `before`

module _ {W A N S B : (w x t : ℕ) → Type 0} {count : ℕ → ℕ → ℕ}
    (x y z : ℕ)
    (no-next : TwoAnswers (λ t. W 8 x t × A 8 x t × S 8 x t × B 8 x t))
    (no-before : TwoAnswers (λ t. W 8 y t × A 8 y t × N 8 y t))
    (no-at-most : TwoAnswers (λ t. N 8 z t × S 8 z t × B 8 z t))
    (by_bits : (w x t : ℕ) → x < 2 ^ w → W w x t → N w x t → B w x t → t ≡ count w x)
    (by_all : (w x t : ℕ) → x < 2 ^ w → A w x t → N w x t → B w x t → t ≡ count w x)
    (by-shift : (w x t : ℕ) → x < 2 ^ w → W w x t → N w x t → S w x t → t ≡ count w x)
    (by-all-shift : (w x t : ℕ) → x < 2 ^ w → A w x t → N w x t → S w x t → t ≡ count w x) where
  three_decide : (a l n s b : Bool)
      → Decided (n && ((a || l) && (s || b))) (λ w x t. Asked a (W w x t) × Asked l (A w x t) × Asked n (N w x t) × Asked s (S w x t) × Asked b (B w x t)) count
  three_decide a l false s b = (x, fewer (λ t k. (asked a k.0, asked l k.1, tt, asked s k.2, asked b k.3)) no-next)
  three_decide false false true s b = (z, fewer (λ t k. (tt, tt, k.0, asked s k.1, asked b k.2)) no-at-most)
  three_decide true l true false false = (y, fewer (λ t k. (k.0, asked l k.1, k.2, tt, tt)) no-before)
  three_decide false true true false false = (y, fewer (λ t k. (tt, k.1, k.2, tt, tt)) no-before)
  three_decide true l true true b = λ w x t h k. by-shift w x t h k.0 k.2 k.3
  three_decide true l true false true = λ w x t h k. by_bits w x t h k.0 k.2 k.4
  three_decide false true true true b = λ w x t h k. by-all-shift w x t h k.1 k.2 k.3
  three_decide false true true false true = λ w x t h k. by_all w x t h k.1 k.2 k.4

pub trailing_zeros_decided : (at_most all next shifted before : Bool)
    → Decided (next && ((at_most || all) && (shifted || before))) (LowAsked at_most all next shifted before 0) (trailing 0)
trailing_zeros_decided =
    three_decide 2 3 0 too_few.trailing_zeros_need_next too_few.trailing_zeros_need_before too_few.trailing_zeros_need_at_most
    (λ w x t b. low_by_bits 0 w x t (omega arith)) (λ w x t. low_by_all 0 w x t (omega arith))
    (λ w x t. low_by_shift 0 w x t (omega arith)) (λ w x t. low_by_all_shift 0 w x t (omega arith))

pub leading_zeros_decided : (at_most all next shifted before : Bool)
    → Decided (next && ((at_most || all) && (shifted || before))) (HighAsked at_most all next shifted before 0) (leading 0)
leading_zeros_decided =
    three_decide 64 192 0 too_few.leading_zeros_need_next too_few.leading_zeros_need_before too_few.leading_zeros_need_at_most
    (λ w x t b. high_by_bits 0 w x t (omega arith)) (λ w x t. high_by_all 0 w x t (omega arith))
    (λ w x t. high_by_shift 0 w x t (omega arith)) (λ w x t. high_by_all_shift 0 w x t (omega arith))

pub leading_ones_decided : (at_most all next shifted before : Bool)
    → Decided (next && ((at_most || all) && (shifted || before))) (HighAsked at_most all next shifted before 1) (leading 1)
leading_ones_decided =
    three_decide 191 63 255 too_few.leading_ones_need_next too_few.leading_ones_need_before too_few.leading_ones_need_at_most
    (λ w x t b. high_by_bits 1 w x t (omega arith)) (λ w x t. high_by_all 1 w x t (omega arith))
    (λ w x t. high_by_shift 1 w x t (omega arith)) (λ w x t. high_by_all_shift 1 w x t (omega arith))

-- ---- of ones at the low end `next` and `before` alone, or `next` and `shifted` with one of `at_most` and `all`

pub trailing_ones_decided : (at_most all next shifted before : Bool)
    → Decided (next && (before || (shifted && (at_most || all)))) (LowAsked at_most all next shifted before 1) (trailing 1)
trailing_ones_decided a l false s b = (253, fewer (λ t k. (asked a k.0, asked l k.1, tt, asked s k.2, asked b k.3)) too_few.trailing_ones_need_next)
trailing_ones_decided a l true false false = (252, fewer (λ t k. (asked a k.0, asked l k.1, k.2, tt, tt)) too_few.trailing_ones_need_before)
trailing_ones_decided false false true true false = (255, fewer (λ t k. (tt, tt, k.0, k.1, tt)) too_few.trailing_ones_need_at_most)
trailing_ones_decided a l true s true = λ w x t h k. trailing_ones_by_two w x t h k.2 k.4
trailing_ones_decided true l true true false = λ w x t h k. low_by_shift 1 w x t (omega arith) h k.0 k.2 k.3
trailing_ones_decided false true true true false = λ w x t h k. low_by_all_shift 1 w x t (omega arith) h k.1 k.2 k.3
