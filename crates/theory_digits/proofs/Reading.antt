-- A number read from digits, as code reads them: element by element, from the lowest digit on. Reading and writing undo each other.
use mathlib.Core.Path.{◌≡◌, refl, sym, ap, ◌∙◌}
use mathlib.Core.Bool.{true, false}
use mathlib.Core.List.{List, [], ◌∷◌, reverse, reverse-reverse}
use Prim.Native.Nat.{ℕ, zero, suc, ◌+◌, ◌*◌, ◌^◌, ◌<◌}
use native.Mathlib.Nat.{add-zero, mul-zero}
use native.Mathlib.Omega.{arith}
use borrow.Author.Tests.{eq-eqb, ne_eqb, eqb-true}
use lib.Dec.{eqb}
use lib.IntN.{pos}
use lib.ListN.{length, get_or, take, length-reverse}
use lib.Seq.{take-suc, take_all}
use Rattle.theory_answers.specs.Answer.{only_if, Answers}
use Rattle.std.specs.Prelude.{Some}
use Rattle.theory_whole.proofs.Cases.{by_test}
use Rattle.theory_lists.specs.Bounds.{AllBelow}
use Rattle.theory_lists.proofs.Below.{all_below, below_reverse}
use Rattle.theory_digits.specs.Digits.{digits, value, digits_high, value_high}
use Rattle.theory_digits.specs.Number.{number, number_high}
use Rattle.theory_digits.proofs.Digits.{length_digits, value_of_digits, digits_of_value}
use Rattle.theory_digits.proofs.High.{value_high_push_lowest}

-- ---- element by element

-- k + 1 digits from index i on, lowest first
abbrev pub read_up : ℕ → List ℕ → ℕ → ℕ → ℕ
read_up b s i zero = get_or s i 0
read_up b s i (suc k) = get_or s i 0 + b * read_up b s (suc i) k

-- and from index k down, highest first
abbrev pub read_down : ℕ → List ℕ → ℕ → ℕ
read_down b s zero = get_or s zero 0
read_down b s (suc k) = get_or s (suc k) 0 + b * read_down b s k

further : (b x : ℕ) (s : List ℕ) (i k : ℕ) → read_up b (x ∷ s) (suc i) k ≡ read_up b s i k
further b x s i zero = refl
further b x s i (suc k) = rw (further b x s (suc i) k)

pub read_up_is : (b k : ℕ) (s : List ℕ) → length s ≡ suc k → read_up b s 0 k ≡ value b s
unfolding value
read_up_is b k [] l = absurd (omega arith)
read_up_is b zero (x ∷ []) l = rw (mul-zero, add-zero)
read_up_is b zero (x ∷ y ∷ s) l = absurd (omega arith)
read_up_is b (suc k) (x ∷ s) l = rw (further b x s 0 k, read_up_is b k s (omega arith))

read_so_far : (b k : ℕ) (s : List ℕ) → k < length s → read_down b s k ≡ value_high b (take (suc k) s)
unfolding value
read_so_far b zero [] h = absurd (omega arith)
read_so_far b zero (x ∷ s) h = rw (mul-zero, add-zero)
read_so_far b (suc k) s h =
    rw (take-suc s (suc k) 0, value_high_push_lowest b (get_or s (suc k) 0) (take (suc k) s), read_so_far b k s (omega arith))

pub read_down_is : (b k : ℕ) (s : List ℕ) → length s ≡ suc k → read_down b s k ≡ value_high b s
read_down_is b k s l = read_so_far b k s (omega arith) ∙ ap (value_high b) (take_all (suc k) s (omega arith))

-- ---- what is read, and what is refused

pub number_read : {v : ℕ} (b count : ℕ) (s : List ℕ) → length s ≡ count → v ≡ value b s → Answers true (pos v) (number b count s)
unfolding number only_if
number_read b count s l e = rw (eq-eqb (length s) count l) (refl, ap pos e)

-- by the number that the digits are the other way round
pub number_high_read : {v x : ℕ} (b count : ℕ) (s : List ℕ) → length s ≡ count → ((i : ℕ) → get_or s i 0 < b) → x ≡ value b s → v ≡ value_high b (digits b count x)
    → Answers true (pos v) (number_high b count s)
unfolding number_high
number_high_read {v} {x} b count s l h e f =
    let d : digits b count x ≡ s = rw (e, ← l) (digits_of_value b s (all_below b s (λ i _. h i))) in
    number_read b count (reverse s) (length-reverse s ∙ l) (f ∙ ap (value_high b) d)

pub number_refused : (b count : ℕ) (s : List ℕ) → (length s ≡ count → ⊥) → Answers false (pos 0) (number b count s)
unfolding number only_if
number_refused b count s n = rw (ne_eqb (length s) count n) (refl, refl)

pub number_high_refused : (b count : ℕ) (s : List ℕ) → (length s ≡ count → ⊥) → Answers false (pos 0) (number_high b count s)
unfolding number_high
number_high_refused b count s n = number_refused b count (reverse s) (λ e. n (sym (length-reverse s) ∙ e))

-- ---- there and back

module _ (b count : ℕ) (p : 0 < b) where
  pub number_of_digits : (n : ℕ) → n < b ^ count → number b count (digits b count n) ≡ Some (pos n)
  unfolding number only_if
  number_of_digits n h = rw (eq-eqb (length (digits b count n)) count (length_digits b count n), value_of_digits b count n p h)

  pub number_high_of_digits_high : (n : ℕ) → n < b ^ count → number_high b count (digits_high b count n) ≡ Some (pos n)
  unfolding number_high
  number_high_of_digits_high n h = rw reverse-reverse (number_of_digits n h)

  pub digits_of_number : (n : ℕ) (s : List ℕ) → AllBelow b s → Answers true (pos n) (number b count s) → digits b count n ≡ s
  unfolding number only_if
  digits_of_number n s h a =
      by_test (eqb (length s) count)
      (λ e. let f : (true ≡ true) × (pos n ≡ pos (value b s)) = (rw e at a) in
      let v : n ≡ value b s = cc in
      rw (v, ← eqb-true (length s) count e) (digits_of_value b s h))
      (λ e. let f : (true ≡ false) × (pos n ≡ pos 0) = (rw e at a) in
      let z : ◌≡◌ {A = ℕ} 0 1 = cc in
      let none : ⊥ = omega arith in
      absurd none)

  pub digits_high_of_number_high : (n : ℕ) (s : List ℕ) → AllBelow b s → Answers true (pos n) (number_high b count s) → digits_high b count n ≡ s
  unfolding number_high
  digits_high_of_number_high n s h a = rw (digits_of_number n (reverse s) (below_reverse b s h) a) (reverse-reverse s)
