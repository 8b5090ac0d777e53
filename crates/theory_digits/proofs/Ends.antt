-- Zeros and ones at the ends of a number of w binary digits, told by its bits, by its remainders and quotients, and by what a shift leaves.
use mathlib.Core.Path.{◌≡◌, sym, ap, ◌∙◌}
use mathlib.Core.Logic.{◌↔◌}
use mathlib.Core.List.{reverse, reverse-reverse}
use Prim.Native.Nat.{ℕ, ◌+◌, ◌-◌, ◌*◌, ◌/◌, ◌%◌, ◌^◌, ◌≤◌, ◌<◌}
use native.Mathlib.Nat.{add-sub_of_le, sub-add_cancel, sub_self, zero-mul, pow-zero, div-one, zero-div, mod-eq_of_lt}
use native.Mathlib.Omega.{arith}
use lib.ListN.{get_or, take}
use lib.Pow.{shr_lt, shl-shr}
use lib.Seq.{take_at}
use Rattle.theory_digits.specs.Digits.{digits, digits_high}
use Rattle.theory_digits.specs.Runs.{run, trailing, leading}
use Rattle.theory_digits.proofs.Digits.{length_digits, digit_at}
use Rattle.theory_digits.proofs.Parts.{digits_take}
use Rattle.theory_digits.proofs.High.{length_digits_high, digit_high_at, digits_high_append}
use Rattle.theory_digits.proofs.Runs.{run_within, run_before, run_ended, run_is, reached, reaches}
use Rattle.theory_digits.proofs.Bits.{lowest_alike, reverse_alike, bit_of_complement, shifted_up}

-- ---- by bits

module _ (d w x : ℕ) where
  pub trailing_within : trailing d w x ≤ w
  unfolding trailing
  trailing_within = rw length_digits at (run_within d (digits 2 w x))

  pub trailing_before : (j : ℕ) → j < trailing d w x → x / 2 ^ j % 2 ≡ d
  unfolding trailing
  trailing_before j l = sym (digit_at 2 w x j (omega (arith, trailing_within))) ∙ run_before d (digits 2 w x) j l

  pub trailing_ended : trailing d w x < w → x / 2 ^ trailing d w x % 2 ≡ d → ⊥
  unfolding trailing
  trailing_ended l e = run_ended d (digits 2 w x) (omega (arith, length_digits 2 w x)) (digit_at 2 w x (run d (digits 2 w x)) l ∙ e)

  pub trailing_is : (t : ℕ) → t ≤ w → ((j : ℕ) → j < t → x / 2 ^ j % 2 ≡ d) → (t < w → x / 2 ^ t % 2 ≡ d → ⊥) → t ≡ trailing d w x
  unfolding trailing
  trailing_is t within before ended =
      let n = length_digits 2 w x in
      run_is d t (digits 2 w x) (omega arith) (λ i l. digit_at 2 w x i (omega arith) ∙ before i l)
      (λ l e. ended (omega arith) (sym (digit_at 2 w x t (omega arith)) ∙ e))

  pub leading_within : leading d w x ≤ w
  unfolding leading
  leading_within = omega (arith, run_within d (digits_high 2 w x), length_digits_high 2 w x)

  pub leading_before : (j : ℕ) → w - leading d w x ≤ j → j < w → x / 2 ^ j % 2 ≡ d
  unfolding leading
  leading_before j a l =
      let e : w - 1 - (w - 1 - j) ≡ j = omega arith in
      let bit : get_or (digits_high 2 w x) (w - 1 - j) 0 ≡ x / 2 ^ j % 2 = (rw e at (digit_high_at 2 w x (w - 1 - j) (omega arith))) in
      sym bit ∙ run_before d (digits_high 2 w x) (w - 1 - j) (omega (arith, leading_within))

  pub leading_ended : leading d w x < w → x / 2 ^ (w - 1 - leading d w x) % 2 ≡ d → ⊥
  unfolding leading
  leading_ended l e =
      run_ended d (digits_high 2 w x) (omega (arith, length_digits_high 2 w x)) (digit_high_at 2 w x (run d (digits_high 2 w x)) l ∙ e)

  pub leading_is : (t : ℕ) → t ≤ w → ((j : ℕ) → w - t ≤ j → j < w → x / 2 ^ j % 2 ≡ d) → (t < w → x / 2 ^ (w - 1 - t) % 2 ≡ d → ⊥) → t ≡ leading d w x
  unfolding leading
  leading_is t within before ended =
      let n = length_digits_high 2 w x in
      run_is d t (digits_high 2 w x) (omega arith) (λ i l. digit_high_at 2 w x i (omega arith) ∙ before (w - 1 - i) (omega arith) (omega arith))
      (λ l e. ended (omega arith) (sym (digit_high_at 2 w x t (omega arith)) ∙ e))

-- ---- by remainders and quotients

module _ {d w n : ℕ} (x : ℕ) (h : d < 2) (l : n ≤ w) where
  lowest_taken : take n (digits 2 w x) ≡ digits 2 n x
  lowest_taken = let e = digits_take 2 n (w - n) x in rw (add-sub_of_le l) at e

  pub trailing_reaches : (n ≤ trailing d w x) ↔ (x % 2 ^ n ≡ d * (2 ^ n - 1))
  unfolding trailing
  trailing_reaches = (
    λ r. (lowest_alike n x h).0 (sym lowest_taken ∙ reached d n (digits 2 w x) r),
    λ e. reaches d n (digits 2 w x) (omega (arith, length_digits 2 w x)) (lowest_taken ∙ (lowest_alike n x h).1 e),
  )

  highest_taken : take n (digits_high 2 w x) ≡ digits_high 2 n (x / 2 ^ (w - n))
  highest_taken =
      let e : digits_high 2 w x ≡ digits_high 2 (w - n + n) x = ap (λ (k : ℕ). digits_high 2 k x) (sym (sub-add_cancel l)) in
      ap (take n) (e ∙ digits_high_append 2 (w - n) n x)
      ∙ take_at (digits_high 2 n (x / 2 ^ (w - n))) (digits_high 2 (w - n) x) n (length_digits_high 2 n (x / 2 ^ (w - n)))

  pub leading_reaches : x < 2 ^ w → (n ≤ leading d w x) ↔ (x / 2 ^ (w - n) ≡ d * (2 ^ n - 1))
  unfolding leading
  leading_reaches b =
      let e : n + (w - n) ≡ w = omega arith in
      let small : x / 2 ^ (w - n) < 2 ^ n = shr_lt n (w - n) (rw e b) in
      let whole : x / 2 ^ (w - n) % 2 ^ n ≡ x / 2 ^ (w - n) = mod-eq_of_lt small in (
        λ r. sym whole
            ∙ (lowest_alike n (x / 2 ^ (w - n)) h).0
            (sym (reverse-reverse (digits 2 n (x / 2 ^ (w - n)))) ∙ ap reverse (sym highest_taken ∙ reached d n (digits_high 2 w x) r) ∙ reverse_alike d n),
        λ r. reaches d n (digits_high 2 w x) (omega (arith, length_digits_high 2 w x))
            (highest_taken ∙ ap reverse ((lowest_alike n (x / 2 ^ (w - n)) h).1 (whole ∙ r)) ∙ reverse_alike d n),
      )

-- ---- all alike

module _ {d w x : ℕ} (h : d < 2) (b : x < 2 ^ w) where
  pub trailing_all : (x ≡ d * (2 ^ w - 1)) ↔ (trailing d w x ≡ w)
  trailing_all =
      let r = trailing_reaches {d = d} {w = w} {n = w} x h (omega arith) in
      let m : x % 2 ^ w ≡ x = mod-eq_of_lt b in
      (λ e. omega (arith, r.1 (m ∙ e), trailing_within d w x), λ e. sym m ∙ r.0 (omega arith))

  pub leading_all : (x ≡ d * (2 ^ w - 1)) ↔ (leading d w x ≡ w)
  leading_all =
      let r = leading_reaches {d = d} {w = w} {n = w} x h (omega arith) b in
      let m : x / 2 ^ (w - w) ≡ x = rw (sub_self, pow-zero) (div-one x) in
      (λ e. omega (arith, r.1 (m ∙ e), leading_within d w x), λ e. sym m ∙ r.0 (omega arith))

-- ---- zeros, by what a shift by w - n leaves

no_times : (t k : ℕ) → t * 2 ^ k ≡ 0 → t ≡ 0
no_times t k e = let s = shl-shr t k in let z : 0 / 2 ^ k ≡ 0 = zero-div (2 ^ k) in sym s ∙ ap (λ (m : ℕ). m / 2 ^ k) e ∙ z

module _ {w n : ℕ} (x : ℕ) (l : n ≤ w) where
  pub trailing_shifted : (n ≤ trailing 0 w x) ↔ (x * 2 ^ (w - n) % 2 ^ w ≡ 0)
  trailing_shifted =
      let e = shifted_up x n (w - n) in
      let s : x * 2 ^ (w - n) % 2 ^ w ≡ x % 2 ^ n * 2 ^ (w - n) = (rw (add-sub_of_le l) at e) in
      let r = trailing_reaches {d = 0} x (omega arith) l in
      let z = zero-mul (2 ^ n - 1) in
      (λ a. s ∙ ap (λ (m : ℕ). m * 2 ^ (w - n)) (r.0 a ∙ z) ∙ zero-mul (2 ^ (w - n)), λ a. r.1 (no_times (x % 2 ^ n) (w - n) (sym s ∙ a) ∙ sym z))

  pub leading_shifted : x < 2 ^ w → (n ≤ leading 0 w x) ↔ (x / 2 ^ (w - n) ≡ 0)
  leading_shifted b =
      let r = leading_reaches {d = 0} x (omega arith) l b in
      let z = zero-mul (2 ^ n - 1) in
      (λ a. r.0 a ∙ z, λ a. r.1 (a ∙ sym z))

-- ---- ones are the zeros of the complement

module _ (w : ℕ) {x : ℕ} (b : x < 2 ^ w) where
  pub trailing_ones : trailing 1 w x ≡ trailing 0 w (2 ^ w - 1 - x)
  trailing_ones =
      let within = trailing_within 0 w (2 ^ w - 1 - x) in
      sym
      (trailing_is 1 w x (trailing 0 w (2 ^ w - 1 - x)) within
      (λ j l. omega (arith, trailing_before 0 w (2 ^ w - 1 - x) j l, bit_of_complement w x j b (omega arith)))
      (λ l e. trailing_ended 0 w (2 ^ w - 1 - x) l (omega (arith, bit_of_complement w x (trailing 0 w (2 ^ w - 1 - x)) b l))))

  pub leading_ones : leading 1 w x ≡ leading 0 w (2 ^ w - 1 - x)
  leading_ones =
      let within = leading_within 0 w (2 ^ w - 1 - x) in
      sym
      (leading_is 1 w x (leading 0 w (2 ^ w - 1 - x)) within
      (λ j a l. omega (arith, leading_before 0 w (2 ^ w - 1 - x) j a l, bit_of_complement w x j b l))
      (λ l e. leading_ended 0 w (2 ^ w - 1 - x) l (omega (arith, bit_of_complement w x (w - 1 - leading 0 w (2 ^ w - 1 - x)) b (omega arith)))))
