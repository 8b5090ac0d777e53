-- vstd's zeros and ones are ours: its definitions by halving are the runs of digits, and its facts are kept and pin their answer.
use mathlib.Core.Path.{◌≡◌, refl, sym, ap, ◌∙◌}
use mathlib.Core.Bool.{cond}
use Prim.Native.Nat.{ℕ, zero, suc, ◌+◌, ◌-◌, ◌/◌, ◌%◌, ◌^◌, ◌≤◌, ◌<◌}
use native.Mathlib.Nat.{zero-mul, one-mul, pow-zero, div-one, div-eq_of_lt}
use native.Mathlib.Numerals.{one-add}
use native.Mathlib.Omega.{arith}
use borrow.Author.Tests.{eqb-true, eqb-false}
use lib.Bits.{bit_and, and_mask}
use lib.Dec.{eqb}
use lib.Pow.{pow_pos}
use Rattle.theory_whole.proofs.Cases.{by_test}
use Rattle.theory_digits.specs.Runs.{trailing, leading}
use Rattle.theory_digits.proofs.Digits.{divided_twice}
use Rattle.theory_digits.proofs.Ends.{trailing_within, trailing_before, trailing_ended, trailing_is, trailing_all, trailing_ones, leading_within}
use Rattle.theory_digits.proofs.Ends.{leading_before, leading_ended, leading_is, leading_all, leading_ones}
use Rattle.theory_digits.proofs.Facts.{AtMost, All, LowShifted, HighShifted, low_facts, high_facts, low_by_bits, high_by_bits}
use Rattle.vstd_zeros.specs.Zeros.{trailing_halving, leading_halving, vstd_trailing_zeros, vstd_leading_zeros, vstd_trailing_ones, vstd_leading_ones}
use Rattle.vstd_zeros.specs.Zeros.{TrailingZerosFacts, TrailingOnesFacts, LeadingZerosFacts, LeadingOnesFacts}

-- the language's `n & 1`
lowest : (n : ℕ) → bit_and n 1 ≡ n % 2
lowest n = and_mask n 1

-- ---- what a halving does to the counts

module _ (w : ℕ) {i : ℕ} (b : i < 2 ^ w) (some : i ≡ 0 → ⊥) where
  pub trailing_halved : i % 2 ≡ 0 → trailing 0 w i ≡ 1 + trailing 0 w (i / 2)
  trailing_halved even =
      let z = zero-mul (2 ^ w - 1) in
      let short : trailing 0 w (i / 2) ≡ w → ⊥ = λ e. (let y = (trailing_all {d = 0} {w = w} {x = i / 2} (omega arith) (omega arith)).1 e in omega arith) in
      let in-w = trailing_within 0 w (i / 2) in
      sym
      (trailing_is 0 w i (1 + trailing 0 w (i / 2)) (omega arith) (bits even)
      (λ l e. trailing_ended 0 w (i / 2) (omega arith) (ap (λ (n : ℕ). n % 2) (divided_twice 2 (trailing 0 w (i / 2)) i ∙ ap (λ (k : ℕ). i / 2 ^ k) (sym (one-add (trailing 0 w (i / 2))))) ∙ e)))
    where
      bits : i % 2 ≡ 0 → (j : ℕ) → j < 1 + trailing 0 w (i / 2) → i / 2 ^ j % 2 ≡ 0
      bits even zero l = rw (pow-zero, div-one) even
      bits even (suc j) l = rw (← divided_twice 2 j i) (trailing_before 0 w (i / 2) j (omega arith))

  pub leading_halved : leading 0 w i + 1 ≡ leading 0 w (i / 2)
  leading_halved =
      let z = zero-mul (2 ^ w - 1) in
      let short : leading 0 w i ≡ w → ⊥ = λ e. (let y = (leading_all {d = 0} {w = w} {x = i} (omega arith) b).1 e in omega arith) in
      let in-w = leading_within 0 w i in
      leading_is 0 w (i / 2) (leading 0 w i + 1) (omega arith)
      (λ j a l. ap (λ (n : ℕ). n % 2) (divided_twice 2 j i) ∙ bits (suc j) (omega arith) (omega arith))
      (λ l e.
      let k : suc (w - 1 - (leading 0 w i + 1)) ≡ w - 1 - leading 0 w i = omega arith in
      let f : i / 2 ^ (w - 1 - leading 0 w i) % 2 ≡ 0 = (rw (divided_twice, k) at e) in
      leading_ended 0 w i (omega arith) f)
    where
      bits : (j : ℕ) → w - leading 0 w i ≤ j → j ≤ w → i / 2 ^ j % 2 ≡ 0
      bits j a l =
          by_test (eqb j w) (λ e. rw (eqb-true j w e, div-eq_of_lt b))
          (λ e. let n : j ≡ w → ⊥ = eqb-false j w e in leading_before 0 w i j a (omega arith))

-- ---- the definitions by halving

-- a count that is made by halving: `step i n` is what i makes of the count n of its half
record ByHalving (w : ℕ) (halving step : ℕ → ℕ → ℕ) (count : ℕ → ℕ) : Type 0 where
  ends : (i : ℕ) → halving zero i ≡ w
  goes_on : (n i : ℕ) → halving (suc n) i ≡ cond (eqb i 0) w (step i (halving n (i / 2)))
  of_zero : (i : ℕ) → i < 2 ^ w → i ≡ 0 → count i ≡ w
  of_other : (i : ℕ) → i < 2 ^ w → (i ≡ 0 → ⊥) → step i (count (i / 2)) ≡ count i

module _ {w : ℕ} {halving step : ℕ → ℕ → ℕ} {count : ℕ → ℕ} (h : ByHalving w halving step count) where
  halved_is : (n i : ℕ) → i ≤ n → i < 2 ^ w → halving n i ≡ count i
  halved_is zero i l b = h.ends i ∙ sym (h.of_zero i b (omega arith))
  halved_is (suc n) i l b =
      h.goes_on n i
      ∙ by_test (eqb i 0)
      (λ e. rw e (sym (h.of_zero i b (eqb-true i 0 e))))
      (λ e. let some = eqb-false i 0 e in rw (e, halved_is n (i / 2) (omega arith) (omega arith)) (h.of_other i b some))

  -- i halvings are enough
  unfolds : (i : ℕ) → i < 2 ^ w → halving i i ≡ cond (eqb i 0) w (step i (halving (i / 2) (i / 2)))
  unfolds i b =
      let rest : halving i (i / 2) ≡ halving (i / 2) (i / 2) =
      halved_is i (i / 2) (omega arith) (omega arith) ∙ sym (halved_is (i / 2) (i / 2) (omega arith) (omega arith)) in
      halved_is i i (omega arith) b ∙ sym (halved_is (suc i) i (omega arith) b) ∙ h.goes_on i i
      ∙ ap (λ (n : ℕ). cond (eqb i 0) w (step i n)) rest

module _ (w : ℕ) where
  trailing_by_halving : ByHalving w (λ n i. trailing_halving n w i) (λ i n. cond (eqb (bit_and i 1) 0) (1 + n) 0) (trailing 0 w)
  unfolding trailing_halving
  trailing_by_halving = record {
    ends = λ i. refl;
    goes_on = λ n i. refl;
    of_zero = λ i b e. (trailing_all {d = 0} {w = w} {x = i} (omega arith) b).0 (omega (arith, zero-mul (2 ^ w - 1)));
    of_other = λ i b some.
        by_test (eqb (bit_and i 1) 0)
        (λ f. let even : i % 2 ≡ 0 = sym (lowest i) ∙ eqb-true (bit_and i 1) 0 f in rw f (sym (trailing_halved w b some even)))
        (λ f. let odd : bit_and i 1 ≡ 0 → ⊥ = eqb-false (bit_and i 1) 0 f in
        rw f (trailing_is 0 w i 0 (omega arith) (λ j g. omega arith) (λ g y. odd (lowest i ∙ (simp (pow-zero, div-one) at y)))));
  }

  leading_by_halving : ByHalving w (λ n i. leading_halving n w i) (λ i n. n - 1) (leading 0 w)
  unfolding leading_halving
  leading_by_halving = record {
    ends = λ i. refl;
    goes_on = λ n i. refl;
    of_zero = λ i b e. (leading_all {d = 0} {w = w} {x = i} (omega arith) b).0 (omega (arith, zero-mul (2 ^ w - 1)));
    of_other = λ i b some. omega (arith, leading_halved w b some);
  }

module _ (w i : ℕ) (b : i < 2 ^ w) where
  pub vstd_trailing_zeros_is : vstd_trailing_zeros w i ≡ trailing 0 w i
  unfolding vstd_trailing_zeros
  vstd_trailing_zeros_is = halved_is (trailing_by_halving w) i i (omega arith) b

  pub vstd_leading_zeros_is : vstd_leading_zeros w i ≡ leading 0 w i
  unfolding vstd_leading_zeros
  vstd_leading_zeros_is = halved_is (leading_by_halving w) i i (omega arith) b

  pub vstd_trailing_ones_is : vstd_trailing_ones w i ≡ trailing 1 w i
  unfolding vstd_trailing_ones vstd_trailing_zeros
  vstd_trailing_ones_is = halved_is (trailing_by_halving w) (2 ^ w - 1 - i) (2 ^ w - 1 - i) (omega arith) (omega (arith, pow_pos w)) ∙ sym (trailing_ones w b)

  pub vstd_leading_ones_is : vstd_leading_ones w i ≡ leading 1 w i
  unfolding vstd_leading_ones vstd_leading_zeros
  vstd_leading_ones_is = halved_is (leading_by_halving w) (2 ^ w - 1 - i) (2 ^ w - 1 - i) (omega arith) (omega (arith, pow_pos w)) ∙ sym (leading_ones w b)

  -- vstd's own equations hold
  pub vstd_trailing_zeros_unfolds : vstd_trailing_zeros w i ≡ cond (eqb i 0) w (cond (eqb (bit_and i 1) 0) (1 + vstd_trailing_zeros w (i / 2)) 0)
  unfolding vstd_trailing_zeros
  vstd_trailing_zeros_unfolds = unfolds (trailing_by_halving w) i b

  pub vstd_leading_zeros_unfolds : vstd_leading_zeros w i ≡ cond (eqb i 0) w (vstd_leading_zeros w (i / 2) - 1)
  unfolding vstd_leading_zeros
  vstd_leading_zeros_unfolds = unfolds (leading_by_halving w) i b

-- ---- the facts are kept: `made` puts them together

module _ (d w i : ℕ) (h : d < 2) (b : i < 2 ^ w) (Facts : ℕ → Type 0) where
  low_kept : (made : (t : ℕ) → AtMost d w i t → All d w i t → (t < w → bit_and (i / 2 ^ t) 1 ≡ 1 - d) → LowShifted d w i t
      → ((j : ℕ) → j < t → bit_and (i / 2 ^ j) 1 ≡ d) → Facts t) → Facts (trailing d w i)
  low_kept made =
      let k = low_facts d w i h b in
      made (trailing d w i) k.at_most k.all (λ l. lowest (i / 2 ^ trailing d w i) ∙ k.next l)
      k.shifted (λ j l. lowest (i / 2 ^ j) ∙ k.before j l)

  high_kept : (made : (t : ℕ) → AtMost d w i t → All d w i t → (t < w → bit_and (i / 2 ^ (w - 1 - t)) 1 ≡ 1 - d) → HighShifted d w i t
      → ((j : ℕ) → w - t ≤ j → j < w → bit_and (i / 2 ^ j) 1 ≡ d) → Facts t) → Facts (leading d w i)
  high_kept made =
      let k = high_facts d w i h b in
      made (leading d w i) k.at_most k.all (λ l. lowest (i / 2 ^ (w - 1 - leading d w i)) ∙ k.next l)
      k.shifted (λ j a l. lowest (i / 2 ^ j) ∙ k.before j a l)

module _ (w i : ℕ) (b : i < 2 ^ w) where
  pub trailing_zeros_facts : TrailingZerosFacts w i (vstd_trailing_zeros w i)
  trailing_zeros_facts =
      rw (vstd_trailing_zeros_is w i b)
      (low_kept 0 w i (omega arith) b (TrailingZerosFacts w i)
      (λ t m a n s p. record { at_most = m; all = rw zero-mul at a; next = n; shifted = s; before = p }))

  pub trailing_ones_facts : TrailingOnesFacts w i (vstd_trailing_ones w i)
  trailing_ones_facts =
      rw (vstd_trailing_ones_is w i b)
      (low_kept 1 w i (omega arith) b (TrailingOnesFacts w i)
      (λ t m a n s p. record { at_most = m; all = rw one-mul at a; next = n; shifted = s; before = p }))

  pub leading_zeros_facts : LeadingZerosFacts w i (vstd_leading_zeros w i)
  leading_zeros_facts =
      rw (vstd_leading_zeros_is w i b)
      (high_kept 0 w i (omega arith) b (LeadingZerosFacts w i)
      (λ t m a n s p. record { at_most = m; all = rw zero-mul at a; next = λ l e. omega (arith, n l); shifted = s; before = p }))

  pub leading_ones_facts : LeadingOnesFacts w i (vstd_leading_ones w i)
  leading_ones_facts =
      rw (vstd_leading_ones_is w i b)
      (high_kept 1 w i (omega arith) b (LeadingOnesFacts w i)
      (λ t m a n s p. record { at_most = m; all = rw one-mul at a; next = n; shifted = s; before = p }))

-- ---- and pin their answer: three of them do

module _ (d w i t : ℕ) (h : d < 2) where
  low_is : t ≤ w → (t < w → bit_and (i / 2 ^ t) 1 ≡ 1 - d) → ((j : ℕ) → j < t → bit_and (i / 2 ^ j) 1 ≡ d) → t ≡ trailing d w i
  low_is m n p = low_by_bits d w i t h m (λ l. sym (lowest (i / 2 ^ t)) ∙ n l) (λ j l. sym (lowest (i / 2 ^ j)) ∙ p j l)

  high_is : t ≤ w → (t < w → bit_and (i / 2 ^ (w - 1 - t)) 1 ≡ 1 - d) → ((j : ℕ) → w - t ≤ j → j < w → bit_and (i / 2 ^ j) 1 ≡ d) → t ≡ leading d w i
  high_is m n p = high_by_bits d w i t h m (λ l. sym (lowest (i / 2 ^ (w - 1 - t))) ∙ n l) (λ j a l. sym (lowest (i / 2 ^ j)) ∙ p j a l)

-- the next digit of leading zeros is not 0, so 1
not_zero_next : (w i t : ℕ) → LeadingZerosFacts w i t → t < w → bit_and (i / 2 ^ (w - 1 - t)) 1 ≡ 1
not_zero_next w i t f l =
    let n : i / 2 ^ (w - 1 - t) % 2 ≡ 0 → ⊥ = λ e. f.next l (lowest (i / 2 ^ (w - 1 - t)) ∙ e) in
    omega (arith, lowest (i / 2 ^ (w - 1 - t)))

pinned : (Facts : ℕ → Type 0) {count : ℕ} → ((t : ℕ) → Facts t → t ≡ count) → (s t : ℕ) → Facts s → Facts t → s ≡ t
pinned Facts is s t p q = is s p ∙ sym (is t q)

module _ (w i s t : ℕ) where
  pub trailing_zeros_pinned : TrailingZerosFacts w i s → TrailingZerosFacts w i t → s ≡ t
  trailing_zeros_pinned = pinned (TrailingZerosFacts w i) (λ n f. low_is 0 w i n (omega arith) f.at_most f.next f.before) s t

  pub trailing_ones_pinned : TrailingOnesFacts w i s → TrailingOnesFacts w i t → s ≡ t
  trailing_ones_pinned = pinned (TrailingOnesFacts w i) (λ n f. low_is 1 w i n (omega arith) f.at_most f.next f.before) s t

  pub leading_zeros_pinned : LeadingZerosFacts w i s → LeadingZerosFacts w i t → s ≡ t
  leading_zeros_pinned = pinned (LeadingZerosFacts w i) (λ n f. high_is 0 w i n (omega arith) f.at_most (not_zero_next w i n f) f.before) s t

  pub leading_ones_pinned : LeadingOnesFacts w i s → LeadingOnesFacts w i t → s ≡ t
  leading_ones_pinned = pinned (LeadingOnesFacts w i) (λ n f. high_is 1 w i n (omega arith) f.at_most f.next f.before) s t
