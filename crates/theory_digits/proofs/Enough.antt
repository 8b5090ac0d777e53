-- Which of the facts are enough, beside `low_by_bits`, `low_by_all`, `low_by_shift` and those of the high end: `all` with `shifted`, and of ones at the low end
-- two facts alone. No smaller set is: WhichPin decides them all.
use mathlib.Core.Path.{◌≡◌, sym, ◌∙◌}
use Prim.Native.Nat.{ℕ, zero, suc, ◌-◌, ◌*◌, ◌/◌, ◌%◌, ◌^◌, ◌≤◌, ◌<◌}
use native.Mathlib.Nat.{zero-mul, one-mul, mul-one, pow-zero, div-one, div-eq_of_lt, mod-eq_of_lt}
use native.Mathlib.Omega.{arith}
use lib.Pow.{pow_pos}
use Rattle.theory_digits.specs.Runs.{trailing, leading}
use Rattle.theory_digits.proofs.Facts.{apart, All, LowNext, LowBefore, LowShifted, HighNext, HighShifted, low_by_bits, low_by_shift, high_by_shift}

-- a number has only digits d where what is apart from it is 0
apart_below : (d w x : ℕ) → x < 2 ^ w → apart d w x < 2 ^ w
apart_below zero w x b = b
apart_below (suc d) w x b = omega (arith, pow_pos w)

only_digits : (d w x : ℕ) → d < 2 → x < 2 ^ w → apart d w x ≡ 0 → x ≡ d * (2 ^ w - 1)
only_digits zero w x h b e = omega (arith, zero-mul (2 ^ w - 1))
only_digits (suc zero) w x h b e = omega (arith, one-mul (2 ^ w - 1))
only_digits (suc (suc d)) w x h b e = absurd (omega arith)

module _ (d w x t : ℕ) (h : d < 2) (b : x < 2 ^ w) where
  -- more than w digits shift nothing out, so all is d, and `all` says that there are w
  short : All d w x t → (w < t → apart d w x ≡ 0) → t ≤ w
  short all nothing = let no_more : w < t → ⊥ = λ l. omega (arith, all.0 (only_digits d w x h b (nothing l))) in omega arith

  pub low_by_all_shift : All d w x t → LowNext d w x t → LowShifted d w x t → t ≡ trailing d w x
  low_by_all_shift all next s =
      low_by_shift d w x t h b
      (short all (λ l.
      let e : w - t ≡ 0 = omega arith in
      let s' : apart d w x % 2 ^ w ≡ 0 = (simp (e, pow-zero, mul-one) at s) in
      sym (mod-eq_of_lt (apart_below d w x b)) ∙ s'))
      next s

  pub high_by_all_shift : All d w x t → HighNext d w x t → HighShifted d w x t → t ≡ leading d w x
  high_by_all_shift all next s =
      high_by_shift d w x t h b
      (short all (λ l.
      let e : w - t ≡ 0 = omega arith in
      simp (e, pow-zero, div-one) at s))
      next s

-- of ones at the low end `before` says `at_most` too: above the w digits there are only zeros
pub trailing_ones_by_two : (w x t : ℕ) → x < 2 ^ w → LowNext 1 w x t → LowBefore 1 w x t → t ≡ trailing 1 w x
trailing_ones_by_two w x t b next before =
    let no_more : w < t → ⊥ = λ l.
    (let above : x / 2 ^ w % 2 ≡ 0 = rw (div-eq_of_lt b) in omega (arith, before w l)) in
    low_by_bits 1 w x t (omega arith) (omega arith) next before
