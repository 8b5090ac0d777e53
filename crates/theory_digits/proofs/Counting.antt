-- Zeros counted bit by bit: digits are shifted out at one end until nothing is left, and n counts down from the width.
use mathlib.Core.Path.{◌≡◌, sym, ap, ◌∙◌}
use Prim.Native.Nat.{ℕ, suc, ◌+◌, ◌-◌, ◌*◌, ◌/◌, ◌%◌, ◌^◌, ◌≤◌, ◌<◌}
use native.Mathlib.Nat.{sub_self, mul-one, mul_assoc, pow-zero, pow-suc, div-one, mod-eq_of_lt, add-mod}
use native.Mathlib.Omega.{arith}
use lib.Pow.{shr-shr}
use Rattle.theory_digits.specs.Runs.{trailing, leading}
use Rattle.theory_digits.proofs.Ends.{trailing_within, leading_within, trailing_shifted, leading_shifted}

-- what is known while w - n digits are shifted out of x
pub record LeadingCount (w x n rest : ℕ) : Type 0 where
  pub at_most : n ≤ w
  pub left : rest ≡ x / 2 ^ (w - n)
  pub reached : leading 0 w x ≤ n

pub record TrailingCount (w x n rest : ℕ) : Type 0 where
  pub at_most : n ≤ w
  pub left : rest ≡ x * 2 ^ (w - n) % 2 ^ w
  pub reached : trailing 0 w x ≤ n

twice : (a m : ℕ) → a % m * 2 % m ≡ a * 2 % m
twice a m =
    let r : a % m * 2 ≡ a % m + a % m = omega arith in
    let s : a * 2 ≡ a + a = omega arith in
    rw (r, s) (sym (add-mod a a m))

module _ (w : ℕ) {x : ℕ} (b : x < 2 ^ w) where
  pub leading_start : LeadingCount w x w x
  leading_start = record { at_most = omega arith; left = rw (sub_self, pow-zero) (sym (div-one x)); reached = leading_within 0 w x }

  module _ {n rest : ℕ} (k : LeadingCount w x n rest) where
    pub leading_more : (rest ≡ 0 → ⊥) → leading 0 w x < n
    leading_more f = let g : n ≤ leading 0 w x → ⊥ = λ a. f (k.left ∙ (leading_shifted x k.at_most b).0 a) in omega arith

    pub leading_next : (rest ≡ 0 → ⊥) → LeadingCount w x (n - 1) (rest / 2)
    leading_next f =
        let m = leading_more f in
        let e : w - (n - 1) ≡ w - n + 1 = omega (arith, k.at_most) in
        record {
          at_most = omega (arith, k.at_most);
          left = ap (λ (r : ℕ). r / 2) k.left ∙ rw e (shr-shr x (w - n) 1);
          reached = omega arith;
        }

    pub leading_end : rest ≡ 0 → n ≡ leading 0 w x
    leading_end e = omega (arith, (leading_shifted x k.at_most b).1 (sym k.left ∙ e), k.reached)

  pub trailing_start : TrailingCount w x w x
  trailing_start = record {
    at_most = omega arith;
    left = rw (sub_self, pow-zero, mul-one) (sym (mod-eq_of_lt b));
    reached = trailing_within 0 w x;
  }

  module _ {n rest : ℕ} (k : TrailingCount w x n rest) where
    pub trailing_more : (rest ≡ 0 → ⊥) → trailing 0 w x < n
    trailing_more f = let g : n ≤ trailing 0 w x → ⊥ = λ a. f (k.left ∙ (trailing_shifted x k.at_most).0 a) in omega arith

    pub trailing_next : (rest ≡ 0 → ⊥) → TrailingCount w x (n - 1) (rest * 2 % 2 ^ w)
    trailing_next f =
        let m = trailing_more f in
        let e : w - (n - 1) ≡ suc (w - n) = omega (arith, k.at_most) in
        record {
          at_most = omega (arith, k.at_most);
          left = ap (λ (r : ℕ). r * 2 % 2 ^ w) k.left
              ∙ twice (x * 2 ^ (w - n)) (2 ^ w) ∙ rw (e, pow-suc, mul_assoc);
          reached = omega arith;
        }

    pub trailing_end : rest ≡ 0 → n ≡ trailing 0 w x
    trailing_end e = omega (arith, (trailing_shifted x k.at_most).1 (sym k.left ∙ e), k.reached)
