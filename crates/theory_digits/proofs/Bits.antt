-- Numbers of w binary digits: those that are all alike, the complement, and what a shift leaves.
use mathlib.Core.Path.{◌≡◌, refl, sym, ap, ◌∙◌}
use mathlib.Core.Logic.{◌↔◌}
use mathlib.Core.List.{reverse, reverse-cons}
use Prim.Native.Nat.{ℕ, zero, suc, ◌+◌, ◌-◌, ◌*◌, ◌/◌, ◌%◌, ◌^◌, ◌<◌}
use native.Mathlib.Nat.{add-zero, mul-zero, mul-one, mul-add, pow-zero, pow-suc, div-one, mul-mod_left}
use native.Mathlib.Numerals.{add-one}
use native.Mathlib.Omega.{arith}
use lib.ListN.{replicate, length-replicate, replicate-append-replicate}
use lib.Pow.{pow_pos, mod-pow-add, shl-shr}
use Rattle.theory_lists.specs.Bounds.{AllBelow}
use Rattle.theory_digits.specs.Digits.{digits, value}
use Rattle.theory_digits.proofs.Digits.{digits_of_value, value_of_lowest, digits_of_remainder, divided_twice}

-- ---- all alike

all_alike_below : {d : ℕ} (n : ℕ) → d < 2 → AllBelow 2 (replicate n d)
unfolding AllBelow
all_alike_below zero h = tt
all_alike_below (suc n) h = (h, all_alike_below n h)

pub value_of_alike : (d n : ℕ) → value 2 (replicate n d) ≡ d * (2 ^ n - 1)
unfolding value
value_of_alike d zero = sym (mul-zero d)
value_of_alike d (suc n) =
    let e : 2 ^ suc n - 1 ≡ 2 ^ n - 1 + (2 ^ n - 1) + 1 = omega (arith, pow-suc 2 n, pow_pos n) in
    rw (value_of_alike d n, e, mul-add d (2 ^ n - 1 + (2 ^ n - 1)) 1, mul-add d (2 ^ n - 1) (2 ^ n - 1), mul-one) (omega arith)

-- the n lowest digits are all d exactly where the remainder says so
pub lowest_alike : {d : ℕ} (n x : ℕ) → d < 2 → (digits 2 n x ≡ replicate n d) ↔ (x % 2 ^ n ≡ d * (2 ^ n - 1))
lowest_alike {d} n x h = (
  λ e. sym (value_of_lowest 2 n x (omega arith)) ∙ ap (value 2) e ∙ value_of_alike d n,
  λ e. sym (digits_of_remainder 2 n x (omega arith)) ∙ ap (digits 2 n) (e ∙ sym (value_of_alike d n)) ∙ back,
)
  where
    back : digits 2 n (value 2 (replicate n d)) ≡ replicate n d
    back = let e = digits_of_value 2 (replicate n d) (all_alike_below n h) in rw length-replicate at e

pub reverse_alike : (d n : ℕ) → reverse (replicate n d) ≡ replicate n d
reverse_alike d zero = refl
reverse_alike d (suc n) =
    rw (reverse-cons, reverse_alike d n) (replicate-append-replicate n 1 d ∙ ap (λ (k : ℕ). replicate k d) (add-one n))

-- ---- the complement

pub bit_of_complement : (w x j : ℕ) → x < 2 ^ w → j < w → (2 ^ w - 1 - x) / 2 ^ j % 2 ≡ 1 - x / 2 ^ j % 2
bit_of_complement zero x j h l = absurd (omega arith)
bit_of_complement (suc w) x zero h l = simp (pow-zero, div-one) (omega (arith, pow-suc 2 w))
bit_of_complement (suc w) x (suc j) h l =
    let e : (2 ^ suc w - 1 - x) / 2 ≡ 2 ^ w - 1 - x / 2 = omega (arith, pow-suc 2 w) in
    rw (← divided_twice 2 j (2 ^ suc w - 1 - x), ← divided_twice 2 j x, e) (bit_of_complement w (x / 2) j (omega (arith, pow-suc 2 w)) (omega arith))

-- ---- shifts

-- of n + k digits, shifted up by k, the n lowest are left
pub shifted_up : (x n k : ℕ) → x * 2 ^ k % 2 ^ (n + k) ≡ x % 2 ^ n * 2 ^ k
shifted_up x n k = rw (mod-pow-add, shl-shr, mul-mod_left) (add-zero (x % 2 ^ n * 2 ^ k))
