-- Powers of two, and masks of the n lowest bits, 2 ^ n - 1. What the kit has of them is not repeated.
use mathlib.Core.Path.{◌≡◌, refl, sym, ap, ◌∙◌}
use mathlib.Core.Bool.{true}
use mathlib.Core.Logic.{◌↔◌}
use mathlib.Core.List.{List, [], ◌∷◌}
use Prim.Native.Nat.{ℕ, zero, suc, ◌+◌, ◌-◌, ◌*◌, ◌/◌, ◌%◌, ◌^◌, ◌≤◌, ◌<◌}
use native.Mathlib.Nat.{sub-add_cancel, mul-div_cancel, pow-suc, le-div_iff_mul-le}
use native.Mathlib.Omega.{arith}
use borrow.Author.Tests.{eq-eqb, eqb-true}
use lib.Dec.{eqb}
use lib.Pow.{pow_pos, pow-add, pow_mono}
use Rattle.theory_whole.proofs.Cases.{by_test, both, both_are}
use Rattle.theory_digits.specs.Powers.{halves, is_power_of_two}

pub power_subtracts : {m n : ℕ} → m ≤ n → 2 ^ (n - m) ≡ 2 ^ n / 2 ^ m
power_subtracts {m} {n} h =
    let e : n - m + m ≡ n = sub-add_cancel h in
    sym (mul-div_cancel (2 ^ (n - m)) (pow_pos m)) ∙ ap (λ (p : ℕ). p / 2 ^ m) (sym (pow-add 2 (n - m) m) ∙ ap (λ (k : ℕ). 2 ^ k) e)

-- the power of a place is less than the largest number, where there are two places or more
pub power_below_largest : {n w : ℕ} → 1 < w → n < w → 2 ^ n < 2 ^ w - 1
power_below_largest {n} {w} l h =
    let e : w - 1 + 1 ≡ w = omega arith in
    let half : 2 ^ w ≡ 2 ^ (w - 1) + 2 ^ (w - 1) = sym (ap (λ (k : ℕ). 2 ^ k) e) ∙ pow-add 2 (w - 1) 1 ∙ omega arith in
    let under : 2 ^ n ≤ 2 ^ (w - 1) = pow_mono {i = n} {j = w - 1} (omega arith) in
    let some : 2 ^ 1 ≤ 2 ^ (w - 1) = pow_mono {i = 1} {j = w - 1} (omega arith) in
    omega arith

-- a product with a power is at most m exactly where the other factor is at most m shifted down
pub product_at_most : (x n m : ℕ) → (x * 2 ^ n ≤ m) ↔ (x ≤ m / 2 ^ n)
product_at_most x n m = let e = le-div_iff_mul-le {k = 2 ^ n} {x = x} {y = m} (pow_pos n) in (e.1, e.0)

-- ---- told by halving

power_halves : (e steps : ℕ) → e ≤ steps → halves steps (2 ^ e) ≡ true
unfolding halves
power_halves zero zero l = refl
power_halves (suc e) zero l = absurd (omega arith)
power_halves zero (suc steps) l = refl
power_halves (suc e) (suc steps) l =
    let p = pow-suc 2 e in
    let q : 2 ^ suc e / 2 ≡ 2 ^ e = omega arith in
    let r : 2 ^ suc e % 2 ≡ 0 = omega arith in
    by_test (eqb (2 ^ suc e) 1) (λ t. rw t)
    (λ f. rw f (both (eq-eqb (2 ^ suc e % 2) 0 r) (rw q (power_halves e steps (omega arith)))))

less_than_power : (e : ℕ) → e < 2 ^ e
less_than_power zero = omega arith
less_than_power (suc e) = omega (arith, less_than_power e, pow-suc 2 e)

pub power_is : (e : ℕ) → is_power_of_two (2 ^ e) ≡ true
unfolding is_power_of_two
power_is e = power_halves e (2 ^ e) (omega (arith, less_than_power e))

halved_power : (steps n : ℕ) → halves steps n ≡ true → (e : ℕ) × (2 ^ e ≡ n)
unfolding halves
halved_power zero n h = (0, sym (eqb-true n 1 h))
halved_power (suc steps) n h =
    by_test (eqb n 1) (λ t. (0, sym (eqb-true n 1 t)))
    (λ f. let b = both_are (eqb (n % 2) 0) (halves steps (n / 2)) (rw f at h) in
    let even : n % 2 ≡ 0 = eqb-true (n % 2) 0 b.0 in
    let rest = halved_power steps (n / 2) b.1 in
    let p : 2 ^ rest.0 ≡ n / 2 = rest.1 in
    (suc rest.0, omega (arith, pow-suc 2 rest.0)))

pub is_power : (n : ℕ) → is_power_of_two n ≡ true → (e : ℕ) × (2 ^ e ≡ n)
unfolding is_power_of_two
is_power n h = halved_power n n h

-- ---- masks

pub mask_unfolds : (n : ℕ) → 2 ^ suc n - 1 ≡ 2 * (2 ^ n - 1) + 1
mask_unfolds n = omega (arith, pow-suc 2 n, pow_pos n)

pub mask_odd : (n : ℕ) → (2 ^ suc n - 1) % 2 ≡ 1
mask_odd n = omega (arith, pow-suc 2 n, pow_pos n)

pub mask_halved : (n : ℕ) → (2 ^ suc n - 1) / 2 ≡ 2 ^ n - 1
mask_halved n = omega (arith, pow-suc 2 n, pow_pos n)

-- ---- written out

-- `count` powers from 2 ^ n on
abbrev pub powers : ℕ → ℕ → List ℕ
powers n zero = []
powers n (suc count) = 2 ^ n ∷ powers (suc n) count

pub powers_to_64 : powers 0 65 ≡
    0x1 ∷ 0x2 ∷ 0x4 ∷ 0x8 ∷ 0x10 ∷ 0x20 ∷ 0x40 ∷ 0x80
    ∷ 0x100 ∷ 0x200 ∷ 0x400 ∷ 0x800 ∷ 0x1000 ∷ 0x2000 ∷ 0x4000 ∷ 0x8000
    ∷ 0x10000 ∷ 0x20000 ∷ 0x40000 ∷ 0x80000 ∷ 0x100000 ∷ 0x200000 ∷ 0x400000 ∷ 0x800000
    ∷ 0x1000000 ∷ 0x2000000 ∷ 0x4000000 ∷ 0x8000000 ∷ 0x10000000 ∷ 0x20000000 ∷ 0x40000000 ∷ 0x80000000
    ∷ 0x100000000 ∷ 0x200000000 ∷ 0x400000000 ∷ 0x800000000 ∷ 0x1000000000 ∷ 0x2000000000 ∷ 0x4000000000 ∷ 0x8000000000
    ∷ 0x10000000000 ∷ 0x20000000000 ∷ 0x40000000000 ∷ 0x80000000000 ∷ 0x100000000000 ∷ 0x200000000000 ∷ 0x400000000000 ∷ 0x800000000000
    ∷ 0x1000000000000 ∷ 0x2000000000000 ∷ 0x4000000000000 ∷ 0x8000000000000 ∷ 0x10000000000000 ∷ 0x20000000000000 ∷ 0x40000000000000 ∷ 0x80000000000000
    ∷ 0x100000000000000 ∷ 0x200000000000000 ∷ 0x400000000000000 ∷ 0x800000000000000 ∷ 0x1000000000000000 ∷ 0x2000000000000000 ∷ 0x4000000000000000 ∷ 0x8000000000000000
    ∷ 0x10000000000000000 ∷ []
powers_to_64 = refl

abbrev pub masks : ℕ → ℕ → List ℕ
masks n zero = []
masks n (suc count) = (2 ^ n - 1) ∷ masks (suc n) count

pub masks_to_64 : masks 0 65 ≡
    0x0 ∷ 0x1 ∷ 0x3 ∷ 0x7 ∷ 0xf ∷ 0x1f ∷ 0x3f ∷ 0x7f
    ∷ 0xff ∷ 0x1ff ∷ 0x3ff ∷ 0x7ff ∷ 0xfff ∷ 0x1fff ∷ 0x3fff ∷ 0x7fff
    ∷ 0xffff ∷ 0x1ffff ∷ 0x3ffff ∷ 0x7ffff ∷ 0xfffff ∷ 0x1fffff ∷ 0x3fffff ∷ 0x7fffff
    ∷ 0xffffff ∷ 0x1ffffff ∷ 0x3ffffff ∷ 0x7ffffff ∷ 0xfffffff ∷ 0x1fffffff ∷ 0x3fffffff ∷ 0x7fffffff
    ∷ 0xffffffff ∷ 0x1ffffffff ∷ 0x3ffffffff ∷ 0x7ffffffff ∷ 0xfffffffff ∷ 0x1fffffffff ∷ 0x3fffffffff ∷ 0x7fffffffff
    ∷ 0xffffffffff ∷ 0x1ffffffffff ∷ 0x3ffffffffff ∷ 0x7ffffffffff ∷ 0xfffffffffff ∷ 0x1fffffffffff ∷ 0x3fffffffffff ∷ 0x7fffffffffff
    ∷ 0xffffffffffff ∷ 0x1ffffffffffff ∷ 0x3ffffffffffff ∷ 0x7ffffffffffff ∷ 0xfffffffffffff ∷ 0x1fffffffffffff ∷ 0x3fffffffffffff ∷ 0x7fffffffffffff
    ∷ 0xffffffffffffff ∷ 0x1ffffffffffffff ∷ 0x3ffffffffffffff ∷ 0x7ffffffffffffff ∷ 0xfffffffffffffff ∷ 0x1fffffffffffffff ∷ 0x3fffffffffffffff ∷ 0x7fffffffffffffff
    ∷ 0xffffffffffffffff ∷ []
masks_to_64 = refl

-- the largest numbers of 8, 16, 32, 64 and 128 bits
pub largest : (2 ^ 8 - 1 ≡ 0xff) × (2 ^ 16 - 1 ≡ 0xffff) × (2 ^ 32 - 1 ≡ 0xffffffff) × (2 ^ 64 - 1 ≡ 0xffffffffffffffff)
    × (2 ^ 128 - 1 ≡ 0xffffffffffffffffffffffffffffffff)
largest = (refl, refl, refl, refl, refl)
