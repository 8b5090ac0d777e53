-- `is_multiple` is what it says, and `next_multiple x y` is the smallest multiple of y that is at least x.
use mathlib.Core.Path.{◌≡◌, ap, ◌∙◌}
use mathlib.Core.Bool.{true}
use Prim.Native.Nat.{ℕ, suc, ◌+◌, ◌-◌, ◌*◌, ◌/◌, ◌%◌, ◌≤◌, ◌<◌}
use native.Mathlib.Nat.{mul-mod_left, div-add-mod', mod-lt, suc-mul, mul-le-mul_right, lt_of_mul-lt-mul_right}
use native.Mathlib.Omega.{arith}
use borrow.Author.Tests.{eq-eqb, ne_eqb, eqb-true, eqb-false}
use lib.Dec.{eqb}
use Rattle.theory_whole.specs.Multiple.{is_multiple, next_multiple}
use Rattle.theory_whole.proofs.Cases.{by_test}

pub multiple_is : (x y t : ℕ) → x ≡ t * y → is_multiple x y ≡ true
unfolding is_multiple
multiple_is x y t e = eq-eqb (x % y) 0 (ap (λ (n : ℕ). n % y) e ∙ mul-mod_left t y)

pub is_multiple_lem : (x y : ℕ) → is_multiple x y ≡ true → x ≡ x / y * y
unfolding is_multiple
is_multiple_lem x y e = let r = eqb-true (x % y) 0 e in let s = div-add-mod' x y in omega arith

pub next_at : (x y : ℕ) → x % y ≡ 0 → next_multiple x y ≡ x
unfolding next_multiple is_multiple
next_at x y e = rw (eq-eqb (x % y) 0 e)

pub next_after : (x y : ℕ) → (x % y ≡ 0 → ⊥) → next_multiple x y ≡ x + (y - x % y)
unfolding next_multiple is_multiple
next_after x y n = rw (ne_eqb (x % y) 0 n)

-- m is the smallest multiple of y that is at least x
pub record Smallest (x y m : ℕ) : Type 0 where
  pub count : ℕ
  pub multiple : m ≡ count * y
  pub reached : x ≤ m
  pub smallest : (t : ℕ) → x ≤ t * y → m ≤ t * y

pub next_smallest : (x y : ℕ) → 0 < y → Smallest x y (next_multiple x y)
next_smallest x y h =
    let s = div-add-mod' x y in
    let l = mod-lt x h in
    by_test (eqb (x % y) 0)
    (λ e. let z = eqb-true (x % y) 0 e in
    rw (next_at x y z) (record { count = x / y; multiple = omega arith; reached = omega arith; smallest = λ t g. g }))
    (λ f. let z = eqb-false (x % y) 0 f in
    let m = suc-mul (x / y) y in
    rw (next_after x y z)
    (record {
      count = suc (x / y);
      multiple = omega arith;
      reached = omega arith;
      smallest = λ t g.
          let above : x / y * y < t * y = omega arith in
          let more : suc (x / y) * y ≤ t * y = mul-le-mul_right y (lt_of_mul-lt-mul_right y above) in
          omega arith;
    }))
