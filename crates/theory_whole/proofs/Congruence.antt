-- Natural numbers that differ by a multiple of m. A record, so that the two numbers can be inferred.
use mathlib.Core.Path.{◌≡◌, refl, sym, ap, ◌∙◌}
use Prim.Native.Nat.{ℕ, ◌+◌, ◌-◌, ◌*◌, ◌/◌, ◌%◌, ◌<◌}
use native.Mathlib.Nat.{add-mod, add-mod_right, add-mul-mod_self_right, mod-lt, mod-mod, mod-eq_of_lt, div-add-mod', mul_comm, mul_assoc, add-mul}
use native.Mathlib.Nat.{mul-add-mod_self_right}
use native.Mathlib.Omega.{arith}

pub record Cong (m x y : ℕ) : Type 0 where
  pub same : x % m ≡ y % m

module _ {m : ℕ} where
  pub equal : {x y : ℕ} → x ≡ y → Cong m x y
  equal p = record { same = ap (λ (t : ℕ). t % m) p }

  pub itself : (x : ℕ) → Cong m x x
  itself x = equal refl

  pub turned : {x y : ℕ} → Cong m x y → Cong m y x
  turned p = record { same = sym p.same }

  infixl 5 ◌then◌
  pub ◌then◌ : {x y z : ℕ} → Cong m x y → Cong m y z → Cong m x z
  p then q = record { same = p.same ∙ q.same }

  pub remainder : (x : ℕ) → Cong m (x % m) x
  remainder x = record { same = mod-mod x m }

  pub plus_multiple : (x t : ℕ) → Cong m (x + t * m) x
  plus_multiple x t = record { same = add-mul-mod_self_right x t m }

  pub plus_once : (x : ℕ) → Cong m (x + m) x
  plus_once x = record { same = add-mod_right x m }

  pub added : {x x' y y' : ℕ} → Cong m x x' → Cong m y y' → Cong m (x + y) (x' + y')
  added {x} {x'} {y} {y'} p q = record { same = add-mod x y m ∙ rw (p.same, q.same) (sym (add-mod x' y' m)) }

  pub times : (y : ℕ) {x x' : ℕ} → Cong m x x' → Cong m (x * y) (x' * y)
  times y {x} {x'} p = reduced x then equal (ap (λ (t : ℕ). t * y) p.same) then turned (reduced x')
    where
      reduced : (x : ℕ) → Cong m (x * y) (x % m * y)
      reduced x =
          equal
          (ap (λ (t : ℕ). t * y) (sym (div-add-mod' x m)) ∙ add-mul (x / m * m) (x % m) y
          ∙ ap (λ (t : ℕ). t + x % m * y) (mul_assoc (x / m) m y ∙ ap (λ (t : ℕ). x / m * t) (mul_comm m y) ∙ sym (mul_assoc (x / m) y m)))
          then record { same = mul-add-mod_self_right (x / m * y) m (x % m * y) }

module _ {m : ℕ} (h : 0 < m) where
  pub cancel : (z : ℕ) {x y : ℕ} → Cong m (x + z) (y + z) → Cong m x y
  cancel z {x} {y} p = turned (undone x) then added p (itself (m - z % m)) then undone y
    where
      undone : (x : ℕ) → Cong m (x + z + (m - z % m)) x
      undone x =
          let l : z % m < m = mod-lt z h in
          let s : z / m * m + z % m ≡ z = div-add-mod' z m in
          let e : x + z + (m - z % m) ≡ x + z / m * m + m = omega arith in
          equal e then plus_once (x + z / m * m) then plus_multiple x (z / m)

pub alone : {m x y : ℕ} → x < m → y < m → Cong m x y → x ≡ y
alone k l p = sym (mod-eq_of_lt k) ∙ p.same ∙ mod-eq_of_lt l
