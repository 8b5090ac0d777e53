-- Going by the outcome of a test.
use mathlib.Core.Path.{◌≡◌, refl}
use mathlib.Core.Bool.{Bool, true, false, ◌&&◌}
use Prim.Native.Nat.{ℕ}
use native.Mathlib.Omega.{arith}

pub by_test {ℓ} : {X : Type ℓ} (t : Bool) → (t ≡ true → X) → (t ≡ false → X) → X
by_test true f g = f refl
by_test false f g = g refl

pub never {ℓ} : {X : Type ℓ} {t : Bool} → t ≡ true → t ≡ false → X
never p q = let z : ◌≡◌ {A = ℕ} 0 1 = cc in let none : ⊥ = omega arith in absurd none

pub so : {t : Bool} → (t ≡ false → ⊥) → t ≡ true
so {t} n = by_test t (λ e. e) (λ e. absurd (n e))

pub not_so : {t : Bool} → (t ≡ true → ⊥) → t ≡ false
not_so {t} n = by_test t (λ e. absurd (n e)) (λ e. e)

pub both : {s t : Bool} → s ≡ true → t ≡ true → s && t ≡ true
both p q = rw (p, q)

pub both_are : (s t : Bool) → s && t ≡ true → (s ≡ true) × (t ≡ true)
both_are true t p = (refl, p)
both_are false t p = never p refl

pub first_not : {s : Bool} (t : Bool) → s ≡ false → s && t ≡ false
first_not t p = rw p

pub second_not : (s : Bool) {t : Bool} → t ≡ false → s && t ≡ false
second_not true p = p
second_not false p = refl
