-- A whole number as a difference of two naturals, z = up z - down z. One law for each operation and each test puts a linear fact of ℤ
-- where `omega` reads it, and `by_halves` comes back.
use mathlib.Core.Path.{◌≡◌, refl, ap}
use mathlib.Core.Bool.{true, false}
use Prim.Native.Nat.{ℕ, zero, suc, ◌+◌, ◌≤◌, ◌<◌}
use native.Mathlib.Omega.{arith}
use lib.IntN.{ℤ, pos, negsuc, neg_ℤ, nat_abs, sub_ℕ, ◌+ℤ◌, ◌-ℤ◌}
use lib.Signed.{le_z, lt_z}
use lib.Dec.{ltb}
use borrow.Author.Tests.{ltb-true, ltb-false, leb-true, leb-false}
use Rattle.theory_whole.proofs.Cases.{by_test, never, so, not_so}

abbrev pub up : ℤ → ℕ
up (pos n) = n
up (negsuc n) = 0

abbrev pub down : ℤ → ℕ
down (pos n) = 0
down (negsuc n) = suc n

pub by_halves : (x y : ℤ) → up x + down y ≡ up y + down x → x ≡ y
by_halves (pos a) (pos b) h = let e : a ≡ b = omega arith in ap pos e
by_halves (pos a) (negsuc b) h = let none : ⊥ = omega arith in absurd none
by_halves (negsuc a) (pos b) h = let none : ⊥ = omega arith in absurd none
by_halves (negsuc a) (negsuc b) h = let e : a ≡ b = omega arith in ap negsuc e

pub same_halves : {x y : ℤ} → x ≡ y → up x + down y ≡ up y + down x
same_halves p = rw p

-- ---- operations

pub magnitude : (z : ℤ) → nat_abs z ≡ up z + down z
magnitude (pos n) = omega arith
magnitude (negsuc n) = omega arith

pub up_neg : (z : ℤ) → up (neg_ℤ z) ≡ down z
up_neg (pos zero) = refl
up_neg (pos (suc n)) = refl
up_neg (negsuc n) = refl

pub down_neg : (z : ℤ) → down (neg_ℤ z) ≡ up z
down_neg (pos zero) = refl
down_neg (pos (suc n)) = refl
down_neg (negsuc n) = refl

apart : (a b : ℕ) → up (sub_ℕ a b) + b ≡ a + down (sub_ℕ a b)
apart a b =
    by_test (ltb a b)
    (λ e. let l = ltb-true a b e in rw e (omega arith))
    (λ e. let l = ltb-false a b e in rw e (omega arith))

pub sum : (x y : ℤ) → up (x +ℤ y) + (down x + down y) ≡ up x + up y + down (x +ℤ y)
sum (pos a) (pos b) = omega arith
sum (pos a) (negsuc b) = omega (arith, apart a (suc b))
sum (negsuc a) (pos b) = omega (arith, apart b (suc a))
sum (negsuc a) (negsuc b) = omega arith

pub difference : (x y : ℤ) → up (x -ℤ y) + (down x + up y) ≡ up x + down y + down (x -ℤ y)
difference x y = omega (arith, sum x (neg_ℤ y), up_neg y, down_neg y)

-- ---- tests

pub le_yes : (x y : ℤ) → le_z x y ≡ true → up x + down y ≤ up y + down x
le_yes (pos a) (pos b) e = omega (arith, leb-true a b e)
le_yes (pos a) (negsuc b) e = never e refl
le_yes (negsuc a) (pos b) e = omega arith
le_yes (negsuc a) (negsuc b) e = omega (arith, leb-true b a e)

pub le_no : (x y : ℤ) → le_z x y ≡ false → up y + down x < up x + down y
le_no (pos a) (pos b) e = omega (arith, leb-false a b e)
le_no (pos a) (negsuc b) e = omega arith
le_no (negsuc a) (pos b) e = never refl e
le_no (negsuc a) (negsuc b) e = omega (arith, leb-false b a e)

pub lt_yes : (x y : ℤ) → lt_z x y ≡ true → up x + down y < up y + down x
lt_yes (pos a) (pos b) e = omega (arith, ltb-true a b e)
lt_yes (pos a) (negsuc b) e = never e refl
lt_yes (negsuc a) (pos b) e = omega arith
lt_yes (negsuc a) (negsuc b) e = omega (arith, ltb-true b a e)

pub lt_no : (x y : ℤ) → lt_z x y ≡ false → up y + down x ≤ up x + down y
lt_no (pos a) (pos b) e = omega (arith, ltb-false a b e)
lt_no (pos a) (negsuc b) e = omega arith
lt_no (negsuc a) (pos b) e = never refl e
lt_no (negsuc a) (negsuc b) e = omega (arith, ltb-false b a e)

pub is_le : (x y : ℤ) → up x + down y ≤ up y + down x → le_z x y ≡ true
is_le x y h = so (λ e. omega (arith, le_no x y e))

pub not_le : (x y : ℤ) → up y + down x < up x + down y → le_z x y ≡ false
not_le x y h = not_so (λ e. omega (arith, le_yes x y e))

pub is_lt : (x y : ℤ) → up x + down y < up y + down x → lt_z x y ≡ true
is_lt x y h = so (λ e. omega (arith, lt_no x y e))

pub not_lt : (x y : ℤ) → up y + down x ≤ up x + down y → lt_z x y ≡ false
not_lt x y h = not_so (λ e. omega (arith, lt_yes x y e))
