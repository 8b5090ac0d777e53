-- Whole numbers that differ by a multiple of m: what `wrap` keeps, and what sums, differences and products keep.
use mathlib.Core.Path.{◌≡◌}
use Prim.Native.Nat.{ℕ, zero, suc, ◌+◌, ◌-◌, ◌*◌, ◌/◌, ◌%◌, ◌<◌}
use native.Mathlib.Nat.{mod-lt, div-add-mod', add-mul, mul-zero, zero-mul}
use native.Mathlib.Omega.{arith}
use lib.IntN.{ℤ, pos, negsuc, neg_ℤ, ◌+ℤ◌, ◌-ℤ◌, ◌*ℤ◌}
use Rattle.theory_whole.specs.Division.{◌modulo◌}
use Rattle.theory_whole.proofs.Halves.{up, down, up_neg, down_neg, sum}
use Rattle.theory_whole.proofs.Congruence.{Cong, equal, itself, turned, ◌then◌, remainder, plus_multiple, plus_once, added, times, cancel}

pub record Alike (m : ℕ) (x y : ℤ) : Type 0 where
  pub halves : Cong m (up x + down y) (up y + down x)

module _ {m : ℕ} where
  pub alike_itself : (x : ℤ) → Alike m x x
  alike_itself x = record { halves = itself (up x + down x) }

  pub alike_same : {x y : ℤ} → x ≡ y → Alike m x y
  alike_same {x} p = rw (← p) (alike_itself x)

  pub alike_turned : {x y : ℤ} → Alike m x y → Alike m y x
  alike_turned p = record { halves = turned p.halves }

  pub alike_once : (x y : ℤ) → up x + down y ≡ up y + down x + m → Alike m x y
  alike_once x y e = record { halves = equal e then plus_once (up y + down x) }

  pub alike_neg : {x y : ℤ} → Alike m x y → Alike m (neg_ℤ x) (neg_ℤ y)
  alike_neg {x} {y} p =
      let e : up (neg_ℤ x) + down (neg_ℤ y) ≡ up y + down x = omega (arith, up_neg x, down_neg y) in
      let e' : up x + down y ≡ up (neg_ℤ y) + down (neg_ℤ x) = omega (arith, up_neg y, down_neg x) in
      record { halves = equal e then turned p.halves then equal e' }

-- the product, in halves
pub product : (x y : ℤ) → up (x *ℤ y) + (up x * down y + down x * up y) ≡ up x * up y + down x * down y + down (x *ℤ y)
product (pos a) (pos b) = rw (mul-zero a, zero-mul b, zero-mul zero) (omega arith)
product (pos a) (negsuc b) = rw (mul-zero a, zero-mul (suc b), zero-mul zero) (omega (arith, up_neg (pos (a * suc b)), down_neg (pos (a * suc b))))
product (negsuc a) (pos b) = rw (mul-zero (suc a), zero-mul b, zero-mul zero) (omega (arith, up_neg (pos (suc a * b)), down_neg (pos (suc a * b))))
product (negsuc a) (negsuc b) = rw (mul-zero (suc a), zero-mul (suc b), zero-mul zero) (omega arith)

module _ {m : ℕ} (h : 0 < m) where
  pub alike_then : {x y z : ℤ} → Alike m x y → Alike m y z → Alike m x z
  alike_then {x} {y} {z} p q =
      let e : up x + down z + (up y + down y) ≡ up x + down y + (up y + down z) = omega arith in
      let e' : up y + down x + (up z + down y) ≡ up z + down x + (up y + down y) = omega arith in
      record { halves = cancel h (up y + down y) (equal e then added p.halves q.halves then equal e') }

  pub alike_add : {x x' y y' : ℤ} → Alike m x x' → Alike m y y' → Alike m (x +ℤ y) (x' +ℤ y')
  alike_add {x} {x'} {y} {y'} p q =
      let s = sum x y in
      let s' = sum x' y' in
      let e : up (x +ℤ y) + down (x' +ℤ y') + (down x + down y + (up x' + up y')) ≡ up x + down x' + (up y + down y') + (down (x +ℤ y) + up (x' +ℤ y')) = omega arith in
      let e' : up x' + down x + (up y' + down y) + (down (x +ℤ y) + up (x' +ℤ y')) ≡ up (x' +ℤ y') + down (x +ℤ y) + (down x + down y + (up x' + up y')) = omega arith in
      record {
        halves =
            cancel h (down x + down y + (up x' + up y'))
            (equal e then added (added p.halves q.halves) (itself (down (x +ℤ y) + up (x' +ℤ y'))) then equal e');
      }

  pub alike_sub : {x x' y y' : ℤ} → Alike m x x' → Alike m y y' → Alike m (x -ℤ y) (x' -ℤ y')
  alike_sub p q = alike_add p (alike_neg q)

  -- u = up x + down x' and v = up x' + down x are congruent, so u d + v c and u c + v d are
  alike_times : (y : ℤ) {x x' : ℤ} → Alike m x x' → Alike m (x *ℤ y) (x' *ℤ y)
  alike_times y {x} {x'} p =
      let c = up y in
      let d = down y in
      let u = up x + down x' in
      let v = up x' + down x in
      let s = product x y in
      let s' = product x' y in
      let ud : u * d ≡ up x * d + down x' * d = add-mul (up x) (down x') d in
      let uc : u * c ≡ up x * c + down x' * c = add-mul (up x) (down x') c in
      let vd : v * d ≡ up x' * d + down x * d = add-mul (up x') (down x) d in
      let vc : v * c ≡ up x' * c + down x * c = add-mul (up x') (down x) c in
      let e : up (x *ℤ y) + down (x' *ℤ y) + (u * d + v * c) ≡ up (x' *ℤ y) + down (x *ℤ y) + (v * d + u * c) = omega arith in
      record {
        halves =
            cancel h (u * d + v * c)
            (equal e then added (itself (up (x' *ℤ y) + down (x *ℤ y))) (added (times d (turned p.halves)) (times c p.halves)));
      }

  pub alike_mul : {x x' y y' : ℤ} → Alike m x x' → Alike m y y' → Alike m (x *ℤ y) (x' *ℤ y')
  alike_mul {x} {x'} {y} {y'} p q =
      alike_then (alike_times y p)
      (rw (lib.IntN.*ℤ_comm x' y, lib.IntN.*ℤ_comm x' y') (alike_times x' q))

  -- ---- the remainder
  pub modulo_below : (z : ℤ) → (z modulo m) < m
  unfolding ◌modulo◌
  modulo_below (pos a) = mod-lt a h
  modulo_below (negsuc a) = omega arith

  pub modulo_alike : (z : ℤ) → Alike m (pos (z modulo m)) z
  unfolding ◌modulo◌
  modulo_alike (pos a) =
      let e : a % m + 0 ≡ a % m = omega arith in
      let e' : a ≡ a + 0 = omega arith in
      record { halves = equal e then remainder a then equal e' }
  modulo_alike (negsuc a) =
      let l : a % m < m = mod-lt a h in
      let s : a / m * m + a % m ≡ a = div-add-mod' a m in
      let e : m - suc (a % m) + suc a ≡ 0 + a / m * m + m = omega arith in
      record { halves = equal e then plus_once (0 + a / m * m) then plus_multiple 0 (a / m) }
