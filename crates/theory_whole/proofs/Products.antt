-- Products of naturals against a power of two: tested by a division, and the lower half of one from halves of its factors.
use mathlib.Core.Path.{◌≡◌, sym, ap, ◌∙◌, subst, subst⁻¹}
use Prim.Native.Nat.{ℕ, ◌+◌, ◌*◌, ◌/◌, ◌%◌, ◌^◌, ◌<◌}
use native.Mathlib.Nat.{add-mul, mul-add, mul_assoc, mul_comm, mul_left_comm, add_assoc, add_comm, add_left_comm, mod-lt, div-lt_iff_lt-mul, div-add-mod'}
use native.Mathlib.Nat.{lt_of_le_of_lt, le_of_lt, mul-le-mul_left, mul-lt-mul_of_pos_right, mul-zero}
use native.Mathlib.Omega.{arith}
use lib.Pow.{pow_pos, pow-add}
use lib.IntN.{pos}
use Rattle.theory_whole.specs.Kind.{unsigned}
use Rattle.theory_whole.specs.Fit.{wrap}
use Rattle.theory_whole.proofs.Congruence.{Cong, equal, itself, ◌then◌, turned, remainder, plus_multiple, added, times}
use Rattle.theory_whole.proofs.Alike.{Alike}
use Rattle.theory_whole.proofs.Fits.{real_unsigned}
use Rattle.theory_whole.proofs.Wrap.{wrap_alike, wrap_in, wrap_is}
use Rattle.theory_whole.proofs.Unsigned.{in_unsigned, unsigned_below}

pub product_below : (i j : ℕ) {a b : ℕ} → a < 2 ^ i → b < 2 ^ j → a * b < 2 ^ (i + j)
product_below i j {a} {b} p q =
    subst⁻¹ (λ (n : ℕ). a * b < n) (pow-add 2 i j)
    (lt_of_le_of_lt (mul-le-mul_left a (le_of_lt q)) (mul-lt-mul_of_pos_right p (pow_pos j)))

pub times_zero : (a : ℕ) {b : ℕ} → b ≡ 0 → a * b ≡ 0
times_zero a e = rw e (mul-zero a)

-- ---- halves of h bits
pub high_half : (h : ℕ) {a : ℕ} → a < 2 ^ (h + h) → a / 2 ^ h < 2 ^ h
high_half h {a} l = (div-lt_iff_lt-mul (pow_pos h)).1 (subst (λ (n : ℕ). a < n) (pow-add 2 h h) l)

pub low_half : (h a : ℕ) → a % 2 ^ h < 2 ^ h
low_half h a = mod-lt a (pow_pos h)

wrapped_cong : (w r n : ℕ) → pos r ≡ wrap (unsigned w) (pos n) → Cong (2 ^ w) r n
wrapped_cong w r n e =
    let a : Alike (2 ^ w) (pos r) (pos n) = rw e (wrap_alike (real_unsigned w) (pos n)) in
    let z : r ≡ r + 0 = omega arith in
    let z' : n + 0 ≡ n = omega arith in
    equal z then a.halves then equal z'

cong_wrapped : (w r n : ℕ) → r < 2 ^ w → Cong (2 ^ w) r n → pos r ≡ wrap (unsigned w) (pos n)
cong_wrapped w r n h c =
    let z : r + 0 ≡ r = omega arith in
    let z' : n ≡ n + 0 = omega arith in
    wrap_is (real_unsigned w) (pos n) (pos r) (in_unsigned w h) (record { halves = equal z then c then equal z' })

ring : (p q s t H : ℕ) → (p * H + q) * (s * H + t) ≡ (q * s + t * p) * H + q * t + p * s * (H * H)
ring p q s t H = simp (add-mul, mul-add, mul_assoc, mul_comm, mul_left_comm, add_assoc, add_comm, add_left_comm)

module _ (h a b cross r : ℕ)
    (p : pos cross ≡ wrap (unsigned (h + h)) (pos ((a % 2 ^ h) * (b / 2 ^ h) + (b % 2 ^ h) * (a / 2 ^ h))))
    (q : pos r ≡ wrap (unsigned (h + h)) (pos ((cross * 2 ^ h) % 2 ^ (h + h) + (a % 2 ^ h) * (b % 2 ^ h)))) where
  pub product_by_halves : pos r ≡ wrap (unsigned (h + h)) (pos (a * b))
  product_by_halves =
      let al = a % 2 ^ h in
      let ah = a / 2 ^ h in
      let bl = b % 2 ^ h in
      let bh = b / 2 ^ h in
      let e : (al * bh + bl * ah) * 2 ^ h + al * bl + ah * bh * 2 ^ (h + h) ≡ a * b =
      ap (λ (M : ℕ). (al * bh + bl * ah) * 2 ^ h + al * bl + ah * bh * M) (pow-add 2 h h)
      ∙ sym (ring ah al bh bl (2 ^ h)) ∙ ap (λ (x : ℕ). x * (bh * 2 ^ h + bl)) (div-add-mod' a (2 ^ h)) ∙ ap (λ (x : ℕ). a * x) (div-add-mod' b (2 ^ h)) in
      cong_wrapped (h + h) r (a * b) (unsigned_below (h + h) (rw q (wrap_in (real_unsigned (h + h)) (pos ((cross * 2 ^ h) % 2 ^ (h + h) + al * bl)))))
      (wrapped_cong (h + h) r ((cross * 2 ^ h) % 2 ^ (h + h) + al * bl) q
      then added (remainder (cross * 2 ^ h) then times (2 ^ h) (wrapped_cong (h + h) cross (al * bh + bl * ah) p)) (itself (al * bl))
      then turned (plus_multiple ((al * bh + bl * ah) * 2 ^ h + al * bl) (ah * bh))
      then equal e)
