-- `ediv`, `emod` are a Euclidean pair and `quot_z`, `rem_z` a truncated one, and no other quotient and remainder are.
use mathlib.Core.Path.{◌≡◌, sym, ◌∙◌}
use Prim.Native.Nat.{ℕ, suc, ◌+◌, ◌*◌, ◌≤◌, ◌<◌}
use native.Mathlib.Nat.{add-mul, suc-mul, mul-le-mul_right, mul-zero}
use native.Mathlib.Omega.{arith}
use borrow.Author.Tests.{ltb-true, ltb-false}
use lib.Dec.{ltb}
use lib.IntN.{ℤ, pos, negsuc, nat_abs, ◌+ℤ◌, ◌*ℤ◌}
use lib.Signed.{lt_z, quot_z, rem_z}
use Rattle.theory_whole.specs.Division.{ediv, emod}
use Rattle.theory_whole.specs.Pairs.{EuclideanPair, TruncatedPair}
use Rattle.theory_whole.proofs.Cases.{by_test}
use Rattle.theory_whole.proofs.Halves.{up, down, by_halves, same_halves, sum, magnitude, le_yes, lt_no, is_le, not_lt}
use Rattle.theory_whole.proofs.Alike.{product}
use Rattle.theory_whole.proofs.Divisions.{euclidean, truncated, remainder_sign}

-- ---- they are such pairs

module _ (a b : ℤ) (n : 0 < nat_abs b) where
  pub euclidean_pair : EuclideanPair a b (ediv a b) (emod a b)
  euclidean_pair = record { whole = (euclidean a b n).0; small = (euclidean a b n).1; sign = is_le (pos 0) (emod a b) (omega arith) }

  pub truncated_pair : TruncatedPair a b (quot_z a b) (rem_z a b)
  truncated_pair =
      let s = remainder_sign a b n in
      record {
        whole = (truncated a b n).0;
        small = (truncated a b n).1;
        sign = λ e. let l = s.0 (not_lt a (pos 0) (omega (arith, le_yes (pos 0) a e))) in is_le (pos 0) (rem_z a b) (omega (arith, lt_no (rem_z a b) (pos 0) l));
        sign_below = λ e. is_le (rem_z a b) (pos 0) (omega (arith, lt_no (pos 0) (rem_z a b) (s.1 e)));
      }

-- ---- there is one such pair

-- multiples of m that differ by less than m are one multiple
one_multiple : (m t s x y : ℕ) → t * m + x ≡ s * m + y → x < y + m → y < x + m → t ≡ s
one_multiple m t s x y e h g =
    by_test (ltb t s) (λ l. absurd (less t s x y e h (ltb-true t s l)))
    (λ l. by_test (ltb s t) (λ k. absurd (less s t y x (sym e) g (ltb-true s t k))) (λ k. omega (arith, ltb-false t s l, ltb-false s t k)))
  where
    less : (t s x y : ℕ) → t * m + x ≡ s * m + y → x < y + m → t < s → ⊥
    less t s x y e h l =
        let more : suc t * m ≤ s * m = mul-le-mul_right m l in
        omega (arith, suc-mul t m)

-- remainders that differ by less than b are of one pair
one_pair : (b q r q' r' : ℤ) → q *ℤ b +ℤ r ≡ q' *ℤ b +ℤ r'
    → up r + down r' < up r' + down r + nat_abs b → up r' + down r < up r + down r' + nat_abs b → (q ≡ q') × (r ≡ r')
one_pair b q r q' r' e h g =
    let same : q ≡ q' = by_halves q q' (quotient b e h g) in
    let e' : q' *ℤ b +ℤ r ≡ q' *ℤ b +ℤ r' = (rw same at e) in
    (same, by_halves r r' (omega (arith, same_halves e', sum (q' *ℤ b) r, sum (q' *ℤ b) r')))
  where
    u : ℕ
    u = up q + down q'

    v : ℕ
    v = up q' + down q

    in_halves : (b : ℤ) → q *ℤ b +ℤ r ≡ q' *ℤ b +ℤ r' → u * up b + v * down b + (up r + down r') ≡ v * up b + u * down b + (up r' + down r)
    in_halves b e =
        let s = sum (q *ℤ b) r in
        let s' = sum (q' *ℤ b) r' in
        let p = product q b in
        let p' = product q' b in
        let uc = add-mul (up q) (down q') (up b) in
        let vd = add-mul (up q') (down q) (down b) in
        let vc = add-mul (up q') (down q) (up b) in
        let ud = add-mul (up q) (down q') (down b) in
        omega (arith, same_halves e)

    quotient : (b : ℤ) → q *ℤ b +ℤ r ≡ q' *ℤ b +ℤ r' → up r + down r' < up r' + down r + nat_abs b → up r' + down r < up r + down r' + nat_abs b → u ≡ v
    quotient (pos b) e h g =
        one_multiple b u v (up r + down r') (up r' + down r) (omega (arith, in_halves (pos b) e, mul-zero u, mul-zero v)) h g
    quotient (negsuc b) e h g =
        sym (one_multiple (suc b) v u (up r + down r') (up r' + down r) (omega (arith, in_halves (negsuc b) e, mul-zero u, mul-zero v)) h g)

pub euclidean_only : (a b q r : ℤ) → EuclideanPair a b q r → (q ≡ ediv a b) × (r ≡ emod a b)
euclidean_only a b q r p =
    let n : 0 < nat_abs b = omega (arith, p.small) in
    let o = euclidean_pair a b n in
    let m = magnitude r in
    let l = le_yes (pos 0) r p.sign in
    one_pair b q r (ediv a b) (emod a b) (sym p.whole ∙ o.whole) (omega (arith, p.small, o.small)) (omega (arith, p.small, o.small))

pub truncated_only : (a b q r : ℤ) → TruncatedPair a b q r → (q ≡ quot_z a b) × (r ≡ rem_z a b)
truncated_only a b q r p =
    let n : 0 < nat_abs b = omega (arith, p.small) in
    let o = truncated_pair a b n in
    let m = magnitude r in
    let m' = magnitude (rem_z a b) in
    let k = p.small in
    let k' = o.small in
    by_test (lt_z a (pos 0))
    (λ e. let l = le_yes r (pos 0) (p.sign_below e) in
    let l' = le_yes (rem_z a b) (pos 0) (o.sign_below e) in
    one_pair b q r (quot_z a b) (rem_z a b) (sym p.whole ∙ o.whole) (omega arith) (omega arith))
    (λ e. let t = is_le (pos 0) a (omega (arith, lt_no a (pos 0) e)) in
    let l = le_yes (pos 0) r (p.sign t) in
    let l' = le_yes (pos 0) (rem_z a b) (o.sign t) in
    one_pair b q r (quot_z a b) (rem_z a b) (sym p.whole ∙ o.whole) (omega arith) (omega arith))
