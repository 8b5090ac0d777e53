-- Which quotients of signed numbers fit: all but that of the least number by -1, and so for both pairs of divisions.
use mathlib.Core.Path.{◌≡◌, refl, sym, ap, ◌∙◌}
use Prim.Native.Nat.{ℕ, zero, suc, ◌+◌, ◌*◌, ◌/◌, ◌^◌, ◌≤◌, ◌<◌}
use native.Mathlib.Nat.{div-le_self, div-lt_iff_lt-mul, mul-le-mul_left, pow-suc}
use native.Mathlib.Omega.{arith}
use lib.Pow.{pow_pos}
use lib.IntN.{ℤ, pos, negsuc, neg_ℤ, nat_abs}
use lib.Signed.{quot_z}
use Rattle.theory_whole.specs.Kind.{signed}
use Rattle.theory_whole.specs.Division.{ediv, emod, ◌modulo◌}
use Rattle.theory_whole.specs.Fit.{fits}
use Rattle.theory_whole.proofs.Halves.{up, down, up_neg, down_neg}
use Rattle.theory_whole.proofs.Fits.{In, Out, over, real_signed, in_fits}
use Rattle.theory_whole.proofs.Divisions.{euclidean}

pub two_halves : (w : ℕ) → 0 < w → 2 ^ w / 2 + 2 ^ w / 2 ≡ 2 ^ w
two_halves zero h = let none : ⊥ = omega arith in absurd none
two_halves (suc w) h = omega (arith, pow-suc 2 w)

by_minus_one : (a : ℤ) → (quot_z a (negsuc 0) ≡ neg_ℤ a) × (ediv a (negsuc 0) ≡ neg_ℤ a)
unfolding ediv
by_minus_one (pos a) = let e : a / 1 ≡ a = omega arith in (ap (λ (x : ℕ). neg_ℤ (pos x)) e, ap (λ (x : ℕ). neg_ℤ (pos x)) e)
by_minus_one (negsuc a) =
    let e : suc a / 1 ≡ suc a = omega arith in
    let e' : suc (a / 1) ≡ suc a = omega arith in
    (ap pos e, ap pos e')

-- dividing by 2 or more gives at most the half
halved : (n b : ℕ) → n / suc (suc b) ≤ n / 2
halved n b =
    let more : n < (n / 2 + 1) * 2 = omega arith in
    let wide : (n / 2 + 1) * 2 ≤ (n / 2 + 1) * suc (suc b) = mul-le-mul_left (n / 2 + 1) (omega arith) in
    let less : n / suc (suc b) < n / 2 + 1 = (div-lt_iff_lt-mul {k = suc (suc b)} {x = n} {y = n / 2 + 1} (omega arith)).1 (omega arith) in
    omega arith

module _ (w : ℕ) (some : 0 < w) where
  -- a divisor other than 0 and -1
  pub quotients_in : {a b : ℤ} → In (signed w) a → In (signed w) b → (b ≡ negsuc 0 → ⊥) → In (signed w) (quot_z a b) × In (signed w) (ediv a b)
  unfolding ediv
  quotients_in {a} {b} i j n = to a b i j n
    where
      natural_in : (x : ℕ) → x < 2 ^ w / 2 → In (signed w) (pos x)
      natural_in x h = record { above = omega arith; below = omega (arith, two_halves w some) }

      negated_in : (x : ℕ) → x ≤ 2 ^ w / 2 → In (signed w) (neg_ℤ (pos x))
      negated_in x h =
          let u = up_neg (pos x) in
          let d = down_neg (pos x) in
          record { above = omega arith; below = omega (arith, two_halves w some, pow_pos w) }

      to : (a b : ℤ) → In (signed w) a → In (signed w) b → (b ≡ negsuc 0 → ⊥) → In (signed w) (quot_z a b) × In (signed w) (ediv a b)
      to (pos a) (pos b) i j n =
          let l = div-le_self a b in
          let h : a / b < 2 ^ w / 2 = omega (arith, i.below, two_halves w some) in
          (natural_in (a / b) h, natural_in (a / b) h)
      to (pos a) (negsuc b) i j n =
          let l = div-le_self a (suc b) in
          let h : a / suc b ≤ 2 ^ w / 2 = omega (arith, i.below, two_halves w some) in
          (negated_in (a / suc b) h, negated_in (a / suc b) h)
      to (negsuc a) (pos b) i j n =
          let l = div-le_self (suc a) b in
          let l' = div-le_self a b in
          let h = i.above in
          (negated_in (suc a / b) (omega arith), negated_in (suc (a / b)) (omega arith))
      to (negsuc a) (negsuc zero) i j n = absurd (n refl)
      to (negsuc a) (negsuc (suc b)) i j n =
          let l = halved (suc a) b in
          let l' = halved a b in
          let h = i.above in
          let h' = j.above in
          (natural_in (suc a / suc (suc b)) (omega arith), natural_in (suc (a / suc (suc b))) (omega arith))

  -- -1
  pub minus_one_in : {a : ℤ} → In (signed w) a → (down a ≡ 2 ^ w / 2 → ⊥) → In (signed w) (quot_z a (negsuc 0))
  minus_one_in {a} i n =
      rw (by_minus_one a).0 (to a i n (up_neg a) (down_neg a))
    where
      to : (a : ℤ) → In (signed w) a → (down a ≡ 2 ^ w / 2 → ⊥) → up (neg_ℤ a) ≡ down a → down (neg_ℤ a) ≡ up a → In (signed w) (neg_ℤ a)
      to (pos a) i n u d = record { above = omega (arith, two_halves w some, i.below); below = omega (arith, two_halves w some, pow_pos w) }
      to (negsuc a) i n u d =
          let h = two_halves w some in
          let ne : suc a ≡ 2 ^ w / 2 → ⊥ = n in
          let l = i.above in
          record { above = omega arith; below = omega arith }

  pub least_by_minus_one : (a : ℤ) → down a ≡ 2 ^ w / 2 → Out (signed w) (quot_z a (negsuc 0))
  least_by_minus_one a e = rw (by_minus_one a).0 (to a e)
    where
      to : (a : ℤ) → down a ≡ 2 ^ w / 2 → Out (signed w) (neg_ℤ a)
      to (pos a) e = let none : ⊥ = omega (arith, two_halves w some, pow_pos w) in absurd none
      to (negsuc a) e = over (omega (arith, two_halves w some))

  -- ---- one pair's quotient fits where the other's does
  pub quotients_alike : (a b : ℤ) → In (signed w) a → In (signed w) b → fits (signed w) (ediv a b) ≡ fits (signed w) (quot_z a b)
  quotients_alike a b i j = to b j
    where
      both_fit : (b : ℤ) → In (signed w) b → (b ≡ negsuc 0 → ⊥) → fits (signed w) (ediv a b) ≡ fits (signed w) (quot_z a b)
      both_fit b j n =
          let q = quotients_in i j n in
          in_fits (real_signed w) (ediv a b) q.1 ∙ sym (in_fits (real_signed w) (quot_z a b) q.0)

      to : (b : ℤ) → In (signed w) b → fits (signed w) (ediv a b) ≡ fits (signed w) (quot_z a b)
      to (pos b) j = both_fit (pos b) j (λ e. let z : ◌≡◌ {A = ℕ} 0 1 = cc in omega arith)
      to (negsuc zero) j = ap (fits (signed w)) ((by_minus_one a).1 ∙ sym (by_minus_one a).0)
      to (negsuc (suc b)) j = both_fit (negsuc (suc b)) j (λ e. let z : suc b ≡ 0 = cc in omega arith)

  -- a Euclidean remainder is smaller than the divisor
  pub remainder_in : (a : ℤ) {b : ℤ} → 0 < nat_abs b → In (signed w) b → In (signed w) (emod a b)
  remainder_in a {b} n j = to b j (euclidean a b n).1
    where
      to : (b : ℤ) → In (signed w) b → (a modulo nat_abs b) < nat_abs b → In (signed w) (emod a b)
      to (pos b) j l = record { above = omega arith; below = omega (arith, j.below) }
      to (negsuc b) j l = record { above = omega arith; below = omega (arith, j.above, two_halves w some) }
