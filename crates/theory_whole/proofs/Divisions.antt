-- The two pairs of divisions: `quot_z`, `rem_z` round towards zero; `ediv`, `emod` have a remainder that is never negative. What each pair is,
-- and each pair from the other.
use mathlib.Core.Path.{◌≡◌, refl, sym, ap, ◌∙◌}
use mathlib.Core.Bool.{true, false}
use Prim.Native.Nat.{ℕ, zero, suc, ◌+◌, ◌-◌, ◌*◌, ◌/◌, ◌%◌, ◌≤◌, ◌<◌}
use native.Mathlib.Nat.{mod-lt, div-add-mod', suc-mul, zero-mul}
use native.Mathlib.Omega.{arith}
use lib.Arith.{digits_div, digits_mod}
use lib.Dec.{ltb}
use lib.IntN.{ℤ, pos, negsuc, neg_ℤ, nat_abs, ◌+ℤ◌, ◌-ℤ◌, ◌*ℤ◌, neg_ℤ-+ℤ, +ℤ-neg_ℤ_cancel, -ℤ-+ℤ_cancel}
use lib.Signed.{lt_z, quot_z, rem_z}
use borrow.Author.Tests.{ltb-true, ltb-false}
use Rattle.theory_whole.specs.Division.{◌modulo◌, ediv, emod}
use Rattle.theory_whole.proofs.Cases.{by_test, never, so}
use Rattle.theory_whole.proofs.Halves.{up, down, by_halves, sum, difference, up_neg, down_neg, lt_yes, lt_no, not_lt, magnitude}

-- the next number's quotient and remainder: the remainder goes up, or it is full and the quotient goes up
data Step (n b : ℕ) : Type 0 where
  up_one : suc (n % b) < b → suc n / b ≡ n / b → suc n % b ≡ suc (n % b) → Step n b
  carry : suc (n % b) ≡ b → suc n / b ≡ suc (n / b) → suc n % b ≡ 0 → Step n b

step : (n b : ℕ) → 0 < b → Step n b
step n b h =
    let l : n % b < b = mod-lt n h in
    let s : n / b * b + n % b ≡ n = div-add-mod' n b in
    by_test (ltb (suc (n % b)) b)
    (λ t. let r = ltb-true (suc (n % b)) b t in
    let e : n / b * b + suc (n % b) ≡ suc n = omega arith in
    up_one r (sym (ap (λ (x : ℕ). x / b) e) ∙ digits_div (n / b) r) (sym (ap (λ (x : ℕ). x % b) e) ∙ digits_mod (n / b) r))
    (λ f. let r = ltb-false (suc (n % b)) b f in
    let full : suc (n % b) ≡ b = omega arith in
    let m : suc (n / b) * b ≡ n / b * b + b = suc-mul (n / b) b in
    let e : suc (n / b) * b + 0 ≡ suc n = omega arith in
    carry full (sym (ap (λ (x : ℕ). x / b) e) ∙ digits_div (suc (n / b)) h) (sym (ap (λ (x : ℕ). x % b) e) ∙ digits_mod (suc (n / b)) h))

-- ---- what the pairs are

times_negative : (x b : ℕ) → neg_ℤ (pos x) *ℤ negsuc b ≡ pos (x * suc b)
times_negative zero b = rw zero-mul
times_negative (suc x) b = refl

times_positive : (x b : ℕ) → neg_ℤ (pos x) *ℤ pos b ≡ neg_ℤ (pos (x * b))
times_positive zero b = rw zero-mul
times_positive (suc x) b = refl

-- -(n + 1) is minus one multiple of b more than n has, and what is left
below_multiple : (n b : ℕ) → 0 < b → negsuc n ≡ neg_ℤ (pos (suc (n / b) * b)) +ℤ pos (b - suc (n % b))
below_multiple n b h =
    let m = suc-mul (n / b) b in
    let s = div-add-mod' n b in
    let l = mod-lt n h in
    let x = sum (neg_ℤ (pos (suc (n / b) * b))) (pos (b - suc (n % b))) in
    by_halves (negsuc n) (neg_ℤ (pos (suc (n / b) * b)) +ℤ pos (b - suc (n % b)))
    (omega (arith, up_neg (pos (suc (n / b) * b)), down_neg (pos (suc (n / b) * b))))

module _ (a b : ℤ) (n : 0 < nat_abs b) where
  pub euclidean : (a ≡ ediv a b *ℤ b +ℤ emod a b) × (a modulo nat_abs b) < nat_abs b
  unfolding ediv ◌modulo◌
  euclidean = to a b n
    where
      to : (a b : ℤ) → 0 < nat_abs b → (a ≡ ediv a b *ℤ b +ℤ emod a b) × (a modulo nat_abs b) < nat_abs b
      to (pos a) (pos b) n = (ap pos (sym (div-add-mod' a b)), mod-lt a n)
      to (pos a) (negsuc b) n = (rw (times_negative (a / suc b) b) (ap pos (sym (div-add-mod' a (suc b)))), mod-lt a n)
      to (negsuc a) (pos b) n = (below_multiple a b n, omega arith)
      to (negsuc a) (negsuc b) n = (below_multiple a (suc b) n, omega arith)

  pub truncated : (a ≡ quot_z a b *ℤ b +ℤ rem_z a b) × nat_abs (rem_z a b) < nat_abs b
  truncated = to a b n
    where
      small : (m b : ℕ) → 0 < b → nat_abs (neg_ℤ (pos (m % b))) < b
      small m b n = let l = mod-lt m n in let u = up_neg (pos (m % b)) in let d = down_neg (pos (m % b)) in omega (arith, magnitude (neg_ℤ (pos (m % b))))

      negated : (x y : ℕ) → neg_ℤ (pos (x + y)) ≡ neg_ℤ (pos x) +ℤ neg_ℤ (pos y)
      negated x y = neg_ℤ-+ℤ (pos x) (pos y)

      to : (a b : ℤ) → 0 < nat_abs b → (a ≡ quot_z a b *ℤ b +ℤ rem_z a b) × nat_abs (rem_z a b) < nat_abs b
      to (pos a) (pos b) n = (ap pos (sym (div-add-mod' a b)), mod-lt a n)
      to (pos a) (negsuc b) n = (rw (times_negative (a / suc b) b) (ap pos (sym (div-add-mod' a (suc b)))), mod-lt a n)
      to (negsuc a) (pos b) n = (
        rw (times_positive (suc a / b) b) (ap (λ (x : ℕ). neg_ℤ (pos x)) (sym (div-add-mod' (suc a) b)) ∙ negated (suc a / b * b) (suc a % b)),
        small (suc a) b n,
      )
      to (negsuc a) (negsuc b) n = (
        ap (λ (x : ℕ). neg_ℤ (pos x)) (sym (div-add-mod' (suc a) (suc b))) ∙ negated (suc a / suc b * suc b) (suc a % suc b),
        small (suc a) (suc b) n,
      )

  -- the remainder that rounds towards zero has the dividend's sign, or is 0
  pub remainder_sign : (lt_z a (pos 0) ≡ false → lt_z (rem_z a b) (pos 0) ≡ false) × (lt_z a (pos 0) ≡ true → lt_z (pos 0) (rem_z a b) ≡ false)
  remainder_sign = to a
    where
      to : (a : ℤ) → (lt_z a (pos 0) ≡ false → lt_z (rem_z a b) (pos 0) ≡ false) × (lt_z a (pos 0) ≡ true → lt_z (pos 0) (rem_z a b) ≡ false)
      to (pos a) = (λ e. not_lt (pos (a % nat_abs b)) (pos 0) (omega arith), λ e. let none : ⊥ = omega (arith, lt_yes (pos a) (pos 0) e) in absurd none)
      to (negsuc a) =
          let u = up_neg (pos (suc a % nat_abs b)) in
          let d = down_neg (pos (suc a % nat_abs b)) in
          (λ e. never refl e, λ e. not_lt (pos 0) (neg_ℤ (pos (suc a % nat_abs b))) (omega arith))

-- ---- each pair from the other

module _ (a b : ℤ) (n : 0 < nat_abs b) where
  pub agree : lt_z (rem_z a b) (pos 0) ≡ false → (quot_z a b ≡ ediv a b) × (rem_z a b ≡ emod a b)
  unfolding ediv ◌modulo◌
  agree t = to a b n (lt_no (rem_z a b) (pos 0) t)
    where
      exact : (a b : ℕ) → 0 < b → down (neg_ℤ (pos (suc a % b))) ≤ up (neg_ℤ (pos (suc a % b))) + 0 → Step a b → (suc a / b ≡ suc (a / b)) × (neg_ℤ (pos (suc a % b)) ≡ pos (b - suc (a % b)))
      exact a b n t (up_one r q m) = let u = up_neg (pos (suc a % b)) in let d = down_neg (pos (suc a % b)) in let none : ⊥ = omega arith in absurd none
      exact a b n t (carry f q m) = (q, rw m (let e : 0 ≡ b - suc (a % b) = omega arith in ap pos e))

      to : (a b : ℤ) → 0 < nat_abs b → up (pos 0) + down (rem_z a b) ≤ up (rem_z a b) + 0 → (quot_z a b ≡ ediv a b) × (rem_z a b ≡ emod a b)
      to (pos a) (pos b) n t = (refl, refl)
      to (pos a) (negsuc b) n t = (refl, refl)
      to (negsuc a) (pos b) n t = let e = exact a b n (omega arith) (step a b n) in (ap (λ (x : ℕ). neg_ℤ (pos x)) e.0, e.1)
      to (negsuc a) (negsuc b) n t = let e = exact a (suc b) n (omega arith) (step a (suc b) n) in (ap pos e.0, e.1)

  -- a negative remainder, by a negative divisor and by a positive one
  module _ (t : lt_z (rem_z a b) (pos 0) ≡ true) where
    pub one_more : lt_z b (pos 0) ≡ true → (quot_z a b +ℤ pos 1 ≡ ediv a b) × (rem_z a b -ℤ b ≡ emod a b)
    unfolding ediv ◌modulo◌
    one_more s = to a b n (lt_yes (rem_z a b) (pos 0) t) (lt_yes b (pos 0) s)
      where
        by : (a b : ℕ) → up (neg_ℤ (pos (suc a % suc b))) + 0 < 0 + down (neg_ℤ (pos (suc a % suc b))) → Step a (suc b)
            → (pos (suc a / suc b + 1) ≡ pos (suc (a / suc b))) × (neg_ℤ (pos (suc a % suc b)) -ℤ negsuc b ≡ pos (suc b - suc (a % suc b)))
        by a b t (up_one r q m) =
            let u = up_neg (pos (suc a % suc b)) in
            let d = down_neg (pos (suc a % suc b)) in
            let e : suc a / suc b + 1 ≡ suc (a / suc b) = omega arith in
            let x = difference (neg_ℤ (pos (suc a % suc b))) (negsuc b) in
            (ap pos e, by_halves (neg_ℤ (pos (suc a % suc b)) -ℤ negsuc b) (pos (suc b - suc (a % suc b))) (omega arith))
        by a b t (carry f q m) = let u = up_neg (pos (suc a % suc b)) in let d = down_neg (pos (suc a % suc b)) in let none : ⊥ = omega arith in absurd none

        to : (a b : ℤ) → 0 < nat_abs b → up (rem_z a b) + 0 < 0 + down (rem_z a b) → up b + 0 < 0 + down b → (quot_z a b +ℤ pos 1 ≡ ediv a b) × (rem_z a b -ℤ b ≡ emod a b)
        to (pos a) b n t s = let none : ⊥ = omega arith in absurd none
        to (negsuc a) (pos b) n t s = let none : ⊥ = omega arith in absurd none
        to (negsuc a) (negsuc b) n t s = by a b t (step a (suc b) n)

    pub one_less : lt_z b (pos 0) ≡ false → (quot_z a b -ℤ pos 1 ≡ ediv a b) × (rem_z a b +ℤ b ≡ emod a b)
    unfolding ediv ◌modulo◌
    one_less s = to a b n (lt_yes (rem_z a b) (pos 0) t) (lt_no b (pos 0) s)
      where
        by : (a b : ℕ) → up (neg_ℤ (pos (suc a % b))) + 0 < 0 + down (neg_ℤ (pos (suc a % b))) → Step a b
            → (neg_ℤ (pos (suc a / b)) -ℤ pos 1 ≡ negsuc (a / b)) × (neg_ℤ (pos (suc a % b)) +ℤ pos b ≡ pos (b - suc (a % b)))
        by a b t (up_one r q m) =
            let u = up_neg (pos (suc a % b)) in
            let d = down_neg (pos (suc a % b)) in
            let u' = up_neg (pos (suc a / b)) in
            let d' = down_neg (pos (suc a / b)) in
            let x = difference (neg_ℤ (pos (suc a / b))) (pos 1) in
            let y = sum (neg_ℤ (pos (suc a % b))) (pos b) in (
              by_halves (neg_ℤ (pos (suc a / b)) -ℤ pos 1) (negsuc (a / b)) (omega arith),
              by_halves (neg_ℤ (pos (suc a % b)) +ℤ pos b) (pos (b - suc (a % b))) (omega arith),
            )
        by a b t (carry f q m) = let u = up_neg (pos (suc a % b)) in let d = down_neg (pos (suc a % b)) in let none : ⊥ = omega arith in absurd none

        to : (a b : ℤ) → 0 < nat_abs b → up (rem_z a b) + 0 < 0 + down (rem_z a b) → 0 + down b ≤ up b + 0 → (quot_z a b -ℤ pos 1 ≡ ediv a b) × (rem_z a b +ℤ b ≡ emod a b)
        to (pos a) b n t s = let none : ⊥ = omega arith in absurd none
        to (negsuc a) (negsuc b) n t s = let none : ⊥ = omega arith in absurd none
        to (negsuc a) (pos b) n t s = by a b t (step a b n)

  -- the way back: the pairs differ only where a negative dividend leaves a Euclidean remainder
  pub agree_natural : lt_z a (pos 0) ≡ false → (quot_z a b ≡ ediv a b) × (rem_z a b ≡ emod a b)
  agree_natural e = agree ((remainder_sign a b n).0 e)

  below : lt_z a (pos 0) ≡ true → (emod a b ≡ pos 0 → ⊥) → lt_z (rem_z a b) (pos 0) ≡ true
  below e m =
      so (λ f.
      let r : rem_z a b ≡ emod a b = (agree f).1 in
      let g = lt_no (pos 0) (rem_z a b) ((remainder_sign a b n).1 e) in
      let g' : (a modulo nat_abs b) + 0 ≤ 0 = (rw r at g) in
      let z : (a modulo nat_abs b) ≡ 0 = omega arith in
      m (ap pos z))

  pub one_less_back : lt_z a (pos 0) ≡ true → (emod a b ≡ pos 0 → ⊥) → lt_z b (pos 0) ≡ true → (quot_z a b ≡ ediv a b -ℤ pos 1) × (rem_z a b ≡ emod a b +ℤ b)
  one_less_back e m s =
      let p = one_more (below e m) s in (
        sym (+ℤ-neg_ℤ_cancel (quot_z a b) (pos 1)) ∙ ap (λ (z : ℤ). z -ℤ pos 1) p.0,
        sym (-ℤ-+ℤ_cancel (rem_z a b) b) ∙ ap (λ (z : ℤ). z +ℤ b) p.1,
      )

  pub one_more_back : lt_z a (pos 0) ≡ true → (emod a b ≡ pos 0 → ⊥) → lt_z b (pos 0) ≡ false → (quot_z a b ≡ ediv a b +ℤ pos 1) × (rem_z a b ≡ emod a b -ℤ b)
  one_more_back e m s =
      let p = one_less (below e m) s in (
        sym (-ℤ-+ℤ_cancel (quot_z a b) (pos 1)) ∙ ap (λ (z : ℤ). z +ℤ pos 1) p.0,
        sym (+ℤ-neg_ℤ_cancel (rem_z a b) b) ∙ ap (λ (z : ℤ). z -ℤ b) p.1,
      )
