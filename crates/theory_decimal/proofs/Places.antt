-- How many digits a number has: one more than its quotient by the base, and the least count that is enough.
use mathlib.Core.Path.{◌≡◌, refl, ap}
use Prim.Native.Nat.{ℕ, zero, suc, ◌+◌, ◌/◌, ◌^◌, ◌≤◌, ◌<◌}
use native.Mathlib.Decide.{dec_lt}
use native.Mathlib.Nat.{pow-zero, pow-suc, pow-le-pow_right, div-lt_self, div-lt_iff_lt-mul}
use native.Mathlib.Omega.{arith}
use lib.Dec.{ltb}
use borrow.Author.Tests.{ltb-true, ltb-false, lt-ltb, le-ltb}
use Rattle.theory_whole.proofs.Cases.{by_test}
use Rattle.theory_digits.proofs.Digits.{quotient_below}
use Rattle.theory_decimal.specs.Written.{places_in, places}

module _ (b : ℕ) (p : 1 < b) where
  -- more steps than n are no better than n
  enough_steps : (f g n : ℕ) → n ≤ f → n ≤ g → places_in f b n ≡ places_in g b n
  unfolding places_in
  enough_steps zero zero n h l = refl
  enough_steps zero (suc g) n h l = rw (lt-ltb n b (omega arith))
  enough_steps (suc f) zero n h l = rw (lt-ltb n b (omega arith))
  enough_steps (suc f) (suc g) n h l =
      by_test (ltb n b) (λ t. rw t)
      (λ t. let m = ltb-false n b t in let q : n / b < n = div-lt_self (omega arith) p in
      rw t (ap suc (enough_steps f g (n / b) (omega arith) (omega arith))))

  pub places_one : (n : ℕ) → n < b → places b n ≡ 1
  unfolding places places_in
  places_one zero h = refl
  places_one (suc n) h = rw (lt-ltb (suc n) b h)

  pub places_more : (n : ℕ) → b ≤ n → places b n ≡ suc (places b (n / b))
  unfolding places places_in
  places_more zero h = absurd (omega arith)
  places_more (suc n) h =
      let q : suc n / b < suc n = div-lt_self (omega arith) p in
      rw (le-ltb (suc n) b h) (ap suc (enough_steps n (suc n / b) (suc n / b) (omega arith) (omega arith)))

  pub places_some : (n : ℕ) → 1 ≤ places b n
  places_some n =
      by_test (ltb n b) (λ t. let e = places_one n (ltb-true n b t) in omega arith)
      (λ t. let e = places_more n (ltb-false n b t) in omega arith)

  power_one : b ^ 1 ≡ b
  power_one = rw (pow-suc, pow-zero) (omega arith)

  -- so many digits are enough
  hold : (steps n : ℕ) → n ≤ steps → n < b ^ places b n
  hold zero n h = let l : n < b = omega arith in rw (places_one n l, power_one) l
  hold (suc steps) n h =
      by_test (ltb n b) (λ t. let l = ltb-true n b t in rw (places_one n l, power_one) l)
      (λ t. let l = ltb-false n b t in let q : n / b < n = div-lt_self (omega arith) p in
      rw (places_more n l, pow-suc) ((div-lt_iff_lt-mul {k = b} {x = n} {y = b ^ places b (n / b)} (omega arith)).0 (hold steps (n / b) (omega arith))))

  pub places_hold : (n : ℕ) → n < b ^ places b n
  places_hold n = hold n n (omega arith)

  -- and fewer are not
  pub places_least : (count n : ℕ) → n < b ^ suc count → places b n ≤ suc count
  places_least zero n h =
      let e = power_one in let l : n < b = omega arith in rw (places_one n l) (omega arith)
  places_least (suc count) n h =
      by_test (ltb n b) (λ t. rw (places_one n (ltb-true n b t)) (omega arith))
      (λ t. let i = places_least count (n / b) (quotient_below b (suc count) (omega arith) h) in
      rw (places_more n (ltb-false n b t)) (omega arith))

  -- between two powers
  pub places_are : (k n : ℕ) → b ^ k ≤ n → n < b ^ suc k → suc k ≡ places b n
  places_are k n l h = go (dec_lt k (places b n))
    where
      go : Dec (k < places b n) → suc k ≡ places b n
      go (yes m) = omega (arith, m, places_least k n h)
      go (no m) =
          let grows : b ^ places b n ≤ b ^ k = pow-le-pow_right {n = b} (omega arith) {i = places b n} {j = k} (omega arith) in
          let none : ⊥ = omega (arith, grows, l, places_hold n) in
          absurd none

-- four decimal places at a time
pub places_four : {n : ℕ} → 10000 ≤ n → places 10 n ≡ 4 + places 10 (n / 10000)
places_four {n} h =
    let one : 1 < 10 = omega arith in
    let e : n / 10 / 10 / 10 / 10 ≡ n / 10000 = omega arith in
    let p1 = places_more 10 one n (omega arith) in
    let p2 = places_more 10 one (n / 10) (omega arith) in
    let p3 = places_more 10 one (n / 10 / 10) (omega arith) in
    let p4 = places_more 10 one (n / 10 / 10 / 10) (omega arith) in
    rw (← e) (omega (arith, p1, p2, p3, p4))

pub places_of_64_bits : {n : ℕ} → n < 2 ^ 64 → places 10 n ≤ 20
places_of_64_bits {n} h = let one : 1 < 10 = omega arith in places_least 10 one 19 n (omega arith)
