-- Regrouping into a larger base and back: each is the other's inverse, and neither changes the number.
use mathlib.Core.Path.{◌≡◌, refl, sym, ap, ◌∙◌}
use mathlib.Core.List.{List, [], ◌∷◌, ◌++◌, reverse, reverse-reverse}
use Prim.Native.Nat.{ℕ, zero, suc, ◌*◌, ◌/◌, ◌%◌, ◌^◌, ◌≤◌, ◌<◌}
use native.Mathlib.Nat.{add_comm, suc-mul, zero-mul, pow-zero, pow-suc, one-le-pow, div-mul_cancel, dvd_of_mod-eq-zero, le-div_iff_mul-le}
use native.Mathlib.Nat.{eq_of_mul-eq-mul_right}
use native.Mathlib.Omega.{arith}
use lib.ListN.{length, length-append, length-reverse}
use lib.Pow.{pow-add}
use lib.Seq.{take_at, drop_at, take-length}
use Rattle.theory_lists.specs.Bounds.{AllBelow}
use Rattle.theory_lists.proofs.Below.{below_append, below_reverse}
use Rattle.theory_lists.specs.Pieces.{first_pieces}
use Rattle.theory_digits.specs.Digits.{digits, value, value_high}
use Rattle.theory_digits.specs.Bases.{larger, smaller, larger_high, smaller_high}
use Rattle.theory_digits.proofs.Digits.{length_digits, digits_below, value_below, value_of_lowest, value_of_digits, digits_of_value, value_injective}
use Rattle.theory_digits.proofs.Digits.{digits_append, value_append}

-- the larger base, to the power m, is the smaller one to the power m * k
pub power_of_power : (b m k : ℕ) → (b ^ k) ^ m ≡ b ^ (m * k)
power_of_power b zero k = rw (pow-zero, zero-mul, pow-zero)
power_of_power b (suc m) k = rw (pow-suc, power_of_power b m k, suc-mul, pow-add)

-- what leaves no remainder by k is so many times k: digits that can be regrouped have the length that the laws below ask for, with m = length ds / k
pub whole_pieces : (k n : ℕ) → n % k ≡ 0 → n ≡ n / k * k
whole_pieces k n e = sym (div-mul_cancel k (dvd_of_mod-eq-zero k e))

-- bases of s and of t bits, where s divides t: t / s digits make one
pub base_of_bits : (s t : ℕ) → t % s ≡ 0 → (2 ^ s) ^ (t / s) ≡ 2 ^ t
base_of_bits s t e = power_of_power 2 (t / s) s ∙ ap (λ (n : ℕ). 2 ^ n) (sym (whole_pieces s t e))

pub some_make_one : {s t : ℕ} → 0 < s → s ≤ t → 0 < t / s
some_make_one {s} {t} some l = (le-div_iff_mul-le {k = s} {x = 1} {y = t} some).1 (omega arith)

-- ---- of the digits of a number

pub larger_of_digits : (b m k n : ℕ) → 0 < b → larger b m k (digits b (m * k) n) ≡ digits (b ^ k) m n
unfolding larger first_pieces digits
larger_of_digits b zero k n p = refl
larger_of_digits b (suc m) k n p =
    let s : digits b (suc m * k) n ≡ digits b k n ++ digits b (m * k) (n / b ^ k) = rw (suc-mul, add_comm) (digits_append b k (m * k) n) in
    rw (s, take_at (digits b k n) (digits b (m * k) (n / b ^ k)) k (length_digits b k n), drop_at (digits b k n) (digits b (m * k) (n / b ^ k)) k (length_digits b k n), value_of_lowest b k n p)
    (ap (λ (ds : List ℕ). n % b ^ k ∷ ds) (larger_of_digits b m k (n / b ^ k) p))

-- ---- to the larger base

module _ (b m k : ℕ) (p : 0 < b) (ds : List ℕ) (h : AllBelow b ds) (l : length ds ≡ m * k) where
  pub larger_is : larger b m k ds ≡ digits (b ^ k) m (value b ds)
  larger_is = let e = digits_of_value b ds h in let e' : digits b (m * k) (value b ds) ≡ ds = (rw l at e) in rw (← larger_of_digits b m k (value b ds) p, e')

  pub length_larger : length (larger b m k ds) ≡ m
  length_larger = rw larger_is (length_digits (b ^ k) m (value b ds))

  pub larger_below : AllBelow (b ^ k) (larger b m k ds)
  larger_below = rw larger_is (digits_below (b ^ k) m (value b ds) (one-le-pow k b p))

  pub value_larger : value (b ^ k) (larger b m k ds) ≡ value b ds
  value_larger =
      let v = value_below b ds h in
      let v' : value b ds < b ^ (m * k) = (rw l at v) in
      rw larger_is (value_of_digits (b ^ k) m (value b ds) (one-le-pow k b p) (rw power_of_power v'))

-- ---- to the smaller base

pub length_smaller : (b k : ℕ) (ds : List ℕ) → length (smaller b k ds) ≡ length ds * k
unfolding smaller
length_smaller b k [] = sym (zero-mul k)
length_smaller b k (d ∷ ds) = rw (length-append, length_digits, length_smaller b k ds, suc-mul) (add_comm k (length ds * k))

pub smaller_below : (b k : ℕ) (ds : List ℕ) → 0 < b → AllBelow b (smaller b k ds)
unfolding smaller AllBelow
smaller_below b k [] p = tt
smaller_below b k (d ∷ ds) p = below_append b (digits b k d) (smaller b k ds) (digits_below b k d p) (smaller_below b k ds p)

pub value_smaller : (b k : ℕ) (ds : List ℕ) → 0 < b → AllBelow (b ^ k) ds → value b (smaller b k ds) ≡ value (b ^ k) ds
unfolding smaller value AllBelow
value_smaller b k [] p h = refl
value_smaller b k (d ∷ ds) p h = rw (value_append, value_of_digits b k d p h.0, length_digits, value_smaller b k ds p h.1)

-- ---- each is the other's inverse

pub smaller_of_larger : (b m k : ℕ) → 0 < b → (ds : List ℕ) → AllBelow b ds → length ds ≡ m * k → smaller b k (larger b m k ds) ≡ ds
smaller_of_larger b m k p ds h l =
    value_injective b (smaller b k (larger b m k ds)) ds (smaller_below b k (larger b m k ds) p) h
    (length_smaller b k (larger b m k ds) ∙ rw (length_larger b m k p ds h l) (sym l))
    (value_smaller b k (larger b m k ds) p (larger_below b m k p ds h l) ∙ value_larger b m k p ds h l)

pub larger_of_smaller : (b k : ℕ) → 0 < b → (ds : List ℕ) → AllBelow (b ^ k) ds → larger b (length ds) k (smaller b k ds) ≡ ds
larger_of_smaller b k p ds h =
    let l = length_smaller b k ds in
    let s = smaller_below b k ds p in
    value_injective (b ^ k) (larger b (length ds) k (smaller b k ds)) ds (larger_below b (length ds) k p (smaller b k ds) s l) h
    (length_larger b (length ds) k p (smaller b k ds) s l)
    (value_larger b (length ds) k p (smaller b k ds) s l ∙ value_smaller b k ds p h)

pub larger_injective : (b m n k : ℕ) → 0 < b → (ds es : List ℕ) → AllBelow b ds → AllBelow b es
    → length ds ≡ m * k → length es ≡ n * k → larger b m k ds ≡ larger b n k es → ds ≡ es
larger_injective b m n k p ds es h g l l' e =
    sym (smaller_of_larger b m k p ds h l) ∙ rw e (smaller_of_larger b n k p es g l')

pub smaller_injective : (b k : ℕ) → 0 < b → 0 < k → (ds es : List ℕ) → AllBelow (b ^ k) ds → AllBelow (b ^ k) es → smaller b k ds ≡ smaller b k es → ds ≡ es
smaller_injective b k p some ds es h g e =
    let l : length ds ≡ length es = eq_of_mul-eq-mul_right k some (length ds) (length es) (sym (length_smaller b k ds) ∙ ap length e ∙ length_smaller b k es) in
    sym (larger_of_smaller b k p ds h) ∙ rw (l, e) (larger_of_smaller b k p es g)

-- digits that make a single one
pub larger_one : (b : ℕ) (ds : List ℕ) → larger b 1 (length ds) ds ≡ value b ds ∷ []
unfolding larger first_pieces
larger_one b ds = rw take-length

-- ---- highest first

module _ (b m k : ℕ) (p : 0 < b) (ds : List ℕ) (h : AllBelow b ds) (l : length ds ≡ m * k) where
  turned : AllBelow b (reverse ds)
  turned = below_reverse b ds h

  pub length_larger_high : length (larger_high b m k ds) ≡ m
  length_larger_high = length-reverse (larger b m k (reverse ds)) ∙ length_larger b m k p (reverse ds) turned (length-reverse ds ∙ l)

  pub larger_high_below : AllBelow (b ^ k) (larger_high b m k ds)
  larger_high_below = below_reverse (b ^ k) (larger b m k (reverse ds)) (larger_below b m k p (reverse ds) turned (length-reverse ds ∙ l))

  pub value_high_larger_high : value_high (b ^ k) (larger_high b m k ds) ≡ value_high b ds
  value_high_larger_high = rw (reverse-reverse (larger b m k (reverse ds))) (value_larger b m k p (reverse ds) turned (length-reverse ds ∙ l))

  pub smaller_high_of_larger_high : smaller_high b k (larger_high b m k ds) ≡ ds
  smaller_high_of_larger_high =
      rw (reverse-reverse (larger b m k (reverse ds)), smaller_of_larger b m k p (reverse ds) turned (length-reverse ds ∙ l)) (reverse-reverse ds)

pub length_smaller_high : (b k : ℕ) (ds : List ℕ) → length (smaller_high b k ds) ≡ length ds * k
length_smaller_high b k ds = length-reverse (smaller b k (reverse ds)) ∙ length_smaller b k (reverse ds) ∙ rw length-reverse

pub value_high_smaller_high : (b k : ℕ) (ds : List ℕ) → 0 < b → AllBelow (b ^ k) ds → value_high b (smaller_high b k ds) ≡ value_high (b ^ k) ds
value_high_smaller_high b k ds p h = rw (reverse-reverse (smaller b k (reverse ds))) (value_smaller b k (reverse ds) p (below_reverse (b ^ k) ds h))

pub larger_high_of_smaller_high : (b k : ℕ) → 0 < b → (ds : List ℕ) → AllBelow (b ^ k) ds → larger_high b (length ds) k (smaller_high b k ds) ≡ ds
larger_high_of_smaller_high b k p ds h =
    let e = larger_of_smaller b k p (reverse ds) (below_reverse (b ^ k) ds h) in
    let e' : larger b (length ds) k (smaller b k (reverse ds)) ≡ reverse ds = (rw length-reverse at e) in
    rw (reverse-reverse (smaller b k (reverse ds)), e') (reverse-reverse ds)
