-- The other order: digits with the highest first. Each law is that of the reversed list.
use mathlib.Core.Path.{◌≡◌, refl, sym, ap, ◌∙◌}
use mathlib.Core.List.{List, [], ◌∷◌, ◌++◌, reverse, reverse-cons, reverse-reverse, reverse-append}
use Prim.Native.Nat.{ℕ, zero, suc, ◌+◌, ◌-◌, ◌*◌, ◌/◌, ◌%◌, ◌^◌, ◌<◌}
use native.Mathlib.Nat.{mul_comm}
use native.Mathlib.Omega.{arith}
use lib.ListN.{length, get_or, length-reverse}
use Rattle.theory_lists.specs.Bounds.{AllBelow}
use Rattle.theory_lists.proofs.Below.{below_reverse}
use Rattle.theory_digits.specs.Digits.{digits, value, digits_high, value_high, placed}
use Rattle.theory_digits.proofs.Digits.{length_digits, digits_below, value_below, value_of_digits, digits_of_value, value_injective, digits_injective}
use Rattle.theory_digits.proofs.Digits.{value_append, digits_append}
use Rattle.theory_digits.proofs.Parts.{value_push_highest, digits_push_highest}

-- ---- length and bounds

pub length_digits_high : (b count n : ℕ) → length (digits_high b count n) ≡ count
length_digits_high b count n = length-reverse (digits b count n) ∙ length_digits b count n

pub digits_high_below : (b count n : ℕ) → 0 < b → AllBelow b (digits_high b count n)
digits_high_below b count n p = below_reverse b (digits b count n) (digits_below b count n p)

pub value_high_below : (b : ℕ) (ds : List ℕ) → AllBelow b ds → value_high b ds < b ^ length ds
value_high_below b ds h = rw length-reverse at (value_below b (reverse ds) (below_reverse b ds h))

-- ---- there and back

pub value_high_of_digits_high : (b count n : ℕ) → 0 < b → n < b ^ count → value_high b (digits_high b count n) ≡ n
value_high_of_digits_high b count n p h = rw reverse-reverse (value_of_digits b count n p h)

pub digits_high_of_value_high : (b : ℕ) (ds : List ℕ) → AllBelow b ds → digits_high b (length ds) (value_high b ds) ≡ ds
digits_high_of_value_high b ds h = rw (← length-reverse ds, digits_of_value b (reverse ds) (below_reverse b ds h)) (reverse-reverse ds)

pub reverse_injective : (ds es : List ℕ) → reverse ds ≡ reverse es → ds ≡ es
reverse_injective ds es e = sym (reverse-reverse ds) ∙ rw e (reverse-reverse es)

pub value_high_injective : (b : ℕ) (ds es : List ℕ) → AllBelow b ds → AllBelow b es → length ds ≡ length es → value_high b ds ≡ value_high b es → ds ≡ es
value_high_injective b ds es h g l e =
    reverse_injective ds es
    (value_injective b (reverse ds) (reverse es) (below_reverse b ds h) (below_reverse b es g) (length-reverse ds ∙ l ∙ sym (length-reverse es)) e)

pub digits_high_injective : (b j k m n : ℕ) → 0 < b → m < b ^ j → n < b ^ k → digits_high b j m ≡ digits_high b k n → m ≡ n
digits_high_injective b j k m n p h g e = digits_injective b j k m n p h g (reverse_injective (digits b j m) (digits b k n) e)

-- ---- one after the other

pub value_high_append : (b : ℕ) (ds es : List ℕ) → value_high b (ds ++ es) ≡ value_high b ds * b ^ length es + value_high b es
value_high_append b ds es =
    rw (reverse-append, value_append, length-reverse) (omega (arith, mul_comm (b ^ length es) (value b (reverse ds))))

pub digits_high_append : (b j k n : ℕ) → digits_high b (j + k) n ≡ digits_high b k (n / b ^ j) ++ digits_high b j n
digits_high_append b j k n = rw digits_append (reverse-append (digits b j n) (digits b k (n / b ^ j)))

pub value_high_push_lowest : (b d : ℕ) (ds : List ℕ) → value_high b (ds ++ (d ∷ [])) ≡ d + b * value_high b ds
unfolding value
value_high_push_lowest b d ds = rw reverse-append

pub value_high_push_highest : (b d : ℕ) (ds : List ℕ) → value_high b (d ∷ ds) ≡ d * b ^ length ds + value_high b ds
value_high_push_highest b d ds =
    rw (reverse-cons, value_push_highest, length-reverse) (omega (arith, mul_comm d (b ^ length ds)))

pub digits_high_push_highest : (b k n : ℕ) → digits_high b (suc k) n ≡ n / b ^ k % b ∷ digits_high b k n
digits_high_push_highest b k n = rw digits_push_highest (reverse-append (digits b k n) (n / b ^ k % b ∷ []))

pub digit_high_at : (b count n i : ℕ) → i < count → get_or (digits_high b count n) i 0 ≡ n / b ^ (count - 1 - i) % b
digit_high_at b zero n i h = absurd (omega arith)
digit_high_at b (suc k) n zero h = let e : suc k - 1 - 0 ≡ k = omega arith in rw (digits_high_push_highest, e)
digit_high_at b (suc k) n (suc i) h =
    let e : suc k - 1 - suc i ≡ k - 1 - i = omega arith in
    rw (digits_high_push_highest, e) (digit_high_at b k n i (omega arith))

-- the sum from the highest digit down is the same
pub value_high_placed : (b : ℕ) (ds : List ℕ) → value_high b ds ≡ placed b ds
unfolding placed value
value_high_placed b [] = refl
value_high_placed b (d ∷ ds) = value_high_push_highest b d ds ∙ rw (value_high_placed b ds)

pub value_placed : (b : ℕ) (ds : List ℕ) → value b ds ≡ placed b (reverse ds)
value_placed b ds = sym (ap (value b) (reverse-reverse ds)) ∙ value_high_placed b (reverse ds)
