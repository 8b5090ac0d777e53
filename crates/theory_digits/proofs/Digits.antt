-- Digits and their value, lowest first: length and bounds, each the inverse of the other, and what either end says.
use mathlib.Core.Path.{◌≡◌, refl, sym, ap, ◌∙◌}
use mathlib.Core.List.{List, [], ◌∷◌, ◌++◌}
use Prim.Native.Nat.{ℕ, zero, suc, ◌+◌, ◌*◌, ◌/◌, ◌%◌, ◌^◌, ◌≤◌, ◌<◌}
use native.Mathlib.Nat.{zero-add, suc-add, mul_comm, mul_assoc, mul-add, mul-suc, one-mul, pow-zero, pow-suc, pow-succ', one-le-pow, mod-one, mod-lt, div-one}
use native.Mathlib.Nat.{div-div-eq-div-mul, div-lt_iff_lt-mul, mod-eq_of_lt, div-eq_of_lt, add-mul-div_left, add-mul-mod_self_left, mul-le-mul_left}
use native.Mathlib.Omega.{arith}
use lib.Arith.{mod-mul}
use lib.ListN.{length, get_or}
use Rattle.theory_lists.specs.Bounds.{AllBelow}
use Rattle.theory_digits.specs.Digits.{digits, value}

-- ---- length and bounds

pub length_digits : (b count n : ℕ) → length (digits b count n) ≡ count
unfolding digits
length_digits b zero n = refl
length_digits b (suc count) n = ap suc (length_digits b count (n / b))

pub digits_below : (b count n : ℕ) → 0 < b → AllBelow b (digits b count n)
unfolding digits AllBelow
digits_below b zero n p = tt
digits_below b (suc count) n p = (mod-lt n p, digits_below b count (n / b) p)

pub value_below : (b : ℕ) (ds : List ℕ) → AllBelow b ds → value b ds < b ^ length ds
unfolding value AllBelow
value_below b [] h = rw pow-zero (omega arith)
value_below b (d ∷ ds) h =
    let l : b * suc (value b ds) ≤ b * b ^ length ds = mul-le-mul_left b (value_below b ds h.1) in
    rw pow-succ' (omega (arith, mul-suc b (value b ds), h.0))

-- a number of one digit more loses it by a division
pub quotient_below : (b count : ℕ) {n : ℕ} → 0 < b → n < b ^ suc count → n / b < b ^ count
quotient_below b count p h = (div-lt_iff_lt-mul p).1 (rw pow-suc at h)

-- ---- there and back

pub lowest_of : {b d : ℕ} (v : ℕ) → d < b → (d + b * v) % b ≡ d
lowest_of {b} {d} v h = add-mul-mod_self_left d b v ∙ mod-eq_of_lt h

pub others_of : {b d : ℕ} (v : ℕ) → d < b → (d + b * v) / b ≡ v
others_of {b} {d} v h = add-mul-div_left d v (omega arith) ∙ rw (div-eq_of_lt h) (zero-add v)

pub value_of_lowest : (b count n : ℕ) → 0 < b → value b (digits b count n) ≡ n % b ^ count
unfolding digits value
value_of_lowest b zero n p = rw (pow-zero, mod-one)
value_of_lowest b (suc count) n p =
    rw (value_of_lowest b count (n / b) p, pow-suc, mod-mul n (one-le-pow count b p) p) (omega (arith, mul_comm b (n / b % b ^ count)))

pub value_of_digits : (b count n : ℕ) → 0 < b → n < b ^ count → value b (digits b count n) ≡ n
value_of_digits b count n p h = value_of_lowest b count n p ∙ mod-eq_of_lt h

pub digits_of_value : (b : ℕ) (ds : List ℕ) → AllBelow b ds → digits b (length ds) (value b ds) ≡ ds
unfolding digits value AllBelow
digits_of_value b [] h = refl
digits_of_value b (d ∷ ds) h =
    rw (lowest_of (value b ds) h.0, others_of (value b ds) h.0, digits_of_value b ds h.1)

pub value_injective : (b : ℕ) (ds es : List ℕ) → AllBelow b ds → AllBelow b es → length ds ≡ length es → value b ds ≡ value b es → ds ≡ es
value_injective b ds es h g l e = sym (digits_of_value b ds h) ∙ rw (l, e) (digits_of_value b es g)

pub digits_injective : (b j k m n : ℕ) → 0 < b → m < b ^ j → n < b ^ k → digits b j m ≡ digits b k n → m ≡ n
digits_injective b j k m n p h g e = sym (value_of_digits b j m p h) ∙ ap (value b) e ∙ value_of_digits b k n p g

-- the digits look only at the remainder
pub digits_of_remainder : (b count n : ℕ) → 0 < b → digits b count (n % b ^ count) ≡ digits b count n
digits_of_remainder b count n p =
    let e = digits_of_value b (digits b count n) (digits_below b count n p) in
    let f : digits b count (value b (digits b count n)) ≡ digits b count n = (rw (length_digits b count n) at e) in
    rw (value_of_lowest b count n p) at f

-- ---- one after the other

pub value_append : (b : ℕ) (ds es : List ℕ) → value b (ds ++ es) ≡ value b ds + b ^ length ds * value b es
unfolding value
value_append b [] es = rw (pow-zero, one-mul, zero-add)
value_append b (d ∷ ds) es =
    rw (value_append b ds es, pow-succ') (omega (arith, mul-add b (value b ds) (b ^ length ds * value b es), mul_assoc b (b ^ length ds) (value b es)))

pub divided_twice : (b j n : ℕ) → n / b / b ^ j ≡ n / b ^ suc j
divided_twice b j n = div-div-eq-div-mul n b (b ^ j) ∙ rw pow-succ'

pub digits_append : (b j k n : ℕ) → digits b (j + k) n ≡ digits b j n ++ digits b k (n / b ^ j)
unfolding digits
digits_append b zero k n = rw (zero-add, pow-zero, div-one)
digits_append b (suc j) k n = rw (suc-add, digits_append b j k (n / b), divided_twice b j n)

pub digit_at : (b count n i : ℕ) → i < count → get_or (digits b count n) i 0 ≡ n / b ^ i % b
unfolding digits
digit_at b zero n i h = absurd (omega arith)
digit_at b (suc count) n zero h = rw (pow-zero, div-one)
digit_at b (suc count) n (suc i) h = digit_at b count (n / b) i (omega arith) ∙ rw (divided_twice b i n)
