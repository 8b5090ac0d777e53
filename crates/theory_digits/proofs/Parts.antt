-- Parts of a number's digits, lowest first: the lowest and the highest, those below a place and those from it on.
use mathlib.Core.Path.{◌≡◌, sym, ap, ◌∙◌}
use mathlib.Core.List.{List, [], ◌∷◌, ◌++◌}
use Prim.Native.Nat.{ℕ, zero, suc, ◌+◌, ◌*◌, ◌/◌, ◌%◌, ◌^◌, ◌<◌}
use native.Mathlib.Nat.{zero-add, add-zero, mul-zero, mul_comm, zero-mod, zero-div, mod-one, div-one, pow-zero, pow-suc, one-le-pow, add-mul-div_left}
use native.Mathlib.Nat.{div-eq_of_lt}
use native.Mathlib.Numerals.{add-one}
use native.Mathlib.Omega.{arith}
use lib.Arith.{mod-mul}
use lib.ListN.{length, get_or, take, drop}
use lib.Seq.{take_at, drop_at}
use Rattle.theory_lists.specs.Bounds.{AllBelow}
use Rattle.theory_digits.specs.Digits.{digits, value}
use Rattle.theory_digits.proofs.Digits.{length_digits, value_below, lowest_of, others_of, value_append, digits_append, divided_twice}

-- ---- of digits that are given

pub value_take : (b k : ℕ) (ds : List ℕ) → AllBelow b ds → value b (take k ds) ≡ value b ds % b ^ k
unfolding value AllBelow
value_take b zero ds h = rw (pow-zero, mod-one)
value_take b (suc k) [] h = sym (zero-mod (b ^ suc k))
value_take b (suc k) (d ∷ ds) h =
    let p : 0 < b = omega (arith, h.0) in
    rw (value_take b k ds h.1, pow-suc, mod-mul (d + b * value b ds) (one-le-pow k b p) p, lowest_of (value b ds) h.0, others_of (value b ds) h.0)
    (omega (arith, mul_comm b (value b ds % b ^ k)))

pub value_drop : (b k : ℕ) (ds : List ℕ) → AllBelow b ds → value b (drop k ds) ≡ value b ds / b ^ k
unfolding value AllBelow
value_drop b zero ds h = rw (pow-zero, div-one)
value_drop b (suc k) [] h = sym (zero-div (b ^ suc k))
value_drop b (suc k) (d ∷ ds) h = rw (← divided_twice b k (d + b * value b ds), others_of (value b ds) h.0) (value_drop b k ds h.1)

pub digit_of_value : (b i : ℕ) (ds : List ℕ) → AllBelow b ds → get_or ds i 0 ≡ value b ds / b ^ i % b
unfolding value AllBelow
digit_of_value b i [] h = rw (zero-div, zero-mod)
digit_of_value b zero (d ∷ ds) h = rw (pow-zero, div-one) (sym (lowest_of (value b ds) h.0))
digit_of_value b (suc i) (d ∷ ds) h = rw (← divided_twice b i (d + b * value b ds), others_of (value b ds) h.0) (digit_of_value b i ds h.1)

pub lowest_digit : (b : ℕ) (ds : List ℕ) → AllBelow b ds → get_or ds 0 0 ≡ value b ds % b
lowest_digit b ds h = digit_of_value b 0 ds h ∙ rw (pow-zero, div-one)

pub value_push_highest : (b d : ℕ) (ds : List ℕ) → value b (ds ++ (d ∷ [])) ≡ value b ds + b ^ length ds * d
unfolding value
value_push_highest b d ds = rw (value_append, mul-zero, add-zero)

pub highest_digit : (b d : ℕ) (ds : List ℕ) → AllBelow b ds → value b (ds ++ (d ∷ [])) / b ^ length ds ≡ d
highest_digit b d ds h =
    let l = value_below b ds h in
    let p : 0 < b ^ length ds = omega arith in
    rw (value_push_highest, add-mul-div_left (value b ds) d p, div-eq_of_lt l) (zero-add d)

-- ---- of the digits of a number

pub digits_take : (b j k n : ℕ) → take j (digits b (j + k) n) ≡ digits b j n
digits_take b j k n = rw digits_append (take_at (digits b j n) (digits b k (n / b ^ j)) j (length_digits b j n))

pub digits_drop : (b j k n : ℕ) → drop j (digits b (j + k) n) ≡ digits b k (n / b ^ j)
digits_drop b j k n = rw digits_append (drop_at (digits b j n) (digits b k (n / b ^ j)) j (length_digits b j n))

pub digits_push_highest : (b k n : ℕ) → digits b (suc k) n ≡ digits b k n ++ (n / b ^ k % b ∷ [])
unfolding digits
digits_push_highest b k n = ap (λ (count : ℕ). digits b count n) (sym (add-one k)) ∙ digits_append b k 1 n
