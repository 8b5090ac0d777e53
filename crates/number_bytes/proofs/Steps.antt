-- One byte more, read or put.
use mathlib.Core.Path.{◌≡◌, ap, ◌∙◌}
use mathlib.Core.List.{List, ◌++◌, append_assoc}
use Prim.Native.Nat.{ℕ, suc, ◌+◌, ◌-◌, ◌*◌, ◌/◌, ◌%◌, ◌^◌, ◌≤◌, ◌<◌}
use native.Mathlib.Nat.{mul_comm, pow-suc, div-div-eq-div-mul, mod-eq_of_lt}
use native.Mathlib.Numerals.{add-one}
use native.Mathlib.Omega.{arith}
use lib.ListN.{length, get_or, set, take, drop, length-drop}
use lib.Pow.{pow_mono, shl_exact}
use lib.Seq.{take-suc, drop-cons, length-take-le}
use Rattle.std.proofs.lemmas.List.{set_at}
use borrow.Rule.Slice.PartMut.{put_mid}
use mathlib.Core.Bool.{true}
use Rattle.theory_lists.specs.Bounds.{AllBelow}
use Rattle.theory_lists.specs.Written.{written, Writes}
use Rattle.theory_lists.proofs.Below.{all_below, below_take}
use Rattle.theory_digits.specs.Digits.{digits, value, digits_high, value_high}
use Rattle.theory_digits.proofs.Digits.{length_digits, digits_below, value_below, digits_of_value, digits_append}
use Rattle.theory_digits.proofs.High.{value_high_push_lowest, value_high_below, value_high_append, digits_high_below, digits_high_push_highest, length_digits_high}
use Rattle.theory_digits.proofs.Parts.{value_push_highest, digits_push_highest}
use Rattle.theory_digits.proofs.Bases.{power_of_power, base_of_bits}

in_64_bits : (k : ℕ) → k ≤ 8 → 256 ^ k ≤ 2 ^ 64
in_64_bits k h = rw (power_of_power 2 k 8) (pow_mono {i = k * 8} {j = 64} (omega arith))

-- ---- read, lowest first

module _ (s : List ℕ) (i : ℕ) (h : i < length s) (few : length s ≤ 8) (bytes : (k : ℕ) → get_or s k 0 < 256) where
  below : AllBelow 256 s
  below = all_below 256 s (λ k _. bytes k)

  pub one_more : value 256 (take i s) + get_or s i 0 * 2 ^ (8 * i) % 2 ^ 64 ≡ value 256 (take (i + 1) s)
  one_more =
      let exact : get_or s i 0 * 2 ^ (8 * i) % 2 ^ 64 ≡ get_or s i 0 * 2 ^ (8 * i) = shl_exact 8 (8 * i) 64 (bytes i) (omega arith) in
      let pushed = value_push_highest 256 (get_or s i 0) (take i s) in
      let held : length (take i s) ≡ i = length-take-le i s (omega arith) in
      let scale : 256 ^ i ≡ 2 ^ (8 * i) = power_of_power 2 i 8 ∙ ap (λ (n : ℕ). 2 ^ n) (mul_comm i 8) in
      rw (exact, add-one, take-suc s i 0, pushed, held, scale) (omega (arith, mul_comm (get_or s i 0) (2 ^ (8 * i))))

  pub one_more_fits : value 256 (take (i + 1) s) < 2 ^ 64
  one_more_fits =
      let held : length (take (i + 1) s) ≡ i + 1 = length-take-le (i + 1) s (omega arith) in
      let v = value_below 256 (take (i + 1) s) (below_take 256 (i + 1) s below) in
      let fits : 256 ^ (i + 1) ≤ 2 ^ 64 = in_64_bits (i + 1) (omega arith) in
      let v' : value 256 (take (i + 1) s) < 256 ^ (i + 1) = (rw held at v) in
      omega arith

-- ---- turned

pub divided_on : (k n : ℕ) → n / 256 ^ k / 256 ≡ n / 256 ^ (k + 1)
divided_on k n = div-div-eq-div-mul n (256 ^ k) 256 ∙ rw (add-one, pow-suc)

pub turned_on : (k n : ℕ) → value_high 256 (digits 256 k n) * 256 + n / 256 ^ k % 256 ≡ value_high 256 (digits 256 (k + 1) n)
turned_on k n =
    rw (add-one, digits_push_highest, value_high_push_lowest) (omega (arith, mul_comm 256 (value_high 256 (digits 256 k n))))

pub turned_fits : (k n : ℕ) → k ≤ 8 → value_high 256 (digits 256 k n) < 2 ^ 64
turned_fits k n h =
    let v = value_high_below 256 (digits 256 k n) (digits_below 256 k n (omega arith)) in
    let v' : value_high 256 (digits 256 k n) < 256 ^ k = (rw (length_digits 256 k n) at v) in
    let fits : 256 ^ k ≤ 2 ^ 64 = in_64_bits k h in
    omega arith

-- the j lowest before the k next
pub turned_parts : (j k n : ℕ) → value_high 256 (digits 256 j n) * 256 ^ k + value_high 256 (digits 256 k (n / 256 ^ j)) ≡ value_high 256 (digits 256 (j + k) n)
turned_parts j k n = rw (digits_append 256 j k n, value_high_append 256 (digits 256 j n) (digits 256 k (n / 256 ^ j)), length_digits 256 k (n / 256 ^ j))

pub turned_below : (k n : ℕ) → value_high 256 (digits 256 k n) < 256 ^ k
turned_below k n =
    let v = value_high_below 256 (digits 256 k n) (digits_below 256 k n (omega arith)) in
    (rw (length_digits 256 k n) at v)

pub one_turned : (n : ℕ) → value_high 256 (digits 256 1 n) ≡ n % 256
unfolding digits value
one_turned n = omega arith

-- ---- put, lowest first

pub put_on : (room : List ℕ) (k n : ℕ) → k < length room
    → set (digits 256 k n ++ drop k room) k (n / 256 ^ k % 256) ≡ digits 256 (k + 1) n ++ drop (k + 1) room
put_on room k n h =
    rw (drop-cons room k 0 h, set_at (digits 256 k n) (get_or room k 0) _ (n / 256 ^ k % 256) k (length_digits 256 k n), add-one, digits_push_highest, append_assoc)

-- ---- put, highest first: from the last place to the first

pub put_before : (room : List ℕ) (n i x : ℕ) → n ≡ length room → i < n
    → set (take (n - i) room ++ digits_high 256 i x) (n - 1 - i) (x / 256 ^ i % 256) ≡ take (n - (i + 1)) room ++ digits_high 256 (i + 1) x
put_before room n i x l h =
    let m = n - 1 - i in
    let one : n - i ≡ suc m = omega arith in
    let left : n - (i + 1) ≡ m = omega arith in
    let held : length (take m room) ≡ m = length-take-le m room (omega arith) in
    rw (one, left, take-suc room m 0 (omega arith), append_assoc, set_at (take m room) (get_or room m 0) (digits_high 256 i x) (x / 256 ^ i % 256) m held, add-one, digits_high_push_highest)

-- ---- all the bytes of a number fit into it

module _ (bits : ℕ) (whole : bits % 8 ≡ 0) where
  pub all_read : (s : List ℕ) → length s ≡ bits / 8 → ((k : ℕ) → get_or s k 0 < 256) → value 256 s % 2 ^ bits ≡ value 256 s
  all_read s l bytes = let v = value_below 256 s (all_below 256 s (λ k _. bytes k)) in mod-eq_of_lt (rw (l, base_of_bits 8 bits whole) at v)

  pub all_turned : (n : ℕ) → value_high 256 (digits 256 (bits / 8) n) % 2 ^ bits ≡ value_high 256 (digits 256 (bits / 8) n)
  all_turned n =
      let v = value_high_below 256 (digits 256 (bits / 8) n) (digits_below 256 (bits / 8) n (omega arith)) in
      mod-eq_of_lt (rw (length_digits 256 (bits / 8) n, base_of_bits 8 bits whole) at v)

pub turned_put : (count n : ℕ) → digits 256 count (value_high 256 (digits 256 count n)) ≡ digits_high 256 count n
turned_put count n =
    let e = digits_of_value 256 (digits_high 256 count n) (digits_high_below 256 count n (omega arith)) in
    rw length_digits_high at e

-- ---- put into a part

module _ (s : List ℕ) (at count : ℕ) (h : at + count ≤ length s) where
  count_is : at + count - at ≡ count
  count_is = omega arith

  pub room_for : length (take (at + count - at) (drop at s)) ≡ count
  room_for = rw count_is (length-take-le count (drop at s) (omega (arith, length-drop at s)))

  pub put_written : (new put : List ℕ) → length new ≡ count → put ≡ new → Writes true s at new (put_mid at (at + count - at) s put)
  unfolding written
  put_written new put l e = record { asked = omega arith; given = rw (e, count_is, l) }
