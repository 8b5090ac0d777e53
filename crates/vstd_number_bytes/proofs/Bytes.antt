-- vstd's bytes of a number are ours: its shifts and masks are the digits in base 256, and the `|` of shifted bytes is their value.
use mathlib.Core.Path.{◌≡◌, refl, sym, ap, ◌∙◌}
use mathlib.Core.List.{List, [], ◌∷◌}
use Prim.Native.Nat.{ℕ, zero, suc, ◌+◌, ◌*◌, ◌/◌, ◌%◌, ◌^◌, ◌≤◌, ◌<◌}
use native.Mathlib.Nat.{add-zero, suc-mul, div-one, mul_comm}
use native.Mathlib.Omega.{arith}
use lib.Bits.{bit_or, and_mask, or_shifted_r}
use lib.Dec.{eqb}
use lib.ListN.{length, get_or, take}
use borrow.Author.Tests.{eqb-true}
use Rattle.theory_answers.specs.Answer.{only_if}
use Rattle.theory_whole.proofs.Cases.{by_test}
use Rattle.theory_lists.specs.Bounds.{AllBelow}
use Rattle.theory_lists.proofs.Below.{all_below, below_take, below_at}
use Rattle.theory_digits.specs.Number.{number}
use lib.Pow.{shl_exact, shr-shr}
use lib.Seq.{take-suc, take_all, length-take-le}
use Rattle.theory_digits.specs.Digits.{digits, value}
use Rattle.theory_digits.proofs.Digits.{length_digits, digits_below, value_below, value_of_digits, digits_of_value}
use Rattle.theory_digits.proofs.Parts.{value_push_highest}
use Rattle.theory_digits.proofs.Bases.{power_of_power}
use Rattle.vstd_number_bytes.specs.Bytes.{masked_bytes, spec_to_le_bytes, joined_bytes, spec_from_le_bytes, from_le_bytes}

-- ---- to bytes

masked : (x i count : ℕ) → masked_bytes x i count ≡ digits 256 count (x / 2 ^ (i * 8))
unfolding masked_bytes digits
masked x i zero = refl
masked x i (suc count) =
    let next : x / 2 ^ (suc i * 8) ≡ x / 2 ^ (i * 8) / 256 = rw suc-mul (sym (shr-shr x (i * 8) 8)) in
    rw (and_mask (x / 2 ^ (i * 8)) 8, masked x (suc i) count, next)

pub to_le_bytes_is : (count x : ℕ) → spec_to_le_bytes count x ≡ digits 256 count x
unfolding spec_to_le_bytes
to_le_bytes_is count x = masked x 0 count ∙ ap (digits 256 count) (div-one x)

-- ---- from bytes

-- where `so_far` is the value of the first i bytes
joined : (w count i : ℕ) (s : List ℕ) → AllBelow 256 s → length s ≡ i + count → (i + count) * 8 ≤ w → joined_bytes w s i count (value 256 (take i s)) ≡ value 256 s
unfolding joined_bytes
joined w zero i s h l f = ap (value 256) (take_all i s (omega arith))
joined w (suc count) i s h l f =
    let byte : get_or s i 0 < 2 ^ 8 = below_at 256 i s h (omega arith) in
    let exact : get_or s i 0 * 2 ^ (i * 8) % 2 ^ w ≡ get_or s i 0 * 2 ^ (i * 8) = shl_exact 8 (i * 8) w byte (omega arith) in
    let more : i < length s = omega arith in
    let held : length (take i s) ≡ i = length-take-le i s (omega arith) in
    let scale : 256 ^ i ≡ 2 ^ (i * 8) = power_of_power 2 i 8 in
    let below = value_below 256 (take i s) (below_take 256 i s h) in
    let small : value 256 (take i s) < 2 ^ (i * 8) = (rw (held, scale) at below) in
    let pushed = value_push_highest 256 (get_or s i 0) (take i s) in
    let pushed' : value 256 (take (suc i) s) ≡ value 256 (take i s) + 2 ^ (i * 8) * get_or s i 0 = rw (take-suc s i 0) (rw (held, scale) at pushed) in
    let grown : bit_or (value 256 (take i s)) (get_or s i 0 * 2 ^ (i * 8)) ≡ value 256 (take (suc i) s) =
    or_shifted_r (get_or s i 0) (i * 8) (value 256 (take i s)) small ∙ omega (arith, pushed', mul_comm (get_or s i 0) (2 ^ (i * 8))) in
    rw (exact, grown) (joined w count (suc i) s h (omega arith) (omega arith))

module _ (w count : ℕ) (fits : suc count * 8 ≤ w) (s : List ℕ) (h : AllBelow 256 s) (l : length s ≡ suc count) where
  pub from_le_bytes_is : spec_from_le_bytes w count s ≡ value 256 s
  unfolding spec_from_le_bytes value
  from_le_bytes_is =
      let one : value 256 (take 1 s) ≡ get_or s 0 0 = first s l in
      ap (joined_bytes w s 1 count) (sym one) ∙ joined w count 1 s h (omega arith) (omega arith)
    where
      first : (s : List ℕ) → length s ≡ suc count → value 256 (take 1 s) ≡ get_or s 0 0
      first [] e = absurd (omega arith)
      first (x ∷ s) e = add-zero x

-- ---- there and back, as vstd states it

pub to_le_bytes_length : (count x : ℕ) → length (spec_to_le_bytes count x) ≡ count
to_le_bytes_length count x = rw to_le_bytes_is (length_digits 256 count x)

pub from_to_le_bytes : (w count x : ℕ) → suc count * 8 ≤ w → x < 2 ^ (suc count * 8) → spec_from_le_bytes w count (spec_to_le_bytes (suc count) x) ≡ x
from_to_le_bytes w count x fits b =
    let scale : 256 ^ suc count ≡ 2 ^ (suc count * 8) = power_of_power 2 (suc count) 8 in
    rw to_le_bytes_is
    (from_le_bytes_is w count fits (digits 256 (suc count) x) (digits_below 256 (suc count) x (omega arith)) (length_digits 256 (suc count) x)
    ∙ value_of_digits 256 (suc count) x (omega arith) (rw scale b))

pub to_from_le_bytes : (w count : ℕ) (s : List ℕ) → suc count * 8 ≤ w → AllBelow 256 s → length s ≡ suc count → spec_to_le_bytes (suc count) (spec_from_le_bytes w count s) ≡ s
to_from_le_bytes w count s fits h l =
    let e = digits_of_value 256 s h in
    rw (from_le_bytes_is w count fits s h l, to_le_bytes_is) (rw l at e)

-- ---- the functions

-- of bytes, which the elements of a slice are by their type
pub from_le_bytes_kept : (w count : ℕ) (s : List ℕ) → suc count * 8 ≤ w → ((i : ℕ) → get_or s i 0 < 256) → number 256 (suc count) s ≡ from_le_bytes w count s
unfolding number from_le_bytes only_if
from_le_bytes_kept w count s fits bytes =
    by_test (eqb (length s) (suc count))
    (λ e. rw (e, from_le_bytes_is w count fits s (all_below 256 s (λ i _. bytes i)) (eqb-true (length s) (suc count) e)))
    (λ e. rw e)
