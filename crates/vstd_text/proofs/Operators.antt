-- vstd's masks, shifts and marks are remainders, quotients and sums.
use mathlib.Core.Path.{◌≡◌, sym, ap, ◌∙◌}
use Prim.Native.Nat.{ℕ, ◌+◌, ◌-◌, ◌*◌, ◌/◌, ◌%◌, ◌^◌, ◌<◌, ◌≤◌}
use native.Mathlib.Nat.{mod-lt, mod-eq_of_lt}
use native.Mathlib.Omega.{arith}
use lib.Bits.{bit_and, bit_or, and_mask, or_shifted}
use lib.Pow.{pow_pos, pow_mono, shl_exact, shr-shr}
use Rattle.vstd_text.specs.Decoding.{continuation_bits, leading_bits_width_1, leading_bits_width_2, leading_bits_width_3, leading_bits_width_4}
use Rattle.vstd_text.specs.Decoding.{codepoint_width_1, codepoint_width_2, codepoint_width_3, codepoint_width_4}
use Rattle.vstd_text.specs.Encoding.{as_u8, leading_byte_width_1, leading_byte_width_2, leading_byte_width_3, leading_byte_width_4}
use Rattle.vstd_text.specs.Encoding.{last_continuation_byte, second_last_continuation_byte, third_last_continuation_byte}

-- ---- the bits of a byte

pub continuation_bits_is : (b : ℕ) → continuation_bits b ≡ b % 64
unfolding continuation_bits
continuation_bits_is b = omega (arith, and_mask b 6)

pub leading_bits_width_1_is : (b : ℕ) → leading_bits_width_1 b ≡ b % 128
unfolding leading_bits_width_1
leading_bits_width_1_is b = omega (arith, and_mask b 7)

pub leading_bits_width_2_is : (b : ℕ) → leading_bits_width_2 b ≡ b % 32
unfolding leading_bits_width_2
leading_bits_width_2_is b = omega (arith, and_mask b 5)

pub leading_bits_width_3_is : (b : ℕ) → leading_bits_width_3 b ≡ b % 16
unfolding leading_bits_width_3
leading_bits_width_3_is b = omega (arith, and_mask b 4)

pub leading_bits_width_4_is : (b : ℕ) → leading_bits_width_4 b ≡ b % 8
unfolding leading_bits_width_4
leading_bits_width_4_is b = omega (arith, and_mask b 3)

-- ---- a codepoint

pub codepoint_width_1_is : (b1 : ℕ) → codepoint_width_1 b1 ≡ b1 % 128
unfolding codepoint_width_1
codepoint_width_1_is b1 = leading_bits_width_1_is b1

pub codepoint_width_2_is : (b1 b2 : ℕ) → codepoint_width_2 b1 b2 ≡ b1 % 32 * 64 + b2 % 64
unfolding codepoint_width_2
codepoint_width_2_is b1 b2 =
    rw (leading_bits_width_2_is b1, continuation_bits_is b2, shl_exact {a = b1 % 32} 5 6 32 (omega arith) (omega arith))
    (or_shifted (b1 % 32) 6 (b2 % 64) (omega arith))

pub codepoint_width_3_is : (b1 b2 b3 : ℕ) → codepoint_width_3 b1 b2 b3 ≡ (b1 % 16 * 64 + b2 % 64) * 64 + b3 % 64
unfolding codepoint_width_3
codepoint_width_3_is b1 b2 b3 =
    let joined : bit_or (b1 % 16 * 2 ^ 12) (b2 % 64 * 2 ^ 6) ≡ (b1 % 16 * 64 + b2 % 64) * 2 ^ 6 =
    or_shifted (b1 % 16) 12 (b2 % 64 * 2 ^ 6) (omega arith) ∙ omega arith in
    rw (
      leading_bits_width_3_is b1,
      continuation_bits_is b2,
      continuation_bits_is b3,
      shl_exact {a = b1 % 16} 4 12 32 (omega arith) (omega arith),
      shl_exact {a = b2 % 64} 6 6 32 (omega arith) (omega arith),
      joined,
    )
    (or_shifted (b1 % 16 * 64 + b2 % 64) 6 (b3 % 64) (omega arith))

pub codepoint_width_4_is : (b1 b2 b3 b4 : ℕ) → codepoint_width_4 b1 b2 b3 b4 ≡ ((b1 % 8 * 64 + b2 % 64) * 64 + b3 % 64) * 64 + b4 % 64
unfolding codepoint_width_4
codepoint_width_4_is b1 b2 b3 b4 =
    let two : bit_or (b1 % 8 * 2 ^ 18) (b2 % 64 * 2 ^ 12) ≡ (b1 % 8 * 64 + b2 % 64) * 2 ^ 12 =
    or_shifted (b1 % 8) 18 (b2 % 64 * 2 ^ 12) (omega arith) ∙ omega arith in
    let three : bit_or ((b1 % 8 * 64 + b2 % 64) * 2 ^ 12) (b3 % 64 * 2 ^ 6) ≡ ((b1 % 8 * 64 + b2 % 64) * 64 + b3 % 64) * 2 ^ 6 =
    or_shifted (b1 % 8 * 64 + b2 % 64) 12 (b3 % 64 * 2 ^ 6) (omega arith) ∙ omega arith in
    rw (
      leading_bits_width_4_is b1,
      continuation_bits_is b2,
      continuation_bits_is b3,
      continuation_bits_is b4,
      shl_exact {a = b1 % 8} 3 18 32 (omega arith) (omega arith),
      shl_exact {a = b2 % 64} 6 12 32 (omega arith) (omega arith),
      shl_exact {a = b3 % 64} 6 6 32 (omega arith) (omega arith),
      two,
      three,
    )
    (or_shifted ((b1 % 8 * 64 + b2 % 64) * 64 + b3 % 64) 6 (b4 % 64) (omega arith))

-- ---- the bytes of a scalar

-- k digits behind a mark that stands above them
marked : (mark k x : ℕ) → k ≤ 8 → bit_or (mark * 2 ^ k) (as_u8 (bit_and x (2 ^ k - 1))) ≡ mark * 2 ^ k + x % 2 ^ k
marked mark k x h =
    let below : x % 2 ^ k < 2 ^ k = mod-lt x (pow_pos k) in
    let byte : x % 2 ^ k % 2 ^ 8 ≡ x % 2 ^ k = mod-eq_of_lt (omega (arith, below, pow_mono {i = k} {j = 8} h)) in
    rw (and_mask x k, byte) (or_shifted mark k (x % 2 ^ k) below)

pub leading_byte_width_1_is : (c : ℕ) → leading_byte_width_1 c ≡ c % 128
unfolding leading_byte_width_1
leading_byte_width_1_is c = rw (and_mask c 7) (omega arith)

pub leading_byte_width_2_is : (c : ℕ) → leading_byte_width_2 c ≡ 0xc0 + c / 64 % 32
unfolding leading_byte_width_2
leading_byte_width_2_is c = marked 6 5 (c / 64) (omega arith)

-- to shift by 12 or 18 is to take off two or three digits in base 64
shifted_by_12 : (c : ℕ) → c / 2 ^ 12 ≡ c / 64 / 64
shifted_by_12 c = sym (shr-shr c 6 6)

shifted_by_18 : (c : ℕ) → c / 2 ^ 18 ≡ c / 64 / 64 / 64
shifted_by_18 c = sym (shr-shr c 12 6) ∙ ap (λ (x : ℕ). x / 64) (shifted_by_12 c)

pub leading_byte_width_3_is : (c : ℕ) → leading_byte_width_3 c ≡ 0xe0 + c / 64 / 64 % 16
unfolding leading_byte_width_3
leading_byte_width_3_is c = marked 14 4 (c / 2 ^ 12) (omega arith) ∙ ap (λ (x : ℕ). 0xe0 + x % 16) (shifted_by_12 c)

pub leading_byte_width_4_is : (c : ℕ) → leading_byte_width_4 c ≡ 0xf0 + c / 64 / 64 / 64 % 8
unfolding leading_byte_width_4
leading_byte_width_4_is c = marked 30 3 (c / 2 ^ 18) (omega arith) ∙ ap (λ (x : ℕ). 0xf0 + x % 8) (shifted_by_18 c)

pub last_continuation_byte_is : (c : ℕ) → last_continuation_byte c ≡ 0x80 + c % 64
unfolding last_continuation_byte
last_continuation_byte_is c = marked 2 6 c (omega arith)

pub second_last_continuation_byte_is : (c : ℕ) → second_last_continuation_byte c ≡ 0x80 + c / 64 % 64
unfolding second_last_continuation_byte
second_last_continuation_byte_is c = marked 2 6 (c / 64) (omega arith)

pub third_last_continuation_byte_is : (c : ℕ) → third_last_continuation_byte c ≡ 0x80 + c / 64 / 64 % 64
unfolding third_last_continuation_byte
third_last_continuation_byte_is c = marked 2 6 (c / 2 ^ 12) (omega arith) ∙ ap (λ (x : ℕ). 0x80 + x % 64) (shifted_by_12 c)
