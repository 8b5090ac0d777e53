-- vstd's decoding of UTF-8 (utf8.rs, "Decoding UTF-8 to chars"), in the order of its file and each item under its name. A sequence of bytes or of characters is
-- a list of numbers; `x & y` is `bit_and x y`, `x | y` is `bit_or x y`, `x << k` of a u32 is `x * 2 ^ k % 2 ^ 32`, and a cast to a wider type changes nothing.
use Rattle.std.specs.Prelude.{ℕ, zero, suc, ◌-◌, ◌*◌, ◌%◌, ◌^◌, ◌≤◌, ◌≡◌, ◌⊎◌, Bool, true, cond, not, List, [], ◌∷◌, length, get_or, take, drop}
use Rattle.std.specs.Int.Bits.{bit_and, bit_or}
use Rattle.theory_lists.specs.Bounds.{between}

-- ---- the classes of bytes

unfoldable pub is_leading_byte_width_1 : ℕ → Bool
is_leading_byte_width_1 byte = between 0x00 0x7f byte

unfoldable pub is_leading_byte_width_2 : ℕ → Bool
is_leading_byte_width_2 byte = between 0xc0 0xdf byte

unfoldable pub is_leading_byte_width_3 : ℕ → Bool
is_leading_byte_width_3 byte = between 0xe0 0xef byte

unfoldable pub is_leading_byte_width_4 : ℕ → Bool
is_leading_byte_width_4 byte = between 0xf0 0xf7 byte

unfoldable pub is_continuation_byte : ℕ → Bool
is_continuation_byte byte = between 0x80 0xbf byte

-- ---- their bits

unfoldable pub continuation_bits : ℕ → ℕ
continuation_bits byte = bit_and byte 0x3f

unfoldable pub leading_bits_width_1 : ℕ → ℕ
leading_bits_width_1 byte = bit_and byte 0x7f

unfoldable pub leading_bits_width_2 : ℕ → ℕ
leading_bits_width_2 byte = bit_and byte 0x1f

unfoldable pub leading_bits_width_3 : ℕ → ℕ
leading_bits_width_3 byte = bit_and byte 0x0f

unfoldable pub leading_bits_width_4 : ℕ → ℕ
leading_bits_width_4 byte = bit_and byte 0x07

-- x << k
abbrev pub shifted : ℕ → ℕ → ℕ
shifted x k = x * 2 ^ k % 2 ^ 32

unfoldable pub codepoint_width_1 : ℕ → ℕ
codepoint_width_1 byte1 = leading_bits_width_1 byte1

unfoldable pub codepoint_width_2 : ℕ → ℕ → ℕ
codepoint_width_2 byte1 byte2 = bit_or (shifted (leading_bits_width_2 byte1) 6) (continuation_bits byte2)

unfoldable pub codepoint_width_3 : ℕ → ℕ → ℕ → ℕ
codepoint_width_3 byte1 byte2 byte3 =
    bit_or (bit_or (shifted (leading_bits_width_3 byte1) 12) (shifted (continuation_bits byte2) 6)) (continuation_bits byte3)

unfoldable pub codepoint_width_4 : ℕ → ℕ → ℕ → ℕ → ℕ
codepoint_width_4 byte1 byte2 byte3 byte4 =
    bit_or
    (bit_or (bit_or (shifted (leading_bits_width_4 byte1) 18) (shifted (continuation_bits byte2) 12)) (shifted (continuation_bits byte3) 6))
    (continuation_bits byte4)

-- ---- the first codepoint, and the first scalar

-- bytes[i]; 0 past the end, where vstd says nothing
abbrev pub at : List ℕ → ℕ → ℕ
at bytes i = get_or bytes i 0

abbrev pub Leads : (ℕ → Bool) → ℕ → Type 0
Leads test byte = test byte ≡ true

abbrev pub Continues : ℕ → Type 0
Continues byte = is_continuation_byte byte ≡ true

abbrev pub ValidLeadingAndContinuationBytesFirstCodepoint : List ℕ → Type 0
ValidLeadingAndContinuationBytesFirstCodepoint bytes =
    ((1 ≤ length bytes) × Leads is_leading_byte_width_1 (at bytes 0))
    ⊎ (((2 ≤ length bytes) × (Leads is_leading_byte_width_2 (at bytes 0) × Continues (at bytes 1)))
    ⊎ (((3 ≤ length bytes) × (Leads is_leading_byte_width_3 (at bytes 0) × (Continues (at bytes 1) × Continues (at bytes 2))))
    ⊎ ((4 ≤ length bytes) × (Leads is_leading_byte_width_4 (at bytes 0) × (Continues (at bytes 1) × (Continues (at bytes 2) × Continues (at bytes 3)))))))

unfoldable pub decode_first_codepoint : List ℕ → ℕ
decode_first_codepoint bytes =
    cond (is_leading_byte_width_1 (at bytes 0)) (codepoint_width_1 (at bytes 0))
    (cond (is_leading_byte_width_2 (at bytes 0)) (codepoint_width_2 (at bytes 0) (at bytes 1))
    (cond (is_leading_byte_width_3 (at bytes 0)) (codepoint_width_3 (at bytes 0) (at bytes 1) (at bytes 2))
    (codepoint_width_4 (at bytes 0) (at bytes 1) (at bytes 2) (at bytes 3))))

unfoldable pub length_of_first_codepoint : List ℕ → ℕ
length_of_first_codepoint bytes =
    cond (is_leading_byte_width_1 (at bytes 0)) 1 (cond (is_leading_byte_width_2 (at bytes 0)) 2 (cond (is_leading_byte_width_3 (at bytes 0)) 3 4))

pub record NotOverlongEncoding (codepoint len : ℕ) : Type 0 where
  pub two : len ≡ 2 → 0x80 ≤ codepoint
  pub three : len ≡ 3 → 0x800 ≤ codepoint
  pub four : len ≡ 4 → (0x10000 ≤ codepoint) × (codepoint ≤ 0x10ffff)

abbrev pub NotSurrogate : ℕ → Type 0
NotSurrogate codepoint = (0xd800 ≤ codepoint) × (codepoint ≤ 0xdfff) → ⊥

pub record ValidFirstScalar (bytes : List ℕ) : Type 0 where
  pub shaped : ValidLeadingAndContinuationBytesFirstCodepoint bytes
  pub shortest : NotOverlongEncoding (decode_first_codepoint bytes) (length_of_first_codepoint bytes)
  pub scalar : NotSurrogate (decode_first_codepoint bytes)

abbrev pub decode_first_scalar : List ℕ → ℕ
decode_first_scalar bytes = decode_first_codepoint bytes

abbrev pub length_of_first_scalar : List ℕ → ℕ
length_of_first_scalar bytes = length_of_first_codepoint bytes

abbrev pub pop_first_scalar : List ℕ → List ℕ
pop_first_scalar bytes = drop (length_of_first_scalar bytes) bytes

abbrev pub take_first_scalar : List ℕ → List ℕ
take_first_scalar bytes = take (length_of_first_scalar bytes) bytes

-- ---- whole texts: vstd's recursion on the length, by a bound on the steps that the length always meets (proofs/Whole.antt has vstd's own equations)

abbrev pub ValidIn : ℕ → List ℕ → Type 0
ValidIn zero [] = Unit {0}
ValidIn zero (b ∷ bytes) = ⊥
ValidIn (suc n) [] = Unit {0}
ValidIn (suc n) (b ∷ bytes) = ValidFirstScalar (b ∷ bytes) × ValidIn n (pop_first_scalar (b ∷ bytes))

abbrev pub ValidUtf8 : List ℕ → Type 0
ValidUtf8 bytes = ValidIn (length bytes) bytes

unfoldable pub decode_in : ℕ → List ℕ → List ℕ
decode_in zero bytes = []
decode_in (suc n) [] = []
decode_in (suc n) (b ∷ bytes) = decode_first_scalar (b ∷ bytes) ∷ decode_in n (pop_first_scalar (b ∷ bytes))

abbrev pub decode_utf8 : List ℕ → List ℕ
decode_utf8 bytes = decode_in (length bytes) bytes

-- ---- the last scalar

unfoldable pub length_of_last_scalar : List ℕ → ℕ
length_of_last_scalar bytes =
    cond (not (is_continuation_byte (at bytes (length bytes - 1)))) 1
    (cond (not (is_continuation_byte (at bytes (length bytes - 2)))) 2 (cond (not (is_continuation_byte (at bytes (length bytes - 3)))) 3 4))

abbrev pub take_last_scalar : List ℕ → List ℕ
take_last_scalar bytes = drop (length bytes - length_of_last_scalar bytes) bytes

unfoldable pub decode_last_scalar : List ℕ → ℕ
decode_last_scalar bytes =
    cond (not (is_continuation_byte (at bytes (length bytes - 1)))) (codepoint_width_1 (at bytes (length bytes - 1)))
    (cond (not (is_continuation_byte (at bytes (length bytes - 2)))) (codepoint_width_2 (at bytes (length bytes - 2)) (at bytes (length bytes - 1)))
    (cond (not (is_continuation_byte (at bytes (length bytes - 3))))
    (codepoint_width_3 (at bytes (length bytes - 3)) (at bytes (length bytes - 2)) (at bytes (length bytes - 1)))
    (codepoint_width_4 (at bytes (length bytes - 4)) (at bytes (length bytes - 3)) (at bytes (length bytes - 2)) (at bytes (length bytes - 1)))))
