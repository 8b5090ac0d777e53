-- vstd's encoding in UTF-8 (utf8.rs, "Encoding chars as UTF-8"), in the order of its file and each item under its name. `x >> k` is `x / 2 ^ k`, and `x as u8`
-- of a u32 is `x % 2 ^ 8`.
use Rattle.std.specs.Prelude.{ℕ, ◌/◌, ◌%◌, ◌^◌, ◌≡◌, Bool, true, cond, not, ◌&&◌, ◌||◌, List, [], ◌∷◌, ◌++◌}
use Rattle.std.specs.Int.Bits.{bit_and, bit_or}
use Rattle.theory_lists.specs.Bounds.{between}

-- ---- scalars by how many bytes they have

unfoldable pub has_width_1_encoding : ℕ → Bool
has_width_1_encoding v = between 0 0x7f v

unfoldable pub has_width_2_encoding : ℕ → Bool
has_width_2_encoding v = between 0x80 0x7ff v

unfoldable pub has_width_3_encoding : ℕ → Bool
has_width_3_encoding v = between 0x800 0xffff v && not (between 0xd800 0xdfff v)

unfoldable pub has_width_4_encoding : ℕ → Bool
has_width_4_encoding v = between 0x10000 0x10ffff v

unfoldable pub is_scalar : ℕ → Bool
is_scalar v = has_width_1_encoding v || (has_width_2_encoding v || (has_width_3_encoding v || has_width_4_encoding v))

-- ---- the bytes of one

-- x as u8
abbrev pub as_u8 : ℕ → ℕ
as_u8 x = x % 2 ^ 8

unfoldable pub leading_byte_width_1 : ℕ → ℕ
leading_byte_width_1 scalar = as_u8 (bit_and scalar 0x7f)

unfoldable pub leading_byte_width_2 : ℕ → ℕ
leading_byte_width_2 scalar = bit_or 0xc0 (as_u8 (bit_and (scalar / 2 ^ 6) 0x1f))

unfoldable pub leading_byte_width_3 : ℕ → ℕ
leading_byte_width_3 scalar = bit_or 0xe0 (as_u8 (bit_and (scalar / 2 ^ 12) 0x0f))

unfoldable pub leading_byte_width_4 : ℕ → ℕ
leading_byte_width_4 scalar = bit_or 0xf0 (as_u8 (bit_and (scalar / 2 ^ 18) 0x7))

unfoldable pub last_continuation_byte : ℕ → ℕ
last_continuation_byte scalar = bit_or 0x80 (as_u8 (bit_and scalar 0x3f))

unfoldable pub second_last_continuation_byte : ℕ → ℕ
second_last_continuation_byte scalar = bit_or 0x80 (as_u8 (bit_and (scalar / 2 ^ 6) 0x3f))

unfoldable pub third_last_continuation_byte : ℕ → ℕ
third_last_continuation_byte scalar = bit_or 0x80 (as_u8 (bit_and (scalar / 2 ^ 12) 0x3f))

unfoldable pub encode_scalar : ℕ → List ℕ
encode_scalar scalar =
    cond (has_width_1_encoding scalar) (leading_byte_width_1 scalar ∷ [])
    (cond (has_width_2_encoding scalar) (leading_byte_width_2 scalar ∷ last_continuation_byte scalar ∷ [])
    (cond (has_width_3_encoding scalar) (leading_byte_width_3 scalar ∷ second_last_continuation_byte scalar ∷ last_continuation_byte scalar ∷ [])
    (leading_byte_width_4 scalar ∷ third_last_continuation_byte scalar ∷ second_last_continuation_byte scalar ∷ last_continuation_byte scalar ∷ [])))

-- ---- the bytes of many

-- a Seq<char>: what Rust's type says of each (`char_is_scalar`)
abbrev pub Chars : List ℕ → Type 0
Chars [] = Unit {0}
Chars (c ∷ chars) = (is_scalar c ≡ true) × Chars chars

unfoldable pub encode_utf8 : List ℕ → List ℕ
encode_utf8 [] = []
encode_utf8 (c ∷ chars) = encode_scalar c ++ encode_utf8 chars
