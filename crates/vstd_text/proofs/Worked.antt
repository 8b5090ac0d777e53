-- vstd's text at worked values, computed by its masks and shifts: the ends of each width, the surrogates, and white space with its neighbours.
use mathlib.Core.Path.{◌≡◌, refl}
use mathlib.Core.Bool.{true, false}
use mathlib.Core.List.{[], ◌∷◌}
use Rattle.theory_lists.specs.Bounds.{between}
use Rattle.vstd_text.specs.Decoding.{is_leading_byte_width_1, is_leading_byte_width_2, is_leading_byte_width_3, is_continuation_byte}
use Rattle.vstd_text.specs.Decoding.{continuation_bits, leading_bits_width_1, leading_bits_width_2, leading_bits_width_3, leading_bits_width_4}
use Rattle.vstd_text.specs.Decoding.{codepoint_width_1, codepoint_width_2, codepoint_width_3, codepoint_width_4, decode_first_codepoint}
use Rattle.vstd_text.specs.Decoding.{length_of_first_codepoint}
use Rattle.vstd_text.specs.Decoding.{length_of_last_scalar, decode_last_scalar}
use Rattle.vstd_text.specs.Encoding.{has_width_1_encoding, has_width_2_encoding, has_width_3_encoding, has_width_4_encoding, is_scalar, encode_scalar}
use Rattle.vstd_text.specs.Encoding.{leading_byte_width_1, leading_byte_width_2, leading_byte_width_3, leading_byte_width_4}
use Rattle.vstd_text.specs.Encoding.{last_continuation_byte, second_last_continuation_byte, third_last_continuation_byte}
use Rattle.vstd_text.specs.Characters.{is_white_space}

pub scalars_worked :
    (is_scalar 0xd7ff ≡ true) × (is_scalar 0xd800 ≡ false) × (is_scalar 0xdfff ≡ false) × (is_scalar 0xe000 ≡ true)
    × (is_scalar 0x10ffff ≡ true) × (is_scalar 0x110000 ≡ false)
unfolding is_scalar has_width_1_encoding has_width_2_encoding has_width_3_encoding has_width_4_encoding between
scalars_worked = (refl, refl, refl, refl, refl, refl)

pub encoded_worked :
    (encode_scalar 0x7f ≡ 0x7f ∷ [])
    × (encode_scalar 0x80 ≡ 0xc2 ∷ 0x80 ∷ [])
    × (encode_scalar 0x7ff ≡ 0xdf ∷ 0xbf ∷ [])
    × (encode_scalar 0x800 ≡ 0xe0 ∷ 0xa0 ∷ 0x80 ∷ [])
    × (encode_scalar 0xd7ff ≡ 0xed ∷ 0x9f ∷ 0xbf ∷ [])
    × (encode_scalar 0xe000 ≡ 0xee ∷ 0x80 ∷ 0x80 ∷ [])
    × (encode_scalar 0xffff ≡ 0xef ∷ 0xbf ∷ 0xbf ∷ [])
    × (encode_scalar 0x10000 ≡ 0xf0 ∷ 0x90 ∷ 0x80 ∷ 0x80 ∷ [])
    × (encode_scalar 0x10ffff ≡ 0xf4 ∷ 0x8f ∷ 0xbf ∷ 0xbf ∷ [])
unfolding encode_scalar has_width_1_encoding has_width_2_encoding has_width_3_encoding between leading_byte_width_1 leading_byte_width_2 leading_byte_width_3
    leading_byte_width_4 last_continuation_byte second_last_continuation_byte third_last_continuation_byte
encoded_worked = (refl, refl, refl, refl, refl, refl, refl, refl, refl)

pub first_decoded_worked :
    (decode_first_codepoint (0x7f ∷ []) ≡ 0x7f)
    × (decode_first_codepoint (0xc2 ∷ 0x80 ∷ []) ≡ 0x80)
    × (decode_first_codepoint (0xed ∷ 0x9f ∷ 0xbf ∷ []) ≡ 0xd7ff)
    × (decode_first_codepoint (0xf4 ∷ 0x8f ∷ 0xbf ∷ 0xbf ∷ []) ≡ 0x10ffff)
    × (length_of_first_codepoint (0xdf ∷ 0xbf ∷ []) ≡ 2)
    × (length_of_first_codepoint (0xe0 ∷ 0xa0 ∷ 0x80 ∷ []) ≡ 3)
    × (length_of_first_codepoint (0xf0 ∷ 0x90 ∷ 0x80 ∷ 0x80 ∷ []) ≡ 4)
unfolding decode_first_codepoint length_of_first_codepoint is_leading_byte_width_1 is_leading_byte_width_2 is_leading_byte_width_3 between continuation_bits
    leading_bits_width_1 leading_bits_width_2 leading_bits_width_3 leading_bits_width_4 codepoint_width_1 codepoint_width_2 codepoint_width_3 codepoint_width_4
first_decoded_worked = (refl, refl, refl, refl, refl, refl, refl)

pub last_decoded_worked :
    (decode_last_scalar (0x41 ∷ 0x7f ∷ []) ≡ 0x7f)
    × (decode_last_scalar (0x41 ∷ 0xc2 ∷ 0x80 ∷ []) ≡ 0x80)
    × (length_of_last_scalar (0x41 ∷ 0xe0 ∷ 0xa0 ∷ 0x80 ∷ []) ≡ 3)
    × (length_of_last_scalar (0xf0 ∷ 0x90 ∷ 0x80 ∷ 0x80 ∷ []) ≡ 4)
unfolding decode_last_scalar length_of_last_scalar is_continuation_byte between continuation_bits leading_bits_width_1 leading_bits_width_2 codepoint_width_1 codepoint_width_2
last_decoded_worked = (refl, refl, refl, refl)

pub white_space_worked :
    (is_white_space 0x8 ≡ false) × (is_white_space 0x9 ≡ true) × (is_white_space 0x85 ≡ true) × (is_white_space 0x200a ≡ true)
    × (is_white_space 0x200b ≡ false) × (is_white_space 0x3000 ≡ true)
unfolding is_white_space
white_space_worked = (refl, refl, refl, refl, refl, refl)
