-- What vstd proves about one form (utf8.rs, `encode_decode_width_1` .. `decode_encode_width_4`): written and read it is the same value, and read and written
-- the same bytes. In the order of its file, and each under its name.
use mathlib.Core.Path.{◌≡◌, refl}
use mathlib.Core.Bool.{true}
use Prim.Native.Nat.{ℕ, ◌+◌, ◌*◌, ◌/◌, ◌%◌}
use native.Mathlib.Omega.{arith}
use Rattle.vstd_text.specs.Decoding.{Leads, Continues, is_leading_byte_width_1, is_leading_byte_width_2, is_leading_byte_width_3, is_leading_byte_width_4}
use Rattle.vstd_text.specs.Decoding.{codepoint_width_1, codepoint_width_2, codepoint_width_3, codepoint_width_4, NotOverlongEncoding, NotSurrogate}
use Rattle.vstd_text.specs.Encoding.{has_width_1_encoding, has_width_2_encoding, has_width_3_encoding, has_width_4_encoding, leading_byte_width_1}
use Rattle.vstd_text.specs.Encoding.{leading_byte_width_2, leading_byte_width_3, leading_byte_width_4, last_continuation_byte}
use Rattle.vstd_text.specs.Encoding.{second_last_continuation_byte, third_last_continuation_byte}
use Rattle.vstd_text.proofs.Operators.{codepoint_width_1_is, codepoint_width_2_is, codepoint_width_3_is, codepoint_width_4_is, leading_byte_width_1_is}
use Rattle.vstd_text.proofs.Operators.{leading_byte_width_2_is, leading_byte_width_3_is, leading_byte_width_4_is, last_continuation_byte_is}
use Rattle.vstd_text.proofs.Operators.{second_last_continuation_byte_is, third_last_continuation_byte_is}
use Rattle.vstd_text.proofs.Ranges.{lead_one, one_lead, lead_two, two_lead, lead_three, three_lead, lead_four, four_lead, continues, a_continuation}
use Rattle.vstd_text.proofs.Ranges.{width_one, one_width, width_two, two_width, width_three, three_bounds, width_four, four_width}

-- ---- a continuation byte holds the last digit in base 64

last_continues : (c : ℕ) → Continues (0x80 + c % 64)
last_continues c = a_continuation (0x80 + c % 64) (omega arith) (omega arith)

low_digit : (c : ℕ) → (0x80 + c % 64) % 64 ≡ c % 64
low_digit c = omega arith

joined : (c : ℕ) → c / 64 * 64 + c % 64 ≡ c
joined c = omega arith

-- ---- 1

pub encode_decode_width_1 : (c : ℕ) → has_width_1_encoding c ≡ true
    → Leads is_leading_byte_width_1 (leading_byte_width_1 c) × (codepoint_width_1 (leading_byte_width_1 c) ≡ c)
encode_decode_width_1 c h =
    let p = one_width c h in
    rw (codepoint_width_1_is, leading_byte_width_1_is c) (one_lead (c % 128) (omega arith), omega arith)

pub decode_encode_width_1 : (b1 : ℕ) → Leads is_leading_byte_width_1 b1
    → (has_width_1_encoding (codepoint_width_1 b1) ≡ true) × (leading_byte_width_1 (codepoint_width_1 b1) ≡ b1)
decode_encode_width_1 b1 l =
    let p = lead_one b1 l in
    rw (leading_byte_width_1_is, codepoint_width_1_is) (width_one (b1 % 128) (omega arith), omega arith)

-- ---- 2

pub encode_decode_width_2 : (c : ℕ) → has_width_2_encoding c ≡ true
    → Leads is_leading_byte_width_2 (leading_byte_width_2 c) × (Continues (last_continuation_byte c)
    × (codepoint_width_2 (leading_byte_width_2 c) (last_continuation_byte c) ≡ c))
encode_decode_width_2 c h =
    let p = two_width c h in
    let top : (0xc0 + c / 64 % 32) % 32 ≡ c / 64 = omega arith in
    rw (codepoint_width_2_is, leading_byte_width_2_is c, last_continuation_byte_is c)
    (two_lead (0xc0 + c / 64 % 32) (omega arith) (omega arith), (last_continues c, rw (top, low_digit c) (joined c)))

pub decode_encode_width_2 : (b1 b2 : ℕ) → Leads is_leading_byte_width_2 b1 → Continues b2 → NotOverlongEncoding (codepoint_width_2 b1 b2) 2
    → (has_width_2_encoding (codepoint_width_2 b1 b2) ≡ true)
    × ((leading_byte_width_2 (codepoint_width_2 b1 b2) ≡ b1) × (last_continuation_byte (codepoint_width_2 b1 b2) ≡ b2))
decode_encode_width_2 b1 b2 l k o =
    let p = lead_two b1 l in
    let q = continues b2 k in
    let e = codepoint_width_2_is b1 b2 in
    let m = rw e at (o.two refl) in
    let c = b1 % 32 * 64 + b2 % 64 in
    let high : c / 64 ≡ b1 % 32 = omega arith in
    let low : c % 64 ≡ b2 % 64 = omega arith in
    rw (e, leading_byte_width_2_is, last_continuation_byte_is, high, low) (width_two c (omega arith) (omega arith), (omega arith, omega arith))

-- ---- 3

pub encode_decode_width_3 : (c : ℕ) → has_width_3_encoding c ≡ true
    → Leads is_leading_byte_width_3 (leading_byte_width_3 c) × (Continues (second_last_continuation_byte c) × (Continues (last_continuation_byte c)
    × (codepoint_width_3 (leading_byte_width_3 c) (second_last_continuation_byte c) (last_continuation_byte c) ≡ c)))
encode_decode_width_3 c h =
    let p = three_bounds c h in
    let top : (0xe0 + c / 64 / 64 % 16) % 16 ≡ c / 64 / 64 = omega arith in
    rw (codepoint_width_3_is, leading_byte_width_3_is c, second_last_continuation_byte_is c, last_continuation_byte_is c) (
      three_lead (0xe0 + c / 64 / 64 % 16) (omega arith) (omega arith),
      (last_continues (c / 64), (last_continues c, rw (top, low_digit (c / 64), low_digit c, joined (c / 64)) (joined c))),
    )

pub decode_encode_width_3 : (b1 b2 b3 : ℕ) → Leads is_leading_byte_width_3 b1 → Continues b2 → Continues b3
    → NotOverlongEncoding (codepoint_width_3 b1 b2 b3) 3 → NotSurrogate (codepoint_width_3 b1 b2 b3)
    → (has_width_3_encoding (codepoint_width_3 b1 b2 b3) ≡ true) × ((leading_byte_width_3 (codepoint_width_3 b1 b2 b3) ≡ b1)
    × ((second_last_continuation_byte (codepoint_width_3 b1 b2 b3) ≡ b2) × (last_continuation_byte (codepoint_width_3 b1 b2 b3) ≡ b3)))
decode_encode_width_3 b1 b2 b3 l k j o n =
    let p = lead_three b1 l in
    let q = continues b2 k in
    let r = continues b3 j in
    let e = codepoint_width_3_is b1 b2 b3 in
    let m = rw e at (o.three refl) in
    let s = rw e at n in
    let d = b1 % 16 * 64 + b2 % 64 in
    let c = d * 64 + b3 % 64 in
    let high : c / 64 ≡ d = omega arith in
    let low : c % 64 ≡ b3 % 64 = omega arith in
    let top : d / 64 ≡ b1 % 16 = omega arith in
    let mid : d % 64 ≡ b2 % 64 = omega arith in
    rw (e, leading_byte_width_3_is, second_last_continuation_byte_is, last_continuation_byte_is, high, low, top, mid)
    (width_three c (omega arith) (omega arith) (λ u. s (omega arith, omega arith)), (omega arith, (omega arith, omega arith)))

-- ---- 4

pub encode_decode_width_4 : (c : ℕ) → has_width_4_encoding c ≡ true
    → Leads is_leading_byte_width_4 (leading_byte_width_4 c) × (Continues (third_last_continuation_byte c)
    × (Continues (second_last_continuation_byte c) × (Continues (last_continuation_byte c)
    × (codepoint_width_4 (leading_byte_width_4 c) (third_last_continuation_byte c) (second_last_continuation_byte c) (last_continuation_byte c) ≡ c))))
encode_decode_width_4 c h =
    let p = four_width c h in
    let top : (0xf0 + c / 64 / 64 / 64 % 8) % 8 ≡ c / 64 / 64 / 64 = omega arith in
    rw (codepoint_width_4_is, leading_byte_width_4_is c, third_last_continuation_byte_is c, second_last_continuation_byte_is c, last_continuation_byte_is c) (
      four_lead (0xf0 + c / 64 / 64 / 64 % 8) (omega arith) (omega arith),
      (
        last_continues (c / 64 / 64),
        (
          last_continues (c / 64),
          (last_continues c, rw (top, low_digit (c / 64 / 64), low_digit (c / 64), low_digit c, joined (c / 64 / 64), joined (c / 64)) (joined c)),
        ),
      ),
    )

pub decode_encode_width_4 : (b1 b2 b3 b4 : ℕ) → Leads is_leading_byte_width_4 b1 → Continues b2 → Continues b3 → Continues b4
    → NotOverlongEncoding (codepoint_width_4 b1 b2 b3 b4) 4
    → (has_width_4_encoding (codepoint_width_4 b1 b2 b3 b4) ≡ true) × ((leading_byte_width_4 (codepoint_width_4 b1 b2 b3 b4) ≡ b1)
    × ((third_last_continuation_byte (codepoint_width_4 b1 b2 b3 b4) ≡ b2) × ((second_last_continuation_byte (codepoint_width_4 b1 b2 b3 b4) ≡ b3)
    × (last_continuation_byte (codepoint_width_4 b1 b2 b3 b4) ≡ b4))))
decode_encode_width_4 b1 b2 b3 b4 l k j i o =
    let p = lead_four b1 l in
    let q = continues b2 k in
    let r = continues b3 j in
    let t = continues b4 i in
    let e = codepoint_width_4_is b1 b2 b3 b4 in
    let m = rw e at (o.four refl) in
    let f = b1 % 8 * 64 + b2 % 64 in
    let d = f * 64 + b3 % 64 in
    let c = d * 64 + b4 % 64 in
    let high : c / 64 ≡ d = omega arith in
    let low : c % 64 ≡ b4 % 64 = omega arith in
    let high' : d / 64 ≡ f = omega arith in
    let low' : d % 64 ≡ b3 % 64 = omega arith in
    let top : f / 64 ≡ b1 % 8 = omega arith in
    let mid : f % 64 ≡ b2 % 64 = omega arith in
    rw (
      e,
      leading_byte_width_4_is,
      third_last_continuation_byte_is,
      second_last_continuation_byte_is,
      last_continuation_byte_is,
      high,
      low,
      high',
      low',
      top,
      mid,
    )
    (width_four c (omega arith) (omega arith), (omega arith, (omega arith, (omega arith, omega arith))))
