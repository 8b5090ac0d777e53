-- The classes of bytes, told by their highest bits.
use mathlib.Core.Path.{◌≡◌, sym, ap, ◌∙◌}
use mathlib.Core.Logic.{◌↔◌}
use Prim.Native.Nat.{ℕ, ◌+◌, ◌-◌, ◌*◌, ◌/◌, ◌%◌, ◌^◌, ◌≤◌, ◌<◌}
use native.Mathlib.Nat.{div-add-mod', mod-lt, mod-eq_of_lt}
use native.Mathlib.Omega.{arith}
use lib.Arith.{digits_div}
use lib.Bits.{bit_and, and_high}
use lib.Pow.{pow_pos, shr_lt}

-- of j + k bits the j highest are those of v
pub range_by_bits : (j k v b : ℕ) → b < 2 ^ (j + k) → ((v * 2 ^ k ≤ b) × (b ≤ v * 2 ^ k + (2 ^ k - 1))) ↔ (bit_and b (2 ^ (j + k) - 2 ^ k) ≡ v * 2 ^ k)
range_by_bits j k v b h =
    let kept : bit_and b (2 ^ (j + k) - 2 ^ k) ≡ b / 2 ^ k * 2 ^ k = and_high b j k ∙ ap (λ (n : ℕ). n * 2 ^ k) (mod-eq_of_lt (shr_lt j k h)) in
    let whole : b / 2 ^ k * 2 ^ k + b % 2 ^ k ≡ b = div-add-mod' b (2 ^ k) in
    let small : b % 2 ^ k < 2 ^ k = mod-lt b (pow_pos k) in (
      λ p.
          let e : v * 2 ^ k + (b - v * 2 ^ k) ≡ b = omega arith in
          let d : (v * 2 ^ k + (b - v * 2 ^ k)) / 2 ^ k ≡ v = digits_div v (omega arith) in
          kept ∙ ap (λ (n : ℕ). n * 2 ^ k) (sym (ap (λ (n : ℕ). n / 2 ^ k) e) ∙ d),
      λ p. omega arith,
    )

-- `utf8_byte_ranges_bitwise`: a form alone; the first byte of two, of three, of four; and a byte inside
pub utf8_byte_ranges_bitwise : (b : ℕ) → b < 0x100
    → (((0x00 ≤ b) × (b ≤ 0x7f)) ↔ (bit_and b 0x80 ≡ 0x00)) × (((0xc0 ≤ b) × (b ≤ 0xdf)) ↔ (bit_and b 0xe0 ≡ 0xc0))
    × (((0xe0 ≤ b) × (b ≤ 0xef)) ↔ (bit_and b 0xf0 ≡ 0xe0)) × (((0xf0 ≤ b) × (b ≤ 0xf7)) ↔ (bit_and b 0xf8 ≡ 0xf0))
    × (((0x80 ≤ b) × (b ≤ 0xbf)) ↔ (bit_and b 0xc0 ≡ 0x80))
utf8_byte_ranges_bitwise b h = (range_by_bits 1 7 0 b h, range_by_bits 3 5 6 b h, range_by_bits 4 4 14 b h, range_by_bits 5 3 30 b h, range_by_bits 2 6 2 b h)
