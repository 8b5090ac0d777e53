-- vstd's kinds of characters, each item under its name: ASCII (utf8.rs) and white space (std_specs/char.rs).
use Rattle.std.specs.Prelude.{ℕ, ◌<◌, ◌≤◌, Bool, ◌||◌, List, eqb, length, get_or}
use Rattle.vstd_text.specs.Decoding.{at, Leads, is_leading_byte_width_1}

abbrev pub IsAsciiChars : List ℕ → Type 0
IsAsciiChars chars = (i : ℕ) → i < length chars → (0 ≤ get_or chars i 0) × (get_or chars i 0 ≤ 0x7f)

-- the bytes from place start up to and without place end are ASCII, as `partial_valid_utf8_extend_ascii_block` asks
abbrev pub AsciiBlock : List ℕ → ℕ → ℕ → Type 0
AsciiBlock bytes start end = (i : ℕ) → start ≤ i → i < end → Leads is_leading_byte_width_1 (at bytes i)

unfoldable pub is_white_space : ℕ → Bool
is_white_space c =
    eqb c 0x9 || (eqb c 0xa || (eqb c 0xb || (eqb c 0xc || (eqb c 0xd || (eqb c 0x20
    || (eqb c 0x85 || (eqb c 0xa0 || (eqb c 0x1680 || (eqb c 0x2000 || (eqb c 0x2001
    || (eqb c 0x2002 || (eqb c 0x2003 || (eqb c 0x2004 || (eqb c 0x2005 || (eqb c
    0x2006 || (eqb c 0x2007 || (eqb c 0x2008 || (eqb c 0x2009 || (eqb c 0x200a
    || (eqb c 0x2028 || (eqb c 0x2029 || (eqb c 0x202f || (eqb c 0x205f || eqb c
    0x3000)))))))))))))))))))))))
