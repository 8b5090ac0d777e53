-- vstd's white space and ASCII are ours.
use mathlib.Core.Path.{◌≡◌, refl}
use mathlib.Core.Logic.{◌↔◌}
use mathlib.Core.List.{List, ◌++◌}
use Prim.Native.Nat.{ℕ, ◌<◌}
use native.Mathlib.Omega.{arith}
use lib.Dec.{eqb}
use lib.ListN.{length, get_or}
use Rattle.theory_answers.specs.Says.{Says}
use Rattle.theory_lists.specs.Part.{Has}
use Rattle.theory_lists.proofs.Below.{all_below, below_at, below_append, below_parts}
use Rattle.theory_lists.specs.Search.{listed}
use Rattle.theory_lists.proofs.Listed.{says_listed}
use Rattle.theory_text.specs.WhiteSpace.{white_space}
use Rattle.theory_text.specs.Ascii.{Ascii}
use Rattle.theory_text.proofs.Ascii.{ascii_scalars, ascii_encode}
use Rattle.vstd_text.specs.Encoding.{as_u8, encode_utf8}
use Rattle.vstd_text.specs.Characters.{IsAsciiChars, AsciiBlock, is_white_space}
use Rattle.vstd_text.proofs.Ranges.{lead_one, one_lead}
use Rattle.vstd_text.proofs.Encoding.{or_false, encode_utf8_same}

white_space_listed : (c : ℕ) → is_white_space c ≡ listed white_space c
unfolding is_white_space
white_space_listed c = rw (or_false (eqb c 0x3000))

pub white_space_same : (c : ℕ) → Says (is_white_space c) (Has c white_space)
white_space_same c = rw (white_space_listed c) (says_listed white_space c)

pub is_ascii_chars_same : (chars : List ℕ) → IsAsciiChars chars ↔ Ascii chars
is_ascii_chars_same chars =
    (λ a. all_below 0x80 chars (λ j h. omega (arith, (a j h).1)), λ a j h. (omega arith, omega (arith, below_at 0x80 j chars a h)))

pub ascii_block_same : (bytes : List ℕ) → AsciiBlock bytes 0 (length bytes) ↔ Ascii bytes
ascii_block_same bytes = (
  λ a. all_below 0x80 bytes (λ j h. lead_one (get_or bytes j 0) (a j (omega arith) h)),
  λ a j l h. one_lead (get_or bytes j 0) (below_at 0x80 j bytes a h),
)

-- ---- what vstd proves about ASCII, each under its name

-- `is_ascii_chars_encode_utf8`
pub is_ascii_chars_encode_utf8 : (chars : List ℕ) → IsAsciiChars chars
    → (length chars ≡ length (encode_utf8 chars)) × ((i : ℕ) → i < length chars → as_u8 (get_or chars i 0) ≡ get_or (encode_utf8 chars) i 0)
is_ascii_chars_encode_utf8 chars a =
    let b = (is_ascii_chars_same chars).0 a in
    rw (encode_utf8_same chars (ascii_scalars chars b), ascii_encode chars b) (refl, λ i h. omega (arith, below_at 0x80 i chars b h))

-- `is_ascii_chars_nat_bound`
pub is_ascii_chars_nat_bound : (chars : List ℕ) → IsAsciiChars chars → (i : ℕ) → i < length chars → get_or chars i 0 < 128
is_ascii_chars_nat_bound chars a i h = below_at 0x80 i chars ((is_ascii_chars_same chars).0 a) h

-- `is_ascii_chars_concat`
pub is_ascii_chars_concat : (c1 c2 c3 : List ℕ) → c1 ≡ c2 ++ c3 → IsAsciiChars c1 ↔ (IsAsciiChars c2 × IsAsciiChars c3)
is_ascii_chars_concat c1 c2 c3 e = rw e (
  λ a. let p = below_parts 0x80 c2 c3 ((is_ascii_chars_same (c2 ++ c3)).0 a) in ((is_ascii_chars_same c2).1 p.0, (is_ascii_chars_same c3).1 p.1),
  λ p. (is_ascii_chars_same (c2 ++ c3)).1 (below_append 0x80 c2 c3 ((is_ascii_chars_same c2).0 p.0) ((is_ascii_chars_same c3).0 p.1)),
)
