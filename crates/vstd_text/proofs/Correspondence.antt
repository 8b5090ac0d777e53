-- What vstd proves about writing and reading whole texts (utf8.rs, "Correspondence between encode_utf8 and decode_utf8 definitions"), in the order of its file
-- and each under its name; what it proves about one form stands in Widths.antt. There is no type char: `char_is_scalar` is asked as `Chars`, and `char_u32_cast`
-- has no counterpart.
use mathlib.Core.Path.{◌≡◌, sym, ap, ◌∙◌}
use mathlib.Core.List.{List, ◌∷◌, ◌++◌}
use Prim.Native.Nat.{ℕ, ◌<◌}
use native.Mathlib.Omega.{arith}
use lib.ListN.{length}
use Rattle.theory_text.specs.Reading.{scalars}
use Rattle.theory_text.proofs.Steps.{first_scalar}
use Rattle.theory_text.proofs.Unique.{scalars_are, encode_scalars, encode_valid, valid_encode}
use Rattle.theory_text.proofs.Pieces.{take_first}
use Rattle.vstd_text.specs.Decoding.{ValidFirstScalar, decode_first_scalar, length_of_first_scalar, take_first_scalar, ValidUtf8, decode_utf8}
use Rattle.vstd_text.specs.Encoding.{encode_scalar, Chars, encode_utf8}
use Rattle.vstd_text.proofs.Encoding.{is_scalar_scalar, encode_scalar_same, len_utf8_same, chars_scalars, scalars_chars, encode_utf8_same}
use Rattle.vstd_text.proofs.Decoding.{length_of_first_scalar_same, decode_first_scalar_same, valid_first_some, begins_valid}
use Rattle.vstd_text.proofs.Whole.{valid_utf8_same, decode_utf8_same, valid_utf8_is}

-- `encode_utf8_first_scalar`
pub encode_utf8_first_scalar : (c : ℕ) (chars : List ℕ) → Chars (c ∷ chars)
    → (decode_first_scalar (encode_utf8 (c ∷ chars)) ≡ c)
    × ((length_of_first_scalar (encode_utf8 (c ∷ chars)) ≡ length (encode_scalar c)) × ValidFirstScalar (encode_utf8 (c ∷ chars)))
unfolding encode_utf8
encode_utf8_first_scalar c chars h =
    let s = is_scalar_scalar c h.0 in
    let front = ap (λ (l : List ℕ). l ++ encode_utf8 chars) (sym (encode_scalar_same c s)) in
    let b = begins_valid (encode_scalar c ++ encode_utf8 chars) c (s, (encode_utf8 chars, front)) in
    (sym b.1.0, (sym b.1.1 ∙ sym (len_utf8_same c s), b.0))

-- `encode_utf8_valid_utf8`
pub encode_utf8_valid_utf8 : (chars : List ℕ) → Chars chars → ValidUtf8 (encode_utf8 chars)
encode_utf8_valid_utf8 chars h = let s = chars_scalars chars h in (valid_utf8_same (encode_utf8 chars)).1 (rw (encode_utf8_same chars s) (encode_valid chars s))

-- `encode_utf8_decode_utf8`
pub encode_utf8_decode_utf8 : (chars : List ℕ) → Chars chars → decode_utf8 (encode_utf8 chars) ≡ chars
encode_utf8_decode_utf8 chars h =
    let s = chars_scalars chars h in
    rw (encode_utf8_same chars s, decode_utf8_same _ (encode_valid chars s)) (encode_scalars chars s)

-- `decode_utf8_first_scalar`, of any bytes that begin with a scalar
pub encode_first_scalar : (bytes : List ℕ) → ValidFirstScalar bytes → encode_scalar (decode_first_scalar bytes) ≡ take_first_scalar bytes
encode_first_scalar bytes v =
    let p = valid_first_some bytes v in
    rw (← decode_first_scalar_same bytes v, ← length_of_first_scalar_same bytes v, encode_scalar_same _ (first_scalar bytes p)) (sym (take_first bytes p))

pub decode_utf8_first_scalar : (bytes : List ℕ) → ValidUtf8 bytes → 0 < length bytes → encode_scalar (decode_first_scalar bytes) ≡ take_first_scalar bytes
decode_utf8_first_scalar bytes h p = encode_first_scalar bytes ((valid_utf8_is bytes).0 h (λ e. omega arith)).0

-- `decode_utf8_encode_utf8`
pub decode_utf8_encode_utf8 : (bytes : List ℕ) → ValidUtf8 bytes → encode_utf8 (decode_utf8 bytes) ≡ bytes
decode_utf8_encode_utf8 bytes h =
    let v = (valid_utf8_same bytes).0 h in
    rw (decode_utf8_same bytes v, encode_utf8_same (scalars bytes) (scalars_are bytes)) (valid_encode bytes v)

-- what is decoded is a sequence of characters
pub decode_utf8_chars : (bytes : List ℕ) → ValidUtf8 bytes → Chars (decode_utf8 bytes)
decode_utf8_chars bytes h = rw (decode_utf8_same bytes ((valid_utf8_same bytes).0 h)) (scalars_chars (scalars bytes) (scalars_are bytes))
