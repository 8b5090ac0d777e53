-- What each exported function on text promises, for all arguments, in vstd's terms: the answer's parts come first, then the slice (before and after, where it
-- is written), then the other arguments. `Outcome` says when the function is ok, what it then answers, and what it leaves of a refusal.
use Rattle.std.specs.Prelude.{ℕ, ◌+◌, ◌≤◌, ◌≡◌, Bool, true, false, List, ◌++◌, length}
use Rattle.theory_answers.specs.Says.{Says, Outcome}
use Rattle.theory_lists.specs.Part.{part, Within}
use Rattle.theory_lists.specs.Written.{written}
use Rattle.vstd_text.specs.Decoding.{ValidFirstScalar, decode_first_scalar, length_of_first_scalar, ValidUtf8, decode_utf8}
use Rattle.vstd_text.specs.Encoding.{is_scalar, encode_scalar}
use Rattle.vstd_text.specs.Places.{PartialValidUtf8, IsCharBoundary}
use Rattle.vstd_text.specs.Characters.{IsAsciiChars, AsciiBlock, is_white_space}

-- ---- one scalar value

-- char::len_utf8, refused for what is no char
abbrev pub ScalarLen : Bool → ℕ → ℕ → Type 0
ScalarLen ok value c = Outcome ok (is_scalar c ≡ true) (value ≡ length (encode_scalar c)) (value ≡ 0)

-- char::is_whitespace
abbrev pub IsWhiteSpace : Bool → ℕ → Type 0
IsWhiteSpace r c = r ≡ is_white_space c

abbrev pub Write : Bool → ℕ → List ℕ → List ℕ → ℕ → ℕ → Type 0
Write ok value before after at c =
    Outcome ok ((is_scalar c ≡ true) × (at + length (encode_scalar c) ≤ length before))
    ((value ≡ length (encode_scalar c)) × (after ≡ written before at (encode_scalar c)))
    ((value ≡ 0) × (after ≡ before))

-- ---- the ends of a part

abbrev pub ReadFirst : Bool → ℕ → ℕ → List ℕ → ℕ → ℕ → Type 0
ReadFirst ok value len s from to =
    Outcome ok (Within from to s × ValidFirstScalar (part from to s))
    ((value ≡ decode_first_scalar (part from to s)) × (len ≡ length_of_first_scalar (part from to s)))
    ((value ≡ 0) × (len ≡ 0))

-- c is a scalar, and its encoding ends the bytes: of which vstd speaks in valid text only
abbrev pub EncodingEnds : List ℕ → ℕ → Type 0
EncodingEnds bytes c = (is_scalar c ≡ true) × ((before : List ℕ) × (before ++ encode_scalar c ≡ bytes))

abbrev pub ReadLast : Bool → ℕ → ℕ → List ℕ → ℕ → ℕ → Type 0
ReadLast ok value len s from to =
    Outcome ok (Within from to s × ((c : ℕ) × EncodingEnds (part from to s) c))
    (EncodingEnds (part from to s) value × (len ≡ length (encode_scalar value)))
    ((value ≡ 0) × (len ≡ 0))

-- ---- whole texts

abbrev pub Valid : Bool → List ℕ → Type 0
Valid r s = Says r (ValidUtf8 s)

abbrev pub Count : Bool → ℕ → List ℕ → Type 0
Count ok value s = Outcome ok (ValidUtf8 s) (value ≡ length (decode_utf8 s)) (value ≡ 0)

abbrev pub IsBoundary : Bool → Bool → List ℕ → ℕ → Type 0
IsBoundary ok value s at = Outcome ok (ValidUtf8 s) (Says value (IsCharBoundary s at)) (value ≡ false)

abbrev pub SplitAt : Bool → ℕ → ℕ → List ℕ → ℕ → Type 0
SplitAt ok middle end s at = Outcome ok (ValidUtf8 s × IsCharBoundary s at) ((middle ≡ at) × (end ≡ length s)) ((middle ≡ 0) × (end ≡ 0))

-- of any bytes, and in valid text of its characters
pub record IsAscii (r : Bool) (s : List ℕ) : Type 0 where
  pub bytes : Says r (AsciiBlock s 0 (length s))
  pub chars : ValidUtf8 s → Says r (IsAsciiChars (decode_utf8 s))

-- ---- beyond vstd

-- how far the text is valid: so many bytes are, and no more
pub record ValidUpTo (r : ℕ) (s : List ℕ) : Type 0 where
  pub valid : PartialValidUtf8 s r
  pub most : (i : ℕ) → PartialValidUtf8 s i → i ≤ r
