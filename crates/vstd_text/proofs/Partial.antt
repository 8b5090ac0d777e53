-- What vstd proves about parts of text (utf8.rs, "Partial UTF-8 sequences"), in the order of its file and each under its name.
use mathlib.Core.Path.{◌≡◌, ap, ◌∙◌, subst}
use mathlib.Core.List.{List, ◌++◌}
use Prim.Native.Nat.{ℕ, ◌+◌, ◌-◌, ◌≤◌, ◌<◌}
use native.Mathlib.Omega.{arith}
use lib.ListN.{length, get_or, take, drop}
use lib.Seq.{drop-drop}
use Rattle.theory_lists.specs.Part.{part, Within}
use Rattle.theory_lists.proofs.Part.{length_part, get_d_part}
use Rattle.theory_lists.proofs.Below.{all_below}
use Rattle.theory_text.proofs.Steps.{next_within}
use Rattle.theory_text.proofs.Pieces.{valid_append, valid_cut, valid_extend}
use Rattle.theory_text.proofs.Ascii.{valid_ascii}
use Rattle.vstd_text.specs.Decoding.{ValidFirstScalar, length_of_first_scalar, ValidUtf8}
use Rattle.vstd_text.specs.Places.{PartialValidUtf8}
use Rattle.vstd_text.specs.Characters.{AsciiBlock}
use Rattle.vstd_text.proofs.Ranges.{lead_one}
use Rattle.vstd_text.proofs.Decoding.{length_of_first_scalar_same, valid_first_some}
use Rattle.vstd_text.proofs.Whole.{valid_utf8_same}

-- valid text, cut behind a valid beginning, is valid from there on
valid_utf8_cut : (bytes : List ℕ) (i : ℕ) → ValidUtf8 (take i bytes) → ValidUtf8 bytes → ValidUtf8 (drop i bytes)
valid_utf8_cut bytes i h w = (valid_utf8_same (drop i bytes)).1 (valid_cut bytes i ((valid_utf8_same (take i bytes)).0 h) ((valid_utf8_same bytes).0 w))

-- `partial_valid_partial_invalid_utf8`
pub partial_valid_partial_invalid_utf8 : (bytes : List ℕ) (i : ℕ) → i ≤ length bytes → ValidUtf8 (take i bytes)
    → (ValidUtf8 (drop i bytes) → ⊥) → ValidUtf8 bytes → ⊥
partial_valid_partial_invalid_utf8 bytes i l h n w = n (valid_utf8_cut bytes i h w)

-- `partial_valid_utf8_invalid_subrange_helper`
pub partial_valid_utf8_invalid_subrange : (bytes : List ℕ) (i j : ℕ) → j ≤ i → i ≤ length bytes → ValidUtf8 (take i bytes) → (ValidUtf8 (drop i bytes) → ⊥)
    → ValidUtf8 (take j bytes) → ValidUtf8 (part j i bytes) → ValidUtf8 (drop j bytes) → ⊥
partial_valid_utf8_invalid_subrange bytes i j l m h n k p w =
    let e : j + (i - j) ≡ i = omega arith in
    n (subst ValidUtf8 (drop-drop (i - j) j bytes ∙ ap (λ (x : ℕ). drop x bytes) e) (valid_utf8_cut (drop j bytes) (i - j) p w))

-- `valid_utf8_concat`
pub valid_utf8_concat : (b1 b2 : List ℕ) → ValidUtf8 b1 → ValidUtf8 b2 → ValidUtf8 (b1 ++ b2)
valid_utf8_concat b1 b2 h k = (valid_utf8_same (b1 ++ b2)).1 (valid_append b1 b2 ((valid_utf8_same b1).0 h) ((valid_utf8_same b2).0 k))

-- `partial_valid_utf8_extend`
pub partial_valid_utf8_extend : (bytes : List ℕ) (i : ℕ) → PartialValidUtf8 bytes i → ValidFirstScalar (drop i bytes)
    → PartialValidUtf8 bytes (i + length_of_first_scalar (drop i bytes))
partial_valid_utf8_extend bytes i p f =
    rw (← length_of_first_scalar_same (drop i bytes) f)
    (next_within bytes i p.0, (valid_utf8_same _).1 (valid_extend bytes i ((valid_utf8_same (take i bytes)).0 p.1) (valid_first_some (drop i bytes) f)))

-- `partial_valid_utf8_extend_ascii_block`
pub partial_valid_utf8_extend_ascii_block : (bytes : List ℕ) (start end : ℕ) → AsciiBlock bytes start end → PartialValidUtf8 bytes start
    → start ≤ end → end ≤ length bytes → PartialValidUtf8 bytes end
partial_valid_utf8_extend_ascii_block bytes start end a p l m =
    let e : start + (end - start) ≡ end = omega arith in
    let before = (valid_utf8_same (take start bytes)).0 p.1 in
    let w : Within start (start + (end - start)) bytes = record { ordered = omega arith; ends = omega arith } in
    let block = all_below 0x80 (part start (start + (end - start)) bytes)
    (λ k h. let n : k < end - start = omega (arith, length_part w) in
    rw (get_d_part start (start + (end - start)) bytes k (omega arith)) (lead_one (get_or bytes (start + k) 0) (a (start + k) (omega arith) (omega arith)))) in
    let whole = valid_ascii bytes start (end - start) (omega arith) block before in
    (m, subst (λ (x : ℕ). ValidUtf8 (take x bytes)) e ((valid_utf8_same _).1 whole))
