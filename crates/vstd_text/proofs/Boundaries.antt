-- What vstd proves about boundaries (utf8.rs, "Reasoning about character boundaries"), in the order of its file and each under its name.
use mathlib.Core.Path.{◌≡◌, sym, ◌∙◌, subst}
use mathlib.Core.Logic.{◌↔◌, ◌⊎◌, inl, inr}
use mathlib.Core.List.{List, ◌∷◌, ◌++◌}
use Prim.Native.Nat.{ℕ, suc, ◌-◌, ◌<◌, ◌≤◌}
use native.Mathlib.Omega.{arith}
use lib.ListN.{length, take, drop}
use lib.Seq.{drop-cons}
use borrow.Author.Tests.{not-true}
use Rattle.theory_whole.proofs.Cases.{never, not_so}
use Rattle.theory_text.specs.Text.{Valid}
use Rattle.theory_text.specs.Boundary.{Boundary}
use Rattle.theory_text.specs.Scalar.{follows}
use Rattle.theory_text.proofs.Pieces.{scalars_cut, form_valid}
use Rattle.theory_text.proofs.Ends.{last_ascii}
use Rattle.theory_text.proofs.Boundaries.{boundary_start, boundary_end, boundary_splits, boundary_starts, starts_boundary}
use Rattle.vstd_text.specs.Decoding.{at, Leads, Continues, is_leading_byte_width_1, is_leading_byte_width_2, is_leading_byte_width_3}
use Rattle.vstd_text.specs.Decoding.{is_leading_byte_width_4, ValidLeadingAndContinuationBytesFirstCodepoint, length_of_first_scalar}
use Rattle.vstd_text.specs.Decoding.{take_first_scalar, ValidUtf8, decode_utf8}
use Rattle.vstd_text.specs.Encoding.{encode_scalar}
use Rattle.vstd_text.specs.Places.{IsCharBoundary}
use Rattle.vstd_text.proofs.Ranges.{lead_one, one_lead, lead_two, lead_three, lead_four, continues, a_continuation}
use Rattle.vstd_text.proofs.Encoding.{encode_scalar_same}
use Rattle.vstd_text.proofs.Decoding.{valid_begins}
use Rattle.vstd_text.proofs.Whole.{valid_utf8_same, decode_utf8_same, valid_utf8_is}
use Rattle.vstd_text.proofs.Last.{last_of, continuation_follows}
use Rattle.vstd_text.proofs.Places.{is_char_boundary_same, is_char_boundary_is}
use Rattle.vstd_text.proofs.Correspondence.{encode_first_scalar}

-- a byte that leads, by its form
abbrev pub Leading : ℕ → Type 0
Leading b = Leads is_leading_byte_width_1 b ⊎ (Leads is_leading_byte_width_2 b ⊎ (Leads is_leading_byte_width_3 b ⊎ Leads is_leading_byte_width_4 b))

shaped_leads : (b : ℕ) (bs : List ℕ) → ValidLeadingAndContinuationBytesFirstCodepoint (b ∷ bs) → Leading b
shaped_leads b bs (inl p) = inl p.1
shaped_leads b bs (inr (inl p)) = inr (inl p.1.0)
shaped_leads b bs (inr (inr (inl p))) = inr (inr (inl p.1.0))
shaped_leads b bs (inr (inr (inr p))) = inr (inr (inr p.1.0))

leading_not_continues : (b : ℕ) → Leading b → Continues b → ⊥
leading_not_continues b (inl e) c = omega (arith, lead_one b e, continues b c)
leading_not_continues b (inr (inl e)) c = omega (arith, lead_two b e, continues b c)
leading_not_continues b (inr (inr (inl e))) c = omega (arith, lead_three b e, continues b c)
leading_not_continues b (inr (inr (inr e))) c = omega (arith, lead_four b e, continues b c)

module _ (bytes : List ℕ) (h : ValidUtf8 bytes) where
  v : Valid bytes
  v = (valid_utf8_same bytes).0 h

  -- `take_first_scalar_valid_utf8`
  pub take_first_scalar_valid_utf8 : 0 < length bytes → ValidUtf8 (take_first_scalar bytes)
  take_first_scalar_valid_utf8 p =
      let f = ((valid_utf8_is bytes).0 h (λ e. omega arith)).0 in
      let s = (valid_begins bytes f).0 in
      subst ValidUtf8 (encode_first_scalar bytes f) ((valid_utf8_same (encode_scalar _)).1 (rw (encode_scalar_same _ s) (form_valid _ s)))

  module _ (index : ℕ) where
    to_boundary : IsCharBoundary bytes index → Boundary bytes index
    to_boundary = (is_char_boundary_same bytes v index).0

    to_vstd : Boundary bytes index → IsCharBoundary bytes index
    to_vstd = (is_char_boundary_same bytes v index).1

    -- `valid_utf8_split`
    pub valid_utf8_split : IsCharBoundary bytes index → ValidUtf8 (take index bytes) × ValidUtf8 (drop index bytes)
    valid_utf8_split b =
        let p = boundary_splits bytes v index (to_boundary b) in
        ((valid_utf8_same (take index bytes)).1 p.before, (valid_utf8_same (drop index bytes)).1 p.behind)

    -- `decode_utf8_split`
    pub decode_utf8_split : IsCharBoundary bytes index → decode_utf8 bytes ≡ decode_utf8 (take index bytes) ++ decode_utf8 (drop index bytes)
    decode_utf8_split b =
        let p = boundary_splits bytes v index (to_boundary b) in
        rw (decode_utf8_same bytes v, decode_utf8_same (take index bytes) p.before, decode_utf8_same (drop index bytes) p.behind)
        (scalars_cut bytes index p.before)

    -- `is_char_boundary_len_first_scalar`
    pub is_char_boundary_len_first_scalar : IsCharBoundary bytes index → 0 < index → length_of_first_scalar bytes ≤ index
    is_char_boundary_len_first_scalar b p = ((is_char_boundary_is bytes h index p).0 b).1.0

    -- `is_char_boundary_iff_not_is_continuation_byte`
    pub is_char_boundary_iff_not_is_continuation_byte : index < length bytes → IsCharBoundary bytes index ↔ (Continues (at bytes index) → ⊥)
    is_char_boundary_iff_not_is_continuation_byte l = (
      λ b c. never (sym (continuation_follows (at bytes index)) ∙ c) (not-true (follows (at bytes index)) (boundary_starts bytes v index (to_boundary b))),
      λ n. to_vstd (starts_boundary bytes v index (omega arith) (rw (sym (continuation_follows (at bytes index)) ∙ not_so n))),
    )

    -- `is_char_boundary_iff_is_leading_byte`
    pub is_char_boundary_iff_is_leading_byte : index < length bytes → IsCharBoundary bytes index ↔ Leading (at bytes index)
    is_char_boundary_iff_is_leading_byte l = (
      λ b.
          let w : ValidUtf8 (at bytes index ∷ drop (suc index) bytes) = subst ValidUtf8 (drop-cons bytes index 0 l) (valid_utf8_split b).1 in
          shaped_leads (at bytes index) (drop (suc index) bytes) w.0.shaped,
      λ d. (is_char_boundary_iff_not_is_continuation_byte l).1 (leading_not_continues (at bytes index) d),
    )

  -- `is_char_boundary_start_end_of_seq`
  pub is_char_boundary_start_end_of_seq : IsCharBoundary bytes 0 × IsCharBoundary bytes (length bytes)
  is_char_boundary_start_end_of_seq = (to_vstd 0 (boundary_start bytes v), to_vstd (length bytes) (boundary_end bytes v))

  -- `valid_utf8_last`
  pub valid_utf8_last : 0 < length bytes → (Continues (at bytes (length bytes - 1)) → ⊥) → Leads is_leading_byte_width_1 (at bytes (length bytes - 1))
  valid_utf8_last p n =
      let e = last_of bytes v p in
      let b = at bytes (length bytes - 1) in
      one_lead b (last_ascii bytes e.0 e.1 (λ f. n (a_continuation b (omega arith) (omega arith))))
