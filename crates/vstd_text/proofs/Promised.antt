-- The contracts of our functions on text give what the exports promise (specs/Promises.antt): `NAME-promised` for each.
use mathlib.Core.Path.{◌≡◌, sym, ap, ◌∙◌}
use mathlib.Core.Logic.{◌↔◌}
use mathlib.Core.Bool.{Bool, false}
use mathlib.Core.List.{List, ◌++◌}
use Prim.Native.Nat.{ℕ, ◌+◌, ◌≤◌}
use native.Mathlib.Omega.{arith}
use lib.ListN.{length, take}
use Rattle.theory_answers.specs.Says.{Says, Outcome}
use Rattle.theory_lists.specs.Part.{part, Within, Has}
use Rattle.theory_lists.specs.Written.{written}
use Rattle.theory_answers.proofs.Says.{says_alike, pinned_says, outcome_alike}
use Rattle.theory_text.specs.Scalar.{Scalar, len, form}
use Rattle.theory_text.specs.Text as text
use Rattle.theory_text.specs.Reading.{scalars, valid_to}
use Rattle.theory_text.specs.Text.{ReadIs}
use Rattle.theory_text.specs.Boundary.{Boundary, Splits}
use Rattle.theory_text.specs.WhiteSpace.{white_space}
use Rattle.theory_text.specs.Ascii.{Ascii}
use Rattle.theory_text.proofs.Unique.{scalars_are, encode_valid, take_valid_to, valid_to_length}
use Rattle.theory_text.proofs.Pieces.{longest}
use Rattle.theory_text.proofs.OneSequence.{ascii_by_scalars}
use Rattle.theory_text.proofs.Boundaries.{splits_valid, splits_boundary, boundary_splits}
use Rattle.vstd_text.specs.Decoding.{ValidUtf8}
use Rattle.vstd_text.specs.Places.{PartialValidUtf8}
use Rattle.vstd_text.specs.Characters.{is_white_space}
use Rattle.vstd_text.specs.Promises as promise
use Rattle.vstd_text.specs.Promises.{EncodingEnds}
use Rattle.vstd_text.proofs.Encoding.{scalar_is_scalar, is_scalar_scalar, encode_scalar_same, len_utf8_same}
use Rattle.vstd_text.proofs.Decoding.{begins_valid, valid_begins}
use Rattle.vstd_text.proofs.Whole.{valid_utf8_same, decode_utf8_same}
use Rattle.vstd_text.proofs.Places.{is_char_boundary_same}
use Rattle.vstd_text.proofs.Characters.{white_space_same, is_ascii_chars_same, ascii_block_same}

-- ---- one scalar value

pub scalar_len_promised : {ok : Bool} {v : ℕ} (c : ℕ) → Outcome ok (Scalar c) (v ≡ len c) (v ≡ 0) → promise.ScalarLen ok v c
scalar_len_promised c = outcome_alike (scalar_is_scalar c) (is_scalar_scalar c) (λ s e. e ∙ sym (len_utf8_same c s)) (λ e. search)

pub is_white_space_promised : (r : Bool) (c : ℕ) → Says r (Has c white_space) → promise.IsWhiteSpace r c
is_white_space_promised r c s = pinned_says r (is_white_space c) (Has c white_space) s (white_space_same c)

pub write_promised : {ok : Bool} {v : ℕ} {after : List ℕ} (before : List ℕ) (at c : ℕ)
    → Outcome ok (Scalar c × (at + len c ≤ length before)) ((v ≡ len c) × (after ≡ written before at (form c))) ((v ≡ 0) × (after ≡ before))
    → promise.Write ok v before after at c
write_promised before at c =
    outcome_alike (λ p. (scalar_is_scalar c p.0, rw (len_utf8_same c p.0) p.1))
    (λ q. let s = is_scalar_scalar c q.0 in (s, rw (len_utf8_same c s) at q.1))
    (λ p x.
    let size = x.0 ∙ sym (len_utf8_same c p.0) in
    let left = x.1 ∙ ap (written before at) (sym (encode_scalar_same c p.0)) in
    search)
    (λ y. search)

-- ---- the ends of a part

pub read_first_promised : {ok : Bool} {v n : ℕ} (s : List ℕ) (from to : ℕ)
    → ReadIs (λ c. Within from to s × text.Begins c (part from to s)) ok v n → promise.ReadFirst ok v n s from to
read_first_promised {v = v} s from to =
    outcome_alike (λ p. (p.1.0, (begins_valid (part from to s) p.0 p.1.1).0))
    (λ q. (_, (q.0, valid_begins (part from to s) q.1)))
    (λ p x.
    let value = (begins_valid (part from to s) v x.0.1).1.0 in
    let size = x.1 ∙ (begins_valid (part from to s) v x.0.1).1.1 in
    search)
    (λ y. search)

pub ends_same : (bytes : List ℕ) (c : ℕ) → EncodingEnds bytes c ↔ text.Ends c bytes
ends_same bytes c = (
  λ e. let s = is_scalar_scalar c e.0 in (s, (e.1.0, ap (λ (l : List ℕ). e.1.0 ++ l) (sym (encode_scalar_same c s)) ∙ e.1.1)),
  λ e. (scalar_is_scalar c e.0, (e.1.0, ap (λ (l : List ℕ). e.1.0 ++ l) (encode_scalar_same c e.0) ∙ e.1.1)),
)

pub read_last_promised : {ok : Bool} {v n : ℕ} (s : List ℕ) (from to : ℕ)
    → ReadIs (λ c. Within from to s × text.Ends c (part from to s)) ok v n → promise.ReadLast ok v n s from to
read_last_promised {v = v} s from to =
    outcome_alike (λ p. (p.1.0, (p.0, (ends_same (part from to s) p.0).1 p.1.1)))
    (λ q. (q.1.0, (q.0, (ends_same (part from to s) q.1.0).0 q.1.1)))
    (λ p x.
    let value = (ends_same (part from to s) v).1 x.0.1 in
    let size = x.1 ∙ sym (len_utf8_same v x.0.1.0) in
    search)
    (λ y. search)

-- ---- whole texts

module _ (s : List ℕ) where
  valid_to_lem : text.Valid s → ValidUtf8 s
  valid_to_lem = (valid_utf8_same s).1

  to_valid : ValidUtf8 s → text.Valid s
  to_valid = (valid_utf8_same s).0

  pub valid_promised : (r : Bool) → Says r (text.Valid s) → promise.Valid r s
  valid_promised r = says_alike r valid_to_lem to_valid

  pub count_promised : {ok : Bool} {v : ℕ} → Outcome ok (text.Valid s) (v ≡ length (scalars s)) (v ≡ 0) → promise.Count ok v s
  count_promised = outcome_alike valid_to_lem to_valid (λ y e. e ∙ ap length (sym (decode_utf8_same s y))) (λ e. search)

  pub is_boundary_promised : {ok : Bool} (v : Bool) (at : ℕ) → Outcome ok (text.Valid s) (Says v (Boundary s at)) (v ≡ false) → promise.IsBoundary ok v s at
  is_boundary_promised v at =
      outcome_alike valid_to_lem to_valid (λ y. says_alike v (is_char_boundary_same s y at).1 (is_char_boundary_same s y at).0) (λ e. search)

  pub split_at_promised : {ok : Bool} {m e : ℕ} (at : ℕ) → Outcome ok (Splits s at) ((m ≡ at) × (e ≡ length s)) ((m ≡ 0) × (e ≡ 0))
      → promise.SplitAt ok m e s at
  split_at_promised at =
      outcome_alike (λ p. let y = splits_valid s at p in (valid_to_lem y, (is_char_boundary_same s y at).1 (splits_boundary s at p)))
      (λ q. let y = to_valid q.0 in boundary_splits s y at ((is_char_boundary_same s y at).0 q.1))
      (λ p x. search)
      (λ y. search)

  pub is_ascii_promised : (r : Bool) → Says r (Ascii s) → promise.IsAscii r s
  is_ascii_promised r a = record {
    bytes = says_alike r (ascii_block_same s).1 (ascii_block_same s).0 a;
    chars = λ h.
        let y = to_valid h in
        let by = ascii_by_scalars s y in
        let chars = is_ascii_chars_same (scalars s) in
        rw (decode_utf8_same s y) (says_alike r (λ b. chars.1 (by.0 b)) (λ b. by.1 (chars.0 b)) a);
  }

  valid_to_there : PartialValidUtf8 s (valid_to s)
  valid_to_there = (omega (arith, valid_to_length s), (valid_utf8_same (take (valid_to s) s)).1 (rw (take_valid_to s) (encode_valid (scalars s) (scalars_are s))))

  pub valid_up_to_promised : (r : ℕ) → r ≡ valid_to s → promise.ValidUpTo r s
  valid_up_to_promised r e = rw e (record { valid = valid_to_there; most = λ i p. omega (arith, longest s i ((valid_utf8_same (take i s)).0 p.1) p.0) })
