-- What the exports on text promise gives vstd's clause, where vstd's demands are met: `NAME-kept` for each.
use mathlib.Core.Path.{◌≡◌, sym, ap, ◌∙◌, subst}
use mathlib.Core.Logic.{◌↔◌}
use mathlib.Core.Bool.{Bool, true}
use mathlib.Core.List.{List}
use Prim.Native.Nat.{ℕ, ◌+◌, ◌≤◌, ◌<◌}
use native.Mathlib.Omega.{arith}
use lib.ListN.{length, take, drop}
use lib.Seq.{take-length}
use Rattle.theory_answers.specs.Says.{Says}
use Rattle.theory_lists.specs.Part.{part, Within}
use Rattle.theory_lists.specs.Written.{written}
use Rattle.theory_answers.proofs.Says.{says_true, true_where, ok_where}
use Rattle.vstd_text.specs.Decoding.{ValidFirstScalar, decode_first_scalar, length_of_first_scalar, ValidUtf8, decode_utf8, length_of_last_scalar}
use Rattle.vstd_text.specs.Decoding.{decode_last_scalar}
use Rattle.vstd_text.specs.Encoding.{is_scalar, encode_scalar}
use Rattle.vstd_text.specs.Places.{IsCharBoundary}
use Rattle.vstd_text.specs.Characters.{IsAsciiChars, is_white_space}
use Rattle.vstd_text.specs.Promises as promise
use Rattle.vstd_text.proofs.Encoding.{len_utf8_same}
use Rattle.vstd_text.proofs.Whole.{valid_utf8_same}
use Rattle.vstd_text.proofs.Last.{last_of, length_of_last_scalar_same, decode_last_scalar_same}
use Rattle.vstd_text.proofs.Boundaries.{valid_utf8_split}
use Rattle.vstd_text.proofs.Promised.{ends_same}

-- a test that says P is true exactly where P holds
says_iff : (r : Bool) {P : Type 0} → Says r P → (r ≡ true) ↔ P
says_iff r s = (says_true s, true_where r s)

-- ---- one scalar value

-- `char::len_utf8`
pub scalar_len_kept : {ok : Bool} {v : ℕ} (c : ℕ) → promise.ScalarLen ok v c → is_scalar c ≡ true → (ok ≡ true) × (v ≡ length (encode_scalar c))
scalar_len_kept c o = ok_where o

-- `char::is_whitespace`
pub is_white_space_kept : {r : Bool} (c : ℕ) → promise.IsWhiteSpace r c → r ≡ is_white_space c
is_white_space_kept c e = e

-- `encode_scalar`
pub write_kept : {ok : Bool} {v : ℕ} {after : List ℕ} (before : List ℕ) (at c : ℕ) → promise.Write ok v before after at c
    → is_scalar c ≡ true → at + length (encode_scalar c) ≤ length before
    → (ok ≡ true) × ((v ≡ length (encode_scalar c)) × (after ≡ written before at (encode_scalar c)))
write_kept before at c o s h = ok_where o (s, h)

-- ---- the ends of a part

-- `decode_first_scalar`, `length_of_first_scalar`
pub read_first_kept : {ok : Bool} {v n : ℕ} (s : List ℕ) (from to : ℕ) → promise.ReadFirst ok v n s from to
    → Within from to s → ValidFirstScalar (part from to s)
    → (ok ≡ true) × ((v ≡ decode_first_scalar (part from to s)) × (n ≡ length_of_first_scalar (part from to s)))
read_first_kept s from to o w h = ok_where o (w, h)

-- `decode_last_scalar`, `length_of_last_scalar`
pub read_last_kept : {ok : Bool} {v n : ℕ} (s : List ℕ) (from to : ℕ) → promise.ReadLast ok v n s from to
    → Within from to s → ValidUtf8 (part from to s) → 0 < length (part from to s)
    → (ok ≡ true) × ((v ≡ decode_last_scalar (part from to s)) × (n ≡ length_of_last_scalar (part from to s)))
read_last_kept {v = v} {n = n} s from to o w h p =
    let e = last_of (part from to s) ((valid_utf8_same (part from to s)).0 h) p in
    let g = ok_where o (w, (e.0, (ends_same (part from to s) e.0).1 e.1)) in
    let ends = (ends_same (part from to s) v).0 g.1.0 in
    let size : n ≡ length (encode_scalar v) = search in (
      g.0,
      (sym (decode_last_scalar_same (part from to s) v ends), size ∙ len_utf8_same v ends.0 ∙ sym (length_of_last_scalar_same (part from to s) v ends)),
    )

-- ---- whole texts

module _ (s : List ℕ) where
  -- `valid_utf8`
  pub valid_kept : (r : Bool) → promise.Valid r s → (r ≡ true) ↔ ValidUtf8 s
  valid_kept r = says_iff r

  -- `decode_utf8`
  pub count_kept : {ok : Bool} {v : ℕ} → promise.Count ok v s → ValidUtf8 s → (ok ≡ true) × (v ≡ length (decode_utf8 s))
  count_kept o = ok_where o

  -- `is_char_boundary`
  pub is_boundary_kept : {ok : Bool} (v : Bool) (at : ℕ) → promise.IsBoundary ok v s at → ValidUtf8 s → (ok ≡ true) × ((v ≡ true) ↔ IsCharBoundary s at)
  is_boundary_kept v at o h = let g = ok_where o h in (g.0, says_iff v g.1)

  -- `valid_utf8_split`
  pub split_at_kept : {ok : Bool} {m e : ℕ} (at : ℕ) → promise.SplitAt ok m e s at → ValidUtf8 s → IsCharBoundary s at
      → (ok ≡ true) × ((m ≡ at) × (ValidUtf8 (take m s) × ValidUtf8 (drop m s)))
  split_at_kept {m = m} at o h b =
      let g = ok_where o (h, b) in
      let there : m ≡ at = search in
      (g.0, (there, rw there (valid_utf8_split s h at b)))

  -- `is_ascii_chars`
  pub is_ascii_kept : (r : Bool) → promise.IsAscii r s → ValidUtf8 s → (r ≡ true) ↔ IsAsciiChars (decode_utf8 s)
  is_ascii_kept r a h = says_iff r (a.chars h)

  -- `valid_utf8`, where the whole text is valid
  pub valid_up_to_kept : {r : ℕ} → promise.ValidUpTo r s → (r ≡ length s) ↔ ValidUtf8 s
  valid_up_to_kept {r} p = (
    λ e. subst ValidUtf8 (ap (λ (n : ℕ). take n s) e ∙ take-length s) p.valid.1,
    λ h. omega (arith, p.valid.0, p.most (length s) (omega arith, subst ValidUtf8 (sym (take-length s)) h)),
  )
