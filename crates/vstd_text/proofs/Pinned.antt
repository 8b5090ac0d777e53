-- Nothing else keeps what the exports on text promise: two answers to one question, and two slices left behind, are equal. `NAME-pinned` for each.
use mathlib.Core.Path.{◌≡◌, refl, sym, ◌∙◌}
use mathlib.Core.Bool.{Bool}
use mathlib.Core.List.{List}
use Prim.Native.Nat.{ℕ}
use native.Mathlib.Omega.{arith}
use lib.ListN.{length}
use Rattle.theory_lists.specs.Part.{part}
use Rattle.theory_answers.proofs.Says.{pinned_says, pinned_outcome}
use Rattle.theory_text.specs.Reading.{valid_to}
use Rattle.vstd_text.specs.Promises as promise
use Rattle.vstd_text.specs.Places.{IsCharBoundary}
use Rattle.vstd_text.specs.Characters.{AsciiBlock}
use Rattle.vstd_text.proofs.Last.{decode_last_scalar_same}
use Rattle.vstd_text.proofs.Promised.{ends_same, valid_up_to_promised}

-- ---- one scalar value

pub scalar_len_pinned : {ok ok' : Bool} {v v' : ℕ} (c : ℕ) → promise.ScalarLen ok v c → promise.ScalarLen ok' v' c → (ok ≡ ok') × (v ≡ v')
scalar_len_pinned c o o' = pinned_outcome o o' (λ x x'. cc) (λ y y'. cc)

pub is_white_space_pinned : {r r' : Bool} (c : ℕ) → promise.IsWhiteSpace r c → promise.IsWhiteSpace r' c → r ≡ r'
is_white_space_pinned c p q = cc

pub write_pinned : {ok ok' : Bool} {v v' : ℕ} {after after' : List ℕ} (before : List ℕ) (at c : ℕ)
    → promise.Write ok v before after at c → promise.Write ok' v' before after' at c → (ok ≡ ok') × ((v ≡ v') × (after ≡ after'))
write_pinned before at c o o' = pinned_outcome o o' (λ x x'. (cc, cc)) (λ y y'. (cc, cc))

-- ---- the ends of a part

pub read_first_pinned : {ok ok' : Bool} {v v' n n' : ℕ} (s : List ℕ) (from to : ℕ)
    → promise.ReadFirst ok v n s from to → promise.ReadFirst ok' v' n' s from to → (ok ≡ ok') × ((v ≡ v') × (n ≡ n'))
read_first_pinned s from to o o' = pinned_outcome o o' (λ x x'. (cc, cc)) (λ y y'. (cc, cc))

-- two scalars whose encodings end the same bytes are one
pub encoding_ends_pinned : (bytes : List ℕ) (c d : ℕ) → promise.EncodingEnds bytes c → promise.EncodingEnds bytes d → c ≡ d
encoding_ends_pinned bytes c d p q =
    sym (decode_last_scalar_same bytes c ((ends_same bytes c).0 p)) ∙ decode_last_scalar_same bytes d ((ends_same bytes d).0 q)

pub read_last_pinned : {ok ok' : Bool} {v v' n n' : ℕ} (s : List ℕ) (from to : ℕ)
    → promise.ReadLast ok v n s from to → promise.ReadLast ok' v' n' s from to → (ok ≡ ok') × ((v ≡ v') × (n ≡ n'))
read_last_pinned {v = v} {v' = v'} s from to o o' =
    pinned_outcome o o' (λ x x'. let e = encoding_ends_pinned (part from to s) v v' x.0 x'.0 in (e, cc)) (λ y y'. (cc, cc))

-- ---- whole texts

module _ (s : List ℕ) where
  pub valid_pinned : (r r' : Bool) → promise.Valid r s → promise.Valid r' s → r ≡ r'
  valid_pinned r r' = pinned_says r r' _

  pub count_pinned : {ok ok' : Bool} {v v' : ℕ} → promise.Count ok v s → promise.Count ok' v' s → (ok ≡ ok') × (v ≡ v')
  count_pinned o o' = pinned_outcome o o' (λ x x'. cc) (λ y y'. cc)

  pub is_boundary_pinned : {ok ok' : Bool} (v v' : Bool) (at : ℕ) → promise.IsBoundary ok v s at → promise.IsBoundary ok' v' s at → (ok ≡ ok') × (v ≡ v')
  is_boundary_pinned v v' at o o' = pinned_outcome o o' (pinned_says v v' (IsCharBoundary s at)) (λ y y'. cc)

  pub split_at_pinned : {ok ok' : Bool} {m m' e e' : ℕ} (at : ℕ) → promise.SplitAt ok m e s at
      → promise.SplitAt ok' m' e' s at → (ok ≡ ok') × ((m ≡ m') × (e ≡ e'))
  split_at_pinned at o o' = pinned_outcome o o' (λ x x'. (cc, cc)) (λ y y'. (cc, cc))

  pub is_ascii_pinned : (r r' : Bool) → promise.IsAscii r s → promise.IsAscii r' s → r ≡ r'
  is_ascii_pinned r r' a a' = pinned_says r r' (AsciiBlock s 0 (length s)) a.bytes a'.bytes

  pub valid_up_to_pinned : {r r' : ℕ} → promise.ValidUpTo r s → promise.ValidUpTo r' s → r ≡ r'
  valid_up_to_pinned {r} {r'} p q = omega (arith, p.most r' q.valid, q.most r p.valid)

  pub valid_up_to_is : {r : ℕ} → promise.ValidUpTo r s → r ≡ valid_to s
  valid_up_to_is p = valid_up_to_pinned p (valid_up_to_promised s (valid_to s) refl)
