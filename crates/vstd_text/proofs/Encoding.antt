-- vstd's scalars and its encoding are ours.
use mathlib.Core.Path.{◌≡◌, refl, sym, ap, ◌∙◌}
use mathlib.Core.Bool.{Bool, true, false, ◌||◌}
use mathlib.Core.List.{List, [], ◌∷◌, ◌++◌, append_assoc, append-nil}
use Prim.Native.Nat.{ℕ, zero, suc, ◌/◌, ◌%◌, ◌<◌, ◌≤◌}
use native.Mathlib.Omega.{arith}
use lib.ListN.{length, take, length-append}
use Rattle.theory_whole.proofs.Cases.{by_test}
use Rattle.theory_text.specs.Scalar.{Scalar, len, formed, form}
use Rattle.theory_text.specs.Text.{Scalars, encode}
use Rattle.theory_text.proofs.Sizes.{length_form, Sized, in_one, in_two, in_three, in_four, sized}
use Rattle.vstd_text.specs.Encoding.{has_width_1_encoding, has_width_2_encoding, has_width_3_encoding, has_width_4_encoding, is_scalar, encode_scalar}
use Rattle.vstd_text.specs.Encoding.{Chars, encode_utf8}
use Rattle.vstd_text.proofs.Operators.{leading_byte_width_1_is, leading_byte_width_2_is, leading_byte_width_3_is, leading_byte_width_4_is}
use Rattle.vstd_text.proofs.Operators.{last_continuation_byte_is, second_last_continuation_byte_is, third_last_continuation_byte_is}
use Rattle.vstd_text.proofs.Ranges.{width_one, not_one, width_two, not_two, width_three, three_width, not_three, width_four, four_width, not_four}

pub or_false : (t : Bool) → t || false ≡ t
or_false true = refl
or_false false = refl

-- ---- `is_scalar`

pub scalar_is_scalar : (v : ℕ) → Scalar v → is_scalar v ≡ true
unfolding is_scalar
scalar_is_scalar v s = by (sized v)
  where
    by : {n : ℕ} → Sized v n → is_scalar v ≡ true
    by (in_one h) = rw (width_one v h)
    by (in_two l h) = rw (not_one v (omega arith), width_two v l h)
    by (in_three l h) = rw (not_one v (omega arith), not_two v (omega arith), width_three v l h s.1)
    by (in_four l) = rw (not_one v (omega arith), not_two v (omega arith), not_three v l, width_four v l s.0)

pub is_scalar_scalar : (v : ℕ) → is_scalar v ≡ true → Scalar v
unfolding is_scalar
is_scalar_scalar v e = by (sized v)
  where
    by : {n : ℕ} → Sized v n → Scalar v
    by (in_one h) = (omega arith, λ s. omega arith)
    by (in_two l h) = (omega arith, λ s. omega arith)
    by (in_three l h) =
        let past : has_width_4_encoding v ≡ false = not_four v h in
        let t : has_width_3_encoding v || false ≡ true = rw (not_one v (omega arith), not_two v l, past) at e in
        (omega arith, three_width v (sym (or_false (has_width_3_encoding v)) ∙ t))
    by (in_four l) =
        let t : has_width_4_encoding v ≡ true = rw (not_one v (omega arith), not_two v (omega arith), not_three v l) at e in
        let p = four_width v t in
        (omega arith, λ s. omega arith)

-- ---- `encode_scalar`, `encode_utf8`

same_one : (c : ℕ) → c < 0x80 → encode_scalar c ≡ c ∷ []
unfolding encode_scalar
same_one c h =
    let e : c % 128 ≡ c = omega arith in
    rw (width_one c h, leading_byte_width_1_is c, e)

same_two : (c : ℕ) → 0x80 ≤ c → c < 0x800 → encode_scalar c ≡ formed 2 c
unfolding encode_scalar
same_two c l h =
    let e : c / 64 % 32 ≡ c / 64 = omega arith in
    rw (not_one c l, width_two c l h, leading_byte_width_2_is c, last_continuation_byte_is c, e)

same_three : (c : ℕ) → 0x800 ≤ c → c < 0x10000 → Scalar c → encode_scalar c ≡ formed 3 c
unfolding encode_scalar
same_three c l h s =
    let e : c / 64 / 64 % 16 ≡ c / 64 / 64 = omega arith in
    rw (
      not_one c (omega arith),
      not_two c l,
      width_three c l h s.1,
      leading_byte_width_3_is c,
      second_last_continuation_byte_is c,
      last_continuation_byte_is c,
      e,
    )

same_four : (c : ℕ) → 0x10000 ≤ c → c < 0x110000 → encode_scalar c ≡ formed 4 c
unfolding encode_scalar
same_four c l h =
    let e : c / 64 / 64 / 64 % 8 ≡ c / 64 / 64 / 64 = omega arith in
    rw (
      not_one c (omega arith),
      not_two c (omega arith),
      not_three c l,
      leading_byte_width_4_is c,
      third_last_continuation_byte_is c,
      second_last_continuation_byte_is c,
      last_continuation_byte_is c,
      e,
    )

pub encode_scalar_same : (c : ℕ) → Scalar c → encode_scalar c ≡ form c
encode_scalar_same c s = by (sized c) ∙ refl
  where
    by : {n : ℕ} → Sized c n → encode_scalar c ≡ formed n c
    by (in_one h) = same_one c h
    by (in_two l h) = same_two c l h
    by (in_three l h) = same_three c l h s
    by (in_four l) = same_four c l s.0

pub chars_scalars : (chars : List ℕ) → Chars chars → Scalars chars
chars_scalars [] h = tt
chars_scalars (c ∷ chars) h = (is_scalar_scalar c h.0, chars_scalars chars h.1)

pub scalars_chars : (chars : List ℕ) → Scalars chars → Chars chars
scalars_chars [] s = tt
scalars_chars (c ∷ chars) s = (scalar_is_scalar c s.0, scalars_chars chars s.1)

pub encode_utf8_same : (chars : List ℕ) → Scalars chars → encode_utf8 chars ≡ encode chars
unfolding encode_utf8
encode_utf8_same [] s = refl
encode_utf8_same (c ∷ chars) s = rw (encode_scalar_same c s.0, encode_utf8_same chars s.1)

-- `char::len_utf8`
pub len_utf8_same : (c : ℕ) → Scalar c → length (encode_scalar c) ≡ len c
len_utf8_same c s = ap length (encode_scalar_same c s) ∙ length_form c

-- ---- vstd's laws of encoding

-- `encode_utf8_concat`
pub encode_utf8_concat : (a b : List ℕ) → encode_utf8 (a ++ b) ≡ encode_utf8 a ++ encode_utf8 b
unfolding encode_utf8
encode_utf8_concat [] b = refl
encode_utf8_concat (c ∷ a) b =
    ap (λ (l : List ℕ). encode_scalar c ++ l) (encode_utf8_concat a b) ∙ sym (append_assoc (encode_scalar c) (encode_utf8 a) (encode_utf8 b))

-- `encode_utf8_push`
pub encode_utf8_push : (chars : List ℕ) (c : ℕ) → encode_utf8 (chars ++ c ∷ []) ≡ encode_utf8 chars ++ encode_scalar c
unfolding encode_utf8
encode_utf8_push chars c = encode_utf8_concat chars (c ∷ []) ∙ ap (λ (l : List ℕ). encode_utf8 chars ++ l) (append-nil (encode_scalar c))

encode_scalar_some : (c : ℕ) → 0 < length (encode_scalar c)
unfolding encode_scalar
encode_scalar_some c =
    by_test (has_width_1_encoding c) (λ t. rw t (omega arith))
    (λ t. by_test (has_width_2_encoding c) (λ u. rw (t, u) (omega arith))
    (λ u. by_test (has_width_3_encoding c) (λ w. rw (t, u, w) (omega arith)) (λ w. rw (t, u, w) (omega arith))))

-- `lemma_encode_utf8_len_strictly_monotonic`
pub encode_utf8_len_strictly_monotonic : (s : List ℕ) (i j : ℕ) → i < j → j ≤ length s → length (encode_utf8 (take i s)) < length (encode_utf8 (take j s))
unfolding encode_utf8
encode_utf8_len_strictly_monotonic s i zero h l = absurd (omega arith)
encode_utf8_len_strictly_monotonic [] i (suc j) h l = absurd (omega arith)
encode_utf8_len_strictly_monotonic (c ∷ s) zero (suc j) h l = omega (arith, encode_scalar_some c, length-append (encode_scalar c) (encode_utf8 (take j s)))
encode_utf8_len_strictly_monotonic (c ∷ s) (suc i) (suc j) h l =
    omega (
      arith,
      encode_utf8_len_strictly_monotonic s i j (omega arith) (omega arith),
      length-append (encode_scalar c) (encode_utf8 (take i s)),
      length-append (encode_scalar c) (encode_utf8 (take j s)),
    )
