-- vstd's valid text and its characters are ours; and they meet vstd's own recursive equations.
use mathlib.Core.Path.{◌≡◌, refl, sym, ap, ◌∙◌, subst}
use mathlib.Core.Logic.{◌↔◌}
use mathlib.Core.List.{List, [], ◌∷◌}
use Prim.Native.Nat.{ℕ, zero, suc, ◌<◌, ◌≤◌}
use native.Mathlib.Omega.{arith}
use lib.Dec.{ltb}
use lib.ListN.{length, drop, length-drop}
use borrow.Author.Tests.{ltb-true, ltb-false}
use Rattle.theory_whole.proofs.Cases.{by_test}
use Rattle.theory_text.specs.Text.{Valid}
use Rattle.theory_text.specs.Table.{first}
use Rattle.theory_text.specs.Reading.{scalars, rest}
use Rattle.theory_text.proofs.Steps.{rest_stop, rest_step, scalars_stop, scalars_step}
use Rattle.theory_text.proofs.Unique.{rest_valid, valid_rest}
use Rattle.vstd_text.specs.Decoding.{ValidFirstScalar, decode_first_scalar, pop_first_scalar, ValidIn, ValidUtf8, decode_in, decode_utf8}
use Rattle.vstd_text.proofs.Decoding.{length_of_first_scalar_same, decode_first_scalar_same, valid_first_some, some_valid_first}

module _ (b : ℕ) (bs : List ℕ) (p : 0 < first (b ∷ bs)) where
  pub popped : pop_first_scalar (b ∷ bs) ≡ drop (first (b ∷ bs)) (b ∷ bs)
  popped = ap (λ (n : ℕ). drop n (b ∷ bs)) (sym (length_of_first_scalar_same (b ∷ bs) (some_valid_first (b ∷ bs) p)))

  pub popped_less : (n : ℕ) → suc (length bs) ≤ suc n → length (drop (first (b ∷ bs)) (b ∷ bs)) ≤ n
  popped_less n h = omega (arith, length-drop (first (b ∷ bs)) (b ∷ bs))

pub some_bytes : (b : ℕ) (bs : List ℕ) → rest (b ∷ bs) ≡ [] → 0 < first (b ∷ bs)
some_bytes b bs e =
    by_test (ltb 0 (first (b ∷ bs))) (λ t. ltb-true 0 (first (b ∷ bs)) t)
    (λ t. let z = ltb-false 0 (first (b ∷ bs)) t in
    let q : first (b ∷ bs) ≡ 0 = omega arith in
    absurd (omega (arith, ap length (sym (rest_stop (b ∷ bs) q) ∙ e))))

in_rest : (n : ℕ) (bytes : List ℕ) → length bytes ≤ n → ValidIn n bytes → rest bytes ≡ []
in_rest zero [] h v = rest_stop [] refl
in_rest zero (b ∷ bs) h v = absurd v
in_rest (suc n) [] h v = rest_stop [] refl
in_rest (suc n) (b ∷ bs) h v =
    let p = valid_first_some (b ∷ bs) v.0 in
    rest_step (b ∷ bs) p ∙ in_rest n (drop (first (b ∷ bs)) (b ∷ bs)) (popped_less b bs p n h) (subst (ValidIn n) (popped b bs p) v.1)

rest_in : (n : ℕ) (bytes : List ℕ) → length bytes ≤ n → rest bytes ≡ [] → ValidIn n bytes
rest_in zero [] h e = tt
rest_in zero (b ∷ bs) h e = absurd (omega arith)
rest_in (suc n) [] h e = tt
rest_in (suc n) (b ∷ bs) h e =
    let p = some_bytes b bs e in
    let behind = rest_in n (drop (first (b ∷ bs)) (b ∷ bs)) (popped_less b bs p n h) (sym (rest_step (b ∷ bs) p) ∙ e) in
    (some_valid_first (b ∷ bs) p, subst (ValidIn n) (sym (popped b bs p)) behind)

pub valid_utf8_same : (bytes : List ℕ) → ValidUtf8 bytes ↔ Valid bytes
valid_utf8_same bytes =
    (λ v. rest_valid bytes (in_rest (length bytes) bytes (omega arith) v), λ v. rest_in (length bytes) bytes (omega arith) (valid_rest bytes v))

decode_scalars : (n : ℕ) (bytes : List ℕ) → length bytes ≤ n → rest bytes ≡ [] → decode_in n bytes ≡ scalars bytes
unfolding decode_in
decode_scalars zero [] h e = sym (scalars_stop [] refl)
decode_scalars zero (b ∷ bs) h e = absurd (omega arith)
decode_scalars (suc n) [] h e = sym (scalars_stop [] refl)
decode_scalars (suc n) (b ∷ bs) h e =
    let p = some_bytes b bs e in
    let d = decode_scalars n (drop (first (b ∷ bs)) (b ∷ bs)) (popped_less b bs p n h) (sym (rest_step (b ∷ bs) p) ∙ e) in
    rw (popped b bs p, d, ← decode_first_scalar_same (b ∷ bs) (some_valid_first (b ∷ bs) p)) (sym (scalars_step (b ∷ bs) p))

pub decode_utf8_same : (bytes : List ℕ) → Valid bytes → decode_utf8 bytes ≡ scalars bytes
decode_utf8_same bytes v = decode_scalars (length bytes) bytes (omega arith) (valid_rest bytes v)

-- ---- vstd's recursion

-- `lemma_pop_first_scalar_decreases`
pub pop_first_scalar_decreases : (bytes : List ℕ) → ValidFirstScalar bytes → length (pop_first_scalar bytes) < length bytes
pop_first_scalar_decreases [] v = absurd (omega (arith, valid_first_some [] v))
pop_first_scalar_decreases (b ∷ bs) v =
    let p = valid_first_some (b ∷ bs) v in
    omega (arith, popped_less b bs p (length bs) (omega arith), ap length (popped b bs p))

-- a bound on the steps that the length meets is as good as the length
in_whole : (n : ℕ) (bytes : List ℕ) → length bytes ≤ n → ValidIn n bytes ↔ ValidUtf8 bytes
in_whole n bytes h = (
  λ v. rest_in (length bytes) bytes (omega arith) (in_rest n bytes h v),
  λ v. rest_in n bytes h (in_rest (length bytes) bytes (omega arith) v),
)

-- `valid_utf8`: vstd's equation
pub valid_utf8_is : (bytes : List ℕ) → ValidUtf8 bytes ↔ ((length bytes ≡ 0 → ⊥) → ValidFirstScalar bytes × ValidUtf8 (pop_first_scalar bytes))
valid_utf8_is [] = (λ v n. absurd (n refl), λ f. tt)
valid_utf8_is (b ∷ bs) = (
  λ v n. (v.0, (in_whole (length bs) (pop_first_scalar (b ∷ bs)) (shorter v.0)).0 v.1),
  λ f. let v = f (λ e. omega arith) in (v.0, (in_whole (length bs) (pop_first_scalar (b ∷ bs)) (shorter v.0)).1 v.1),
)
  where
    shorter : ValidFirstScalar (b ∷ bs) → length (pop_first_scalar (b ∷ bs)) ≤ length bs
    shorter v = omega (arith, pop_first_scalar_decreases (b ∷ bs) v)

-- `decode_utf8`: vstd's equation
pub decode_utf8_none : decode_utf8 [] ≡ []
unfolding decode_in
decode_utf8_none = refl

pub decode_utf8_is : (bytes : List ℕ) → ValidUtf8 bytes → (length bytes ≡ 0 → ⊥)
    → decode_utf8 bytes ≡ decode_first_scalar bytes ∷ decode_utf8 (pop_first_scalar bytes)
unfolding decode_in
decode_utf8_is [] v n = absurd (n refl)
decode_utf8_is (b ∷ bs) v n =
    let behind = pop_first_scalar (b ∷ bs) in
    let shorter : length behind ≤ length bs = omega (arith, pop_first_scalar_decreases (b ∷ bs) v.0) in
    let r = in_rest (length bs) behind shorter v.1 in
    ap (λ (l : List ℕ). decode_first_scalar (b ∷ bs) ∷ l)
    (decode_scalars (length bs) behind shorter r ∙ sym (decode_scalars (length behind) behind (omega arith) r))
