-- Reading from the front, one scalar at a time; and induction along the scalars that are read.
use mathlib.Core.Path.{◌≡◌, refl, sym, ap, ◌∙◌}
use mathlib.Core.List.{List, [], ◌∷◌, ◌++◌}
use Prim.Native.Nat.{ℕ, zero, suc, ◌+◌, ◌<◌, ◌≤◌}
use native.Mathlib.Omega.{arith}
use lib.ListN.{length, drop, length-append, length-drop, drop_of_length-le}
use lib.Seq.{drop_at, drop-drop}
use Rattle.theory_text.specs.Scalar.{Scalar, len, form}
use Rattle.theory_text.specs.Table.{first}
use Rattle.theory_text.specs.Reading.{decoded, scalars_from, rest_from, scalars, rest}
use Rattle.theory_text.proofs.Sizes.{sized, len_is, length_form, form_as}
use Rattle.theory_text.proofs.Forms.{read, written_first, written_value}

-- ---- the first scalar
pub first_scalar : (bs : List ℕ) → 0 < first bs → Scalar (decoded (first bs) bs)
first_scalar bs p = (read bs p).scalar

pub first_len : (bs : List ℕ) → 0 < first bs → len (decoded (first bs) bs) ≡ first bs
first_len bs p = len_is (read bs p).size

pub first_form : (bs : List ℕ) → 0 < first bs → form (decoded (first bs) bs) ++ drop (first bs) bs ≡ bs
first_form bs p = ap (λ (l : List ℕ). l ++ drop (first bs) bs) (form_as (read bs p).size) ∙ (read bs p).whole

pub first_within : (bs : List ℕ) → first bs ≤ length bs
first_within bs = go (first bs) refl
  where
    go : (n : ℕ) → first bs ≡ n → n ≤ length bs
    go zero e = omega arith
    go (suc n) e =
        let p : 0 < first bs = omega arith in
        omega (arith, ap length (first_form bs p), length-append (form (decoded (first bs) bs)) (drop (first bs) bs), length_form (decoded (first bs) bs), first_len bs p)

module _ (c : ℕ) (s : Scalar c) (r : List ℕ) where
  pub form_first : first (form c ++ r) ≡ len c
  form_first = written_first (sized c) s r

  pub form_value : decoded (len c) (form c ++ r) ≡ c
  form_value = written_value (sized c) s r

  pub drop_form : drop (len c) (form c ++ r) ≡ r
  drop_form = drop_at (form c) r (len c) (length_form c)

-- ---- the scalars and the rest, by one step
rest_skip : (k : ℕ) (bs : List ℕ) → rest_from k bs ≡ rest (drop k bs)
unfolding rest_from
rest_skip zero bs = refl
rest_skip (suc k) [] = refl
rest_skip (suc k) (b ∷ bs) = rest_skip k bs

scalars_skip : (k : ℕ) (bs : List ℕ) → scalars_from k bs ≡ scalars (drop k bs)
unfolding scalars_from
scalars_skip zero bs = refl
scalars_skip (suc k) [] = refl
scalars_skip (suc k) (b ∷ bs) = scalars_skip k bs

pub rest_stop : (bs : List ℕ) → first bs ≡ 0 → rest bs ≡ bs
unfolding rest_from
rest_stop [] e = refl
rest_stop (b ∷ bs) e = rw (e, rest_from)

pub rest_step : (bs : List ℕ) → 0 < first bs → rest bs ≡ rest (drop (first bs) bs)
unfolding rest_from
rest_step [] h = refl
rest_step (b ∷ bs) h = go (first (b ∷ bs)) refl h
  where
    go : (n : ℕ) → first (b ∷ bs) ≡ n → 0 < n → rest (b ∷ bs) ≡ rest (drop n (b ∷ bs))
    go zero e p = absurd (omega arith)
    go (suc k) e p = rw (e, rest_from) (rest_skip k bs)

pub scalars_stop : (bs : List ℕ) → first bs ≡ 0 → scalars bs ≡ []
unfolding scalars_from
scalars_stop [] e = refl
scalars_stop (b ∷ bs) e = rw (e, scalars_from)

pub scalars_step : (bs : List ℕ) → 0 < first bs → scalars bs ≡ decoded (first bs) bs ∷ scalars (drop (first bs) bs)
unfolding scalars_from
scalars_step [] h = absurd (omega arith)
scalars_step (b ∷ bs) h = go (first (b ∷ bs)) refl h
  where
    go : (n : ℕ) → first (b ∷ bs) ≡ n → 0 < n → scalars (b ∷ bs) ≡ decoded n (b ∷ bs) ∷ scalars (drop n (b ∷ bs))
    go zero e p = absurd (omega arith)
    go (suc k) e p = rw (e, scalars_from) (ap (λ (l : List ℕ). decoded (suc k) (b ∷ bs) ∷ l) (scalars_skip k bs))

-- ---- the same by places
pub rest_next : (s : List ℕ) (at : ℕ) → 0 < first (drop at s) → rest (drop (at + first (drop at s)) s) ≡ rest (drop at s)
rest_next s at h = rw (← drop-drop (first (drop at s)) at s) (sym (rest_step (drop at s) h))

pub next_within : (s : List ℕ) (at : ℕ) → at ≤ length s → at + first (drop at s) ≤ length s
next_within s at h = omega (arith, first_within (drop at s), length-drop at s)

pub rest_end : (s : List ℕ) (at : ℕ) → length s ≤ at → rest (drop at s) ≡ drop at s
rest_end s at h = rest_stop (drop at s) (rw (drop_of_length-le s h))

-- ---- induction along the scalars that are read
pub along : (P : List ℕ → Type 0) → ((bs : List ℕ) → first bs ≡ 0 → P bs)
    → ((bs : List ℕ) → 0 < first bs → P (drop (first bs) bs) → P bs) → (bs : List ℕ) → P bs
along P stop step bs = go bs 0
  where
    go : (l : List ℕ) (k : ℕ) → P (drop k l)
    go [] zero = stop [] refl
    go [] (suc k) = stop [] refl
    go (b ∷ l) (suc k) = go l k
    go (b ∷ l) zero = pick (first (b ∷ l)) refl (go l)
      where
        pick : (n : ℕ) → first (b ∷ l) ≡ n → ((k : ℕ) → P (drop k l)) → P (b ∷ l)
        pick zero e f = stop (b ∷ l) e
        pick (suc k) e f = step (b ∷ l) (omega arith) (rw e (f k))
