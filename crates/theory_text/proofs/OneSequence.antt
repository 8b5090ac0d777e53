-- What is asked of text, said of the one sequence of scalars that it is written from: its first, its last, the places between two of them, and whether all are
-- ASCII. How many there are is `started_valid`.
use mathlib.Core.Path.{◌≡◌, sym, ap, ◌∙◌, subst}
use mathlib.Core.Logic.{◌↔◌}
use mathlib.Core.List.{List, [], ◌∷◌, ◌++◌, append_assoc}
use Prim.Native.Nat.{ℕ, ◌<◌}
use native.Mathlib.Omega.{arith}
use lib.ListN.{length, take, drop, length-append, take-append-drop}
use lib.Seq.{take-append_seam}
use Rattle.theory_text.specs.Scalar.{Scalar, form}
use Rattle.theory_text.specs.Text.{Scalars, encode, Valid, Begins, Ends}
use Rattle.theory_text.specs.Reading.{scalars, rest}
use Rattle.theory_text.specs.Boundary.{place, Boundary, Splits}
use Rattle.theory_text.specs.Ascii.{Ascii}
use Rattle.theory_text.proofs.Sizes.{len_some}
use Rattle.theory_text.proofs.Unique.{parts, scalars_are, front, valid_encode}
use Rattle.theory_text.proofs.Pieces.{encode_push}
use Rattle.theory_text.proofs.Ends.{valid_ends, ends_unique, ends_length}
use Rattle.theory_text.proofs.Boundaries.{boundary_splits, splits_boundary}
use Rattle.theory_text.proofs.Ascii.{ascii_encode, scalars_ascii}

module _ (s : List ℕ) where
  -- the scalar that begins the bytes is the first
  pub begins_is_first : (c : ℕ) → Begins c s ↔ ((r : List ℕ) × (scalars s ≡ c ∷ r))
  begins_is_first c = (
    λ b. (scalars b.1.0, ap scalars (sym b.1.1) ∙ (front c b.1.0 b.0).0),
    λ p. (
      (subst Scalars p.1 (scalars_are s)).0,
      (
        encode p.0 ++ rest s,
        sym (append_assoc (form c) (encode p.0) (rest s)) ∙ ap (λ (l : List ℕ). encode l ++ rest s) (sym p.1) ∙ (parts s).whole,
      ),
    ),
  )

  -- a boundary stands between two parts of the sequence
  pub boundary_is_between : (at : ℕ) → Boundary s at ↔ ((a : List ℕ) × ((b : List ℕ) × ((a ++ b ≡ scalars s) × (at ≡ length (encode a)))))
  boundary_is_between at = (
    λ p. (take p.0 (scalars s), (drop p.0 (scalars s), (take-append-drop p.0 (scalars s), p.2))),
    λ p. (
      length p.0,
      omega (arith, ap length p.1.1.0, length-append p.0 p.1.0),
      p.1.1.1
          ∙ sym (ap (λ (l : List ℕ). place l (length p.0)) (sym p.1.1.0) ∙ ap (λ (l : List ℕ). length (encode l)) (take-append_seam p.0 p.1.0)),
    ),
  )

last_is_scalar : (cs : List ℕ) (c : ℕ) → Scalars (cs ++ c ∷ []) → Scalar c
last_is_scalar [] c s = s.0
last_is_scalar (b ∷ cs) c s = last_is_scalar cs c s.1

some_scalars : (cs : List ℕ) → 0 < length (encode cs) → 0 < length cs
some_scalars [] h = h
some_scalars (c ∷ cs) h = omega arith

module _ (s : List ℕ) (v : Valid s) where
  -- the scalar that ends the text is the last
  pub ends_is_last : (c : ℕ) → Ends c s ↔ ((r : List ℕ) × (scalars s ≡ r ++ c ∷ []))
  ends_is_last c = (
    λ e.
        let some : 0 < length (encode (scalars s)) = omega (arith, ap length (valid_encode s v), ends_length s c e, len_some c) in
        let l = valid_ends (scalars s) (scalars_are s) (some_scalars (scalars s) some) in
        let same : l.0 ≡ c = ends_unique s l.0 c (subst (Ends l.0) (valid_encode s v) l.1.1.1) e in
        (l.1.0, l.1.1.0 ∙ ap (λ (d : ℕ). l.1.0 ++ d ∷ []) same),
    λ p. (
      last_is_scalar p.0 c (subst Scalars p.1 (scalars_are s)),
      (
        encode p.0,
        sym (encode_push p.0 c) ∙ ap encode (sym p.1) ∙ valid_encode s v,
      ),
    ),
  )

  pub boundary_is_split : (at : ℕ) → Boundary s at ↔ Splits s at
  boundary_is_split at = (boundary_splits s v at, splits_boundary s at)

  pub ascii_by_scalars : Ascii s ↔ Ascii (scalars s)
  ascii_by_scalars = (
    λ a. subst Ascii (sym (scalars_ascii s a)) a,
    λ a. subst Ascii (sym (ascii_encode (scalars s) a) ∙ valid_encode s v) a,
  )
