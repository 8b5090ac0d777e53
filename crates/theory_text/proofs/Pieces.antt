-- Text in pieces: what is read of t ++ u is what is read of t, and then of t's rest with u behind it.
use mathlib.Core.Path.{◌≡◌, refl, sym, ap, ◌∙◌}
use mathlib.Core.List.{List, [], ◌∷◌, ◌++◌, append_assoc, append-nil}
use Prim.Native.Nat.{ℕ, ◌+◌, ◌<◌, ◌≤◌}
use native.Mathlib.Omega.{arith}
use lib.ListN.{length, take, drop, length-append, take-append-drop}
use lib.Seq.{take-add, take_at, length-take-le}
use Rattle.theory_text.specs.Scalar.{Scalar, form}
use Rattle.theory_text.specs.Text.{encode, Valid}
use Rattle.theory_text.specs.Table.{first}
use Rattle.theory_text.specs.Reading.{decoded, scalars, rest, valid_to, ReadFrom}
use Rattle.theory_text.proofs.Sizes.{length_form}
use Rattle.theory_text.proofs.Steps.{first_scalar, first_form, first_len}
use Rattle.theory_text.proofs.Unique.{parts, scalars_are, fronts, valid_encode, valid_rest, rest_valid}

-- ---- writing in pieces
pub encode_append : (cs ds : List ℕ) → encode (cs ++ ds) ≡ encode cs ++ encode ds
encode_append [] ds = refl
encode_append (c ∷ cs) ds = rw (encode_append cs ds, append_assoc)

pub encode_push : (cs : List ℕ) (c : ℕ) → encode (cs ++ c ∷ []) ≡ encode cs ++ form c
encode_push cs c = encode_append cs (c ∷ []) ∙ ap (λ (l : List ℕ). encode cs ++ l) (append-nil (form c))

-- ---- reading in pieces
module _ (t u : List ℕ) where
  joined : t ++ u ≡ encode (scalars t) ++ (rest t ++ u)
  joined = ap (λ (l : List ℕ). l ++ u) (sym (parts t).whole) ∙ append_assoc (encode (scalars t)) (rest t) u

  pub scalars_pieces : scalars (t ++ u) ≡ scalars t ++ scalars (rest t ++ u)
  scalars_pieces = ap scalars joined ∙ (fronts (scalars t) (rest t ++ u) (scalars_are t)).0

  pub rest_pieces : rest (t ++ u) ≡ rest (rest t ++ u)
  rest_pieces = ap rest joined ∙ (fronts (scalars t) (rest t ++ u) (scalars_are t)).1

  -- behind text, all is as if it stood alone
  module _ (v : Valid t) where
    pub scalars_behind : scalars (t ++ u) ≡ scalars t ++ scalars u
    scalars_behind = scalars_pieces ∙ ap (λ (l : List ℕ). scalars t ++ scalars (l ++ u)) (valid_rest t v)

    pub rest_behind : rest (t ++ u) ≡ rest u
    rest_behind = rest_pieces ∙ ap (λ (l : List ℕ). rest (l ++ u)) (valid_rest t v)

    pub valid_append : Valid u → Valid (t ++ u)
    valid_append w = rest_valid (t ++ u) (rest_behind ∙ valid_rest u w)

    pub valid_behind : Valid (t ++ u) → Valid u
    valid_behind w = rest_valid u (sym rest_behind ∙ valid_rest (t ++ u) w)

    -- the text reaches at least that far
    pub valid_to_behind : valid_to (t ++ u) ≡ length t + valid_to u
    valid_to_behind =
        ap (λ (l : List ℕ). length (encode l)) scalars_behind ∙ ap length (encode_append (scalars t) (scalars u))
        ∙ length-append (encode (scalars t)) (encode (scalars u)) ∙ ap (λ (l : List ℕ). length l + valid_to u) (valid_encode t v)

-- ---- one list, cut at a place
module _ (s : List ℕ) (at : ℕ) (v : Valid (take at s)) where
  whole : take at s ++ drop at s ≡ s
  whole = take-append-drop at s

  -- the place up to which text is read is the last one
  pub longest : at ≤ length s → at ≤ valid_to s
  longest h = omega (arith, length-take-le at s h, ap valid_to whole, valid_to_behind (take at s) (drop at s) v)

  pub valid_cut : Valid s → Valid (drop at s)
  valid_cut w = valid_behind (take at s) (drop at s) v (rw whole w)

  pub valid_joined : Valid (drop at s) → Valid s
  valid_joined w = rw whole at (valid_append (take at s) (drop at s) v w)

  pub read_from : at ≤ length s → ReadFrom s at
  read_from h = record { inside = h; same = sym (rw whole at (rest_behind (take at s) (drop at s) v)) }

  pub scalars_cut : scalars s ≡ scalars (take at s) ++ scalars (drop at s)
  scalars_cut = rw whole at (scalars_behind (take at s) (drop at s) v)

pub form_valid : (c : ℕ) → Scalar c → Valid (form c)
form_valid c s = (c ∷ [], (s, tt), append-nil (form c))

-- the bytes of the first scalar
pub take_first : (bs : List ℕ) → 0 < first bs → take (first bs) bs ≡ form (decoded (first bs) bs)
take_first bs p =
    ap (take (first bs)) (sym (first_form bs p)) ∙ take_at (form (decoded (first bs) bs)) (drop (first bs) bs) (first bs) (length_form (decoded (first bs) bs) ∙ first_len bs p)

-- one scalar more
pub valid_extend : (s : List ℕ) (at : ℕ) → Valid (take at s) → 0 < first (drop at s) → Valid (take (at + first (drop at s)) s)
valid_extend s at v p =
    rw (take-add at (first (drop at s)) s, take_first (drop at s) p)
    (valid_append (take at s) (form (decoded (first (drop at s)) (drop at s))) v (form_valid (decoded (first (drop at s)) (drop at s)) (first_scalar (drop at s) p)))
