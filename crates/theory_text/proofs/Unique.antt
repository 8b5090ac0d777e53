-- Bytes are the forms of the scalars that are read and a rest at which none begins, in only one way. So valid bytes are written from one sequence: the one that is read.
use mathlib.Core.Path.{◌≡◌, refl, sym, ap, ◌∙◌}
use mathlib.Core.List.{List, [], ◌∷◌, ◌++◌, append_assoc, append-nil}
use Prim.Native.Nat.{ℕ, ◌+◌, ◌<◌, ◌≤◌}
use native.Mathlib.Omega.{arith}
use lib.ListN.{length, take, drop, length-append, length-drop}
use lib.Seq.{take-append_seam, drop-append_seam}
use Rattle.theory_text.specs.Scalar.{Scalar, form}
use Rattle.theory_text.specs.Text.{Scalars, encode, Valid}
use Rattle.theory_text.specs.Table.{first}
use Rattle.theory_text.specs.Reading.{scalars, rest, valid_to}
use Rattle.theory_text.proofs.Sizes.{len_some}
use Rattle.theory_text.proofs.Steps.{first_scalar, first_form, form_first, form_value, drop_form, rest_stop, rest_step, scalars_stop, scalars_step}
use Rattle.theory_text.proofs.Steps.{along}

pub record Parts (bs cs r : List ℕ) : Type 0 where
  pub whole : encode cs ++ r ≡ bs
  pub each : Scalars cs
  pub stuck : first r ≡ 0

pub parts : (bs : List ℕ) → Parts bs (scalars bs) (rest bs)
parts =
    along (λ bs. Parts bs (scalars bs) (rest bs))
    (λ bs e. rw (scalars_stop bs e, rest_stop bs e) (record { whole = refl; each = tt; stuck = e }))
    (λ bs p q.
    rw (scalars_step bs p, rest_step bs p)
    (record { whole = rw (append_assoc, q.whole) (first_form bs p); each = (first_scalar bs p, q.each); stuck = q.stuck }))

pub scalars_are : (bs : List ℕ) → Scalars (scalars bs)
scalars_are bs = (parts bs).each

-- a scalar in front is the first that is read
pub front : (c : ℕ) (r : List ℕ) → Scalar c → (scalars (form c ++ r) ≡ c ∷ scalars r) × (rest (form c ++ r) ≡ rest r)
front c r s =
    let f = form_first c s r in
    let p : 0 < first (form c ++ r) = rw f (len_some c) in
    (scalars_step (form c ++ r) p ∙ rw (f, drop_form c s r, form_value c s r), rest_step (form c ++ r) p ∙ rw (f, drop_form c s r))

-- scalars in front are the first that are read
pub fronts : (cs r : List ℕ) → Scalars cs → (scalars (encode cs ++ r) ≡ cs ++ scalars r) × (rest (encode cs ++ r) ≡ rest r)
fronts [] r s = (refl, refl)
fronts (c ∷ cs) r s =
    let f = front c (encode cs ++ r) s.0 in
    let g = fronts cs r s.1 in
    (rw (append_assoc, f.0, g.0), rw (append_assoc, f.1) g.1)

pub only_parts : (bs cs r : List ℕ) → Parts bs cs r → (scalars bs ≡ cs) × (rest bs ≡ r)
only_parts bs cs r p =
    let f = fronts cs r p.each in
    (ap scalars (sym p.whole) ∙ f.0 ∙ rw (scalars_stop r p.stuck) (append-nil cs), ap rest (sym p.whole) ∙ f.1 ∙ rest_stop r p.stuck)

-- ---- valid text
pub encode_scalars : (cs : List ℕ) → Scalars cs → scalars (encode cs) ≡ cs
encode_scalars cs s = (only_parts (encode cs) cs [] (record { whole = append-nil (encode cs); each = s; stuck = refl })).0

pub encode_valid : (cs : List ℕ) → Scalars cs → Valid (encode cs)
encode_valid cs s = (cs, s, refl)

-- there is only one sequence, and it is read from the front
pub unique : (bs : List ℕ) (v : Valid bs) → v.0 ≡ scalars bs
unique bs v = rw (← v.2) (sym (encode_scalars v.0 v.1))

pub valid_encode : (bs : List ℕ) → Valid bs → encode (scalars bs) ≡ bs
valid_encode bs v = ap encode (sym (unique bs v)) ∙ v.2

pub valid_rest : (bs : List ℕ) → Valid bs → rest bs ≡ []
valid_rest bs v = (only_parts bs v.0 [] (record { whole = append-nil (encode v.0) ∙ v.2; each = v.1; stuck = refl })).1

pub rest_valid : (bs : List ℕ) → rest bs ≡ [] → Valid bs
rest_valid bs e = (scalars bs, scalars_are bs, sym (append-nil (encode (scalars bs))) ∙ rw e at (parts bs).whole)

-- two sequences with one encoding are one
pub encode_injective : (cs ds : List ℕ) → Scalars cs → Scalars ds → encode cs ≡ encode ds → cs ≡ ds
encode_injective cs ds s t e = sym (encode_scalars cs s) ∙ ap scalars e ∙ encode_scalars ds t

-- ---- how far the text is valid
module _ (s : List ℕ) where
  pub take_valid_to : take (valid_to s) s ≡ encode (scalars s)
  take_valid_to = ap (take (valid_to s)) (sym (parts s).whole) ∙ take-append_seam (encode (scalars s)) (rest s)

  pub drop_valid_to : drop (valid_to s) s ≡ rest s
  drop_valid_to = ap (drop (valid_to s)) (sym (parts s).whole) ∙ drop-append_seam (encode (scalars s)) (rest s)

  pub valid_to_length : valid_to s + length (rest s) ≡ length s
  valid_to_length = sym (length-append (encode (scalars s)) (rest s)) ∙ ap length (parts s).whole

  -- a place behind which just the rest is left
  pub read_to : (at : ℕ) → at ≤ length s → drop at s ≡ rest s → at ≡ valid_to s
  read_to at h e = omega (arith, ap length e, length-drop at s, valid_to_length)

  pub valid_all : Valid s → valid_to s ≡ length s
  valid_all v = omega (arith, ap length (valid_rest s v), valid_to_length)

  pub all_valid : valid_to s ≡ length s → Valid s
  all_valid e = rest_valid s (none (rest s) (omega (arith, valid_to_length)))
    where
      none : (l : List ℕ) → length l ≡ 0 → l ≡ []
      none [] h = refl
      none (x ∷ l) h = absurd (omega arith)
