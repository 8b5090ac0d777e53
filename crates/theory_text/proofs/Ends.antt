-- The scalar that text begins with and the one that it ends with: there is at most one of each, wherever the bytes come from.
use mathlib.Core.Path.{◌≡◌, refl, sym, ap, ◌∙◌}
use mathlib.Core.List.{List, [], ◌∷◌, ◌++◌, append-nil, append_assoc}
use Prim.Native.Nat.{ℕ, ◌+◌, ◌-◌, ◌/◌, ◌<◌, ◌≤◌}
use native.Mathlib.Omega.{arith}
use lib.Dec.{ltb}
use lib.ListN.{length, get_or, take, drop, length-append, length-drop, take-append-drop, drop_of_length-le}
use lib.Seq.{get_or-append-add, drop-append_seam}
use borrow.Author.Tests.{ltb-true, ltb-false, eqb-true, eqb-false}
use Rattle.theory_whole.proofs.Cases.{by_test}
use Rattle.theory_text.specs.Scalar.{len, form}
use Rattle.theory_text.specs.Text.{Scalars, encode, Begins, Ends}
use Rattle.theory_text.specs.Table.{first}
use Rattle.theory_text.specs.Reading.{decoded}
use Rattle.theory_text.specs.Boundary.{Back}
use Rattle.theory_text.proofs.Sizes.{Sized, in_one, in_two, in_three, in_four, sized, form_as, len_some, len_most, length_form}
use Rattle.theory_text.proofs.Steps.{first_scalar, first_len, first_form, form_first, form_value}
use Rattle.theory_text.proofs.Places.{Follows, inner_follows, first_not_follows}

-- ---- the front
pub first_begins : (s : List ℕ) → 0 < first s → Begins (decoded (first s) s) s
first_begins s p = (first_scalar s p, (drop (first s) s, first_form s p))

module _ (s : List ℕ) (c : ℕ) (b : Begins c s) where
  pub begins_first : first s ≡ len c
  begins_first = ap first (sym b.1.1) ∙ form_first c b.0 b.1.0

  pub begins_value : decoded (first s) s ≡ c
  begins_value = rw begins_first (ap (decoded (len c)) (sym b.1.1) ∙ form_value c b.0 b.1.0)

pub begins_unique : (s : List ℕ) (c d : ℕ) → Begins c s → Begins d s → c ≡ d
begins_unique s c d b e = sym (begins_value s c b) ∙ begins_value s d e

pub begins_none : (s : List ℕ) → first s ≡ 0 → (c : ℕ) → Begins c s → ⊥
begins_none s e c b = omega (arith, begins_first s c b, len_some c)

-- ---- the end: the bytes of the form, counted from behind
module _ (s : List ℕ) (c : ℕ) (e : Ends c s) where
  r : List ℕ
  r = e.1.0

  pub ends_length : length s ≡ length e.1.0 + len c
  ends_length = ap length (sym e.1.1) ∙ length-append e.1.0 (form c) ∙ ap (λ (n : ℕ). length e.1.0 + n) (length_form c)

  pub from_behind : (j : ℕ) → j ≤ len c → get_or s (length s - j) 0 ≡ get_or (form c ++ []) (len c - j) 0
  from_behind j h =
      let q : length s - j ≡ length e.1.0 + (len c - j) = omega (arith, ends_length) in
      ap (λ (n : ℕ). get_or s n 0) q ∙ ap (λ (l : List ℕ). get_or l (length e.1.0 + (len c - j)) 0) (sym e.1.1)
      ∙ get_or-append-add e.1.0 (form c) (len c - j) 0 ∙ ap (λ (l : List ℕ). get_or l (len c - j) 0) (sym (append-nil (form c)))

  pub behind_follows : (j : ℕ) → 0 < j → j < len c → Follows (get_or s (length s - j) 0)
  behind_follows j p h = rw (from_behind j (omega arith)) (inner_follows c [] (len c - j) (omega arith) (omega arith))

  pub ahead_not_follows : Follows (get_or s (length s - len c) 0) → ⊥
  ahead_not_follows f =
      let z : len c - len c ≡ 0 = omega arith in
      first_not_follows c [] (rw (from_behind (len c) (omega arith), z) at f)

  -- going back from the end finds where the form begins
  pub back_ends : (k : ℕ) → Back s k → k ≡ len c
  back_ends k b =
      by_test (ltb k (len c))
      (λ t. let h = ltb-true k (len c) t in
      absurd (eqb-false (get_or s (length s - k) 0 / 64) 2 (b.stops (omega (arith, len_most c)) (omega (arith, ends_length))) (behind_follows k b.some h)))
      (λ t. let h = ltb-false k (len c) t in
      by_test (ltb (len c) k)
      (λ t. absurd (ahead_not_follows (eqb-true (get_or s (length s - len c) 0 / 64) 2 (b.behind (len c) (len_some c) (ltb-true (len c) k t)))))
      (λ t. let l = ltb-false (len c) k t in omega arith))

  pub ends_form : drop (length s - len c) s ≡ form c
  ends_form =
      let q : length s - len c ≡ length e.1.0 = omega (arith, ends_length) in
      ap (λ (n : ℕ). drop n s) q ∙ ap (drop (length e.1.0)) (sym e.1.1) ∙ drop-append_seam e.1.0 (form c)

  pub ends_first : first (drop (length s - len c) s) ≡ len c
  ends_first = rw ends_form (ap first (sym (append-nil (form c))) ∙ form_first c e.0 [])

-- what stands behind the place, if it is one form, is the end
pub read_ends : (s : List ℕ) (k : ℕ) → 0 < k → k ≤ length s → first (drop (length s - k) s) ≡ k → Ends (decoded k (drop (length s - k) s)) s × (len (decoded k (drop (length s - k) s)) ≡ k)
read_ends s k p h e =
    let d = drop (length s - k) s in
    let q : 0 < first d = rw e p in
    let m : length s - (length s - k) ≡ k = omega arith in
    let n : length d ≤ first d = omega (arith, length-drop (length s - k) s) in
    let f : form (decoded (first d) d) ≡ d = sym (append-nil _) ∙ ap (λ (l : List ℕ). form (decoded (first d) d) ++ l) (sym (drop_of_length-le d n)) ∙ first_form d q in
    let g : Ends (decoded (first d) d) s = (first_scalar d q, (take (length s - k) s, ap (λ (l : List ℕ). take (length s - k) s ++ l) f ∙ take-append-drop (length s - k) s)) in
    (rw e at g, rw e at (first_len d q))

-- ---- text that is not empty ends with its last scalar
pub valid_ends : (cs : List ℕ) → Scalars cs → 0 < length cs → (c : ℕ) × ((ds : List ℕ) × ((cs ≡ ds ++ c ∷ []) × Ends c (encode cs)))
valid_ends [] s p = absurd (omega arith)
valid_ends (c ∷ []) s p = (c, ([], (refl, (s.0, ([], sym (append-nil (form c)))))))
valid_ends (b ∷ c ∷ cs) s p =
    let r = valid_ends (c ∷ cs) s.1 (omega arith) in
    let e = r.1.1.1 in
    (r.0, (b ∷ r.1.0, (ap (λ (l : List ℕ). b ∷ l) r.1.1.0, (e.0, (form b ++ e.1.0, append_assoc (form b) e.1.0 (form r.0) ∙ ap (λ (l : List ℕ). form b ++ l) e.1.1)))))

-- a shorter form would begin inside the longer one
pub ends_unique : (s : List ℕ) (c d : ℕ) → Ends c s → Ends d s → c ≡ d
ends_unique s c d e f =
    let not-less : len c < len d → ⊥ = λ h. ahead_not_follows s c e (behind_follows s d f (len c) (len_some c) h) in
    let not_more : len d < len c → ⊥ = λ h. ahead_not_follows s d f (behind_follows s c e (len d) (len_some d) h) in
    let same : len c ≡ len d = omega arith in
    let g : form c ≡ form d = sym (ends_form s c e) ∙ rw same (ends_form s d f) in
    begins_unique (form c) c d (e.0, ([], append-nil (form c))) (f.0, ([], append-nil (form d) ∙ sym g))

-- a last byte that is no 10xxxxxx is ASCII
pub last_ascii : (s : List ℕ) (c : ℕ) → Ends c s → (Follows (get_or s (length s - 1) 0) → ⊥) → get_or s (length s - 1) 0 < 0x80
last_ascii s c e n = by (sized c) refl
  where
    by : {k : ℕ} → Sized c k → len c ≡ k → get_or s (length s - 1) 0 < 0x80
    by (in_one h) q =
        let z : len c - 1 ≡ 0 = omega arith in
        let f : form c ≡ c ∷ [] = form_as (in_one h) in
        rw (from_behind s c e 1 (omega arith), z, f) h
    by (in_two l h) q = absurd (n (behind_follows s c e 1 (omega arith) (omega arith)))
    by (in_three l h) q = absurd (n (behind_follows s c e 1 (omega arith) (omega arith)))
    by (in_four l) q = absurd (n (behind_follows s c e 1 (omega arith) (omega arith)))
