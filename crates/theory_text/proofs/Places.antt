-- The places between scalars: where each begins, and how its bytes tell.
use mathlib.Core.Path.{◌≡◌, refl, sym, ap, ◌∙◌}
use mathlib.Core.List.{List, [], ◌∷◌, ◌++◌}
use Prim.Native.Nat.{ℕ, zero, suc, ◌+◌, ◌-◌, ◌/◌, ◌<◌, ◌≤◌}
use native.Mathlib.Omega.{arith}
use lib.Dec.{ltb}
use lib.ListN.{length, get_or, take, drop, length-append}
use lib.Seq.{get_or-append-add, drop-append-add, take-append-add, take-length}
use borrow.Author.Tests.{ltb-true, ltb-false}
use Rattle.theory_whole.proofs.Cases.{by_test}
use Rattle.theory_text.specs.Scalar.{len, formed, form}
use Rattle.theory_text.specs.Text.{encode}
use Rattle.theory_text.specs.Boundary.{place}
use Rattle.theory_text.proofs.Sizes.{Sized, in_one, in_two, in_three, in_four, sized, len_some, length_form}

-- ---- the bytes of a form: those behind its first are 10xxxxxx, and the first is not
abbrev pub Follows : ℕ → Type 0
Follows b = b / 64 ≡ 2

inner_formed : {c n : ℕ} → Sized c n → (r : List ℕ) (i : ℕ) → 0 < i → i < n → Follows (get_or (formed n c ++ r) i 0)
inner_formed k r zero p h = absurd (omega arith)
inner_formed (in_one a) r (suc i) p h = absurd (omega arith)
inner_formed (in_two a b) r (suc zero) p h = omega arith
inner_formed (in_two a b) r (suc (suc i)) p h = absurd (omega arith)
inner_formed (in_three a b) r (suc zero) p h = omega arith
inner_formed (in_three a b) r (suc (suc zero)) p h = omega arith
inner_formed (in_three a b) r (suc (suc (suc i))) p h = absurd (omega arith)
inner_formed (in_four a) r (suc zero) p h = omega arith
inner_formed (in_four a) r (suc (suc zero)) p h = omega arith
inner_formed (in_four a) r (suc (suc (suc zero))) p h = omega arith
inner_formed (in_four a) r (suc (suc (suc (suc i)))) p h = absurd (omega arith)

outer_formed : {c n : ℕ} → Sized c n → (r : List ℕ) → Follows (get_or (formed n c ++ r) 0 0) → ⊥
outer_formed (in_one a) r e = omega arith
outer_formed (in_two a b) r e = omega arith
outer_formed (in_three a b) r e = omega arith
outer_formed (in_four a) r e = omega arith

module _ (c : ℕ) (r : List ℕ) where
  pub inner_follows : (i : ℕ) → 0 < i → i < len c → Follows (get_or (form c ++ r) i 0)
  inner_follows i p h = inner_formed (sized c) r i p h

  pub first_not_follows : Follows (get_or (form c ++ r) 0 0) → ⊥
  first_not_follows e = outer_formed (sized c) r e

  past : (i : ℕ) → get_or (form c ++ r) (len c + i) 0 ≡ get_or r i 0
  past i = ap (λ (k : ℕ). get_or (form c ++ r) (k + i) 0) (sym (length_form c)) ∙ get_or-append-add (form c) r i 0

-- ---- the place of the n-th scalar
pub place_next : (c : ℕ) (cs : List ℕ) (n : ℕ) → place (c ∷ cs) (suc n) ≡ len c + place cs n
place_next c cs n = length-append (form c) (encode (take n cs)) ∙ ap (λ (k : ℕ). k + place cs n) (length_form c)

pub place_all : (cs : List ℕ) → place cs (length cs) ≡ length (encode cs)
place_all cs = ap (λ (l : List ℕ). length (encode l)) (take-length cs)

-- more scalars take more bytes
pub place_less : (cs : List ℕ) (i j : ℕ) → i < j → j ≤ length cs → place cs i < place cs j
place_less cs i zero h l = absurd (omega arith)
place_less [] i (suc j) h l = absurd (omega arith)
place_less (c ∷ cs) zero (suc j) h l = omega (arith, place_next c cs j, len_some c)
place_less (c ∷ cs) (suc i) (suc j) h l =
    let k : i < j = omega arith in
    let m : j ≤ length cs = omega arith in
    omega (arith, place_next c cs i, place_next c cs j, place_less cs i j k m)

-- what stands before and at the place of the n-th scalar
pub take_place : (cs : List ℕ) (n : ℕ) → take (place cs n) (encode cs) ≡ encode (take n cs)
take_place cs zero = refl
take_place [] (suc n) = refl
take_place (c ∷ cs) (suc n) =
    rw (length-append (form c) (encode (take n cs)), take-append-add (form c) (encode cs) (place cs n)) (ap (λ (l : List ℕ). form c ++ l) (take_place cs n))

pub drop_place : (cs : List ℕ) (n : ℕ) → drop (place cs n) (encode cs) ≡ encode (drop n cs)
drop_place cs zero = refl
drop_place [] (suc n) = refl
drop_place (c ∷ cs) (suc n) =
    rw (length-append (form c) (encode (take n cs)), drop-append-add (form c) (encode cs) (place cs n)) (drop_place cs n)

-- ---- a place is one of these exactly if no byte 10xxxxxx stands there; past the end counts as 0
pub place_not_follows : (cs : List ℕ) (n : ℕ) → Follows (get_or (encode cs) (place cs n) 0) → ⊥
place_not_follows [] n e = omega arith
place_not_follows (c ∷ cs) zero e = first_not_follows c (encode cs) e
place_not_follows (c ∷ cs) (suc n) e = place_not_follows cs n (rw (place_next c cs n, past c (encode cs) (place cs n)) at e)

abbrev Placed : List ℕ → ℕ → Type 0
Placed cs at = (n : ℕ) × (n ≤ length cs) × (at ≡ place cs n)

pub not_follows_place : (cs : List ℕ) (at : ℕ) → at ≤ length (encode cs) → (Follows (get_or (encode cs) at 0) → ⊥) → Placed cs at
not_follows_place [] at h f = (0, omega arith, omega arith)
not_follows_place (c ∷ cs) at h f =
    by_test (ltb at (len c))
    (λ e. let l = ltb-true at (len c) e in
    by_test (ltb 0 at) (λ e. absurd (f (inner_follows c (encode cs) at (ltb-true 0 at e) l))) (λ e. let z = ltb-false 0 at e in (0, omega arith, omega arith)))
    (λ e. let l = ltb-false at (len c) e in
    let k : at ≡ len c + (at - len c) = omega arith in
    let r = not_follows_place cs (at - len c) (omega (arith, length-append (form c) (encode cs), length_form c)) (λ e. f (rw (k, past c (encode cs) (at - len c)) e)) in
    (suc r.0, omega (arith, r.1), omega (arith, place_next c cs r.0, r.2)))
