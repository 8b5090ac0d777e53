-- Boundaries of valid text: the places between scalars, the places that split it into two texts, and the places where no byte 10xxxxxx stands are the same.
use mathlib.Core.Path.{◌≡◌, refl, sym, ap, ◌∙◌, subst}
use mathlib.Core.Bool.{true}
use mathlib.Core.List.{List, [], ◌∷◌, ◌++◌}
use Prim.Native.Nat.{ℕ, zero, suc, ◌+◌, ◌-◌, ◌/◌, ◌<◌, ◌≤◌}
use native.Mathlib.Omega.{arith}
use lib.Dec.{ltb}
use lib.ListN.{length, get_or, take, drop, length-append, length-take}
use lib.Seq.{length-take-le, take-append_seam}
use borrow.Author.Tests.{ltb-true, ltb-false, ne_eqb, eqb-false, not-true}
use Rattle.theory_whole.proofs.Cases.{by_test}
use Rattle.theory_text.specs.Scalar.{len}
use Rattle.theory_text.specs.Text.{Scalars, encode, Valid}
use Rattle.theory_text.specs.Table.{first}
use Rattle.theory_text.specs.Reading.{decoded, scalars}
use Rattle.theory_text.specs.Scalar.{follows}
use Rattle.theory_text.specs.Boundary.{place, Boundary, Splits, starts}
use Rattle.theory_text.proofs.Steps.{rest_step, scalars_step, first_len}
use Rattle.theory_text.proofs.Unique.{scalars_are, valid_encode, encode_valid, valid_rest, rest_valid}
use Rattle.theory_text.proofs.Pieces.{valid_joined, scalars_cut}
use Rattle.theory_text.proofs.Places.{Follows, place_next, place_all, take_place, drop_place, place_not_follows, not_follows_place}

scalars_take : (n : ℕ) (cs : List ℕ) → Scalars cs → Scalars (take n cs)
scalars_take zero cs s = tt
scalars_take (suc n) [] s = tt
scalars_take (suc n) (c ∷ cs) s = (s.0, scalars_take n cs s.1)

scalars_drop : (n : ℕ) (cs : List ℕ) → Scalars cs → Scalars (drop n cs)
scalars_drop zero cs s = s
scalars_drop (suc n) [] s = tt
scalars_drop (suc n) (c ∷ cs) s = scalars_drop n cs s.1

place_within : (cs : List ℕ) (n : ℕ) → place cs n ≤ length (encode cs)
place_within cs n = omega (arith, ap length (take_place cs n), length-take (place cs n) (encode cs))

place_splits : (cs : List ℕ) → Scalars cs → (n : ℕ) → Splits (encode cs) (place cs n)
place_splits cs s n =
    record {
      inside = place_within cs n;
      before = rw (take_place cs n) (encode_valid (take n cs) (scalars_take n cs s));
      behind = rw (drop_place cs n) (encode_valid (drop n cs) (scalars_drop n cs s));
    }

-- where a text ends, with others behind it
place_seam : (cs ds : List ℕ) → place (cs ++ ds) (length cs) ≡ length (encode cs)
place_seam cs ds = ap (λ (l : List ℕ). length (encode l)) (take-append_seam cs ds)

-- a place that splits text is a boundary
pub splits_valid : (s : List ℕ) (at : ℕ) → Splits s at → Valid s
splits_valid s at p = valid_joined s at p.before p.behind

pub splits_boundary : (s : List ℕ) (at : ℕ) → Splits s at → Boundary s at
splits_boundary s at p =
    let a = scalars (take at s) in
    let b = scalars (drop at s) in
    let e : scalars s ≡ a ++ b = scalars_cut s at p.before in
    let l : length (encode a) ≡ at = ap length (valid_encode (take at s) p.before) ∙ length-take-le at s p.inside in
    (length a, omega (arith, ap length e, length-append a b), sym (ap (λ (l : List ℕ). place l (length a)) e ∙ place_seam a b ∙ l))

module _ (s : List ℕ) (v : Valid s) where
  pub boundary_start : Boundary s 0
  boundary_start = (0, omega arith, refl)

  pub boundary_end : Boundary s (length s)
  boundary_end = (length (scalars s), omega arith, sym (place_all (scalars s) ∙ ap length (valid_encode s v)))

  -- both sides of a boundary are text
  pub boundary_splits : (at : ℕ) → Boundary s at → Splits s at
  boundary_splits at b = subst (λ (k : ℕ). Splits s k) (sym b.2) (subst (λ (l : List ℕ). Splits l (place (scalars s) b.0)) (valid_encode s v) (place_splits (scalars s) (scalars_are s) b.0))

  pub boundary_inside : (at : ℕ) → Boundary s at → at ≤ length s
  boundary_inside at b = (boundary_splits at b).inside

  -- the byte there tells
  pub boundary_starts : (at : ℕ) → Boundary s at → starts s at ≡ true
  boundary_starts at b =
      let n : Follows (get_or s at 0) → ⊥ =
      λ f. place_not_follows (scalars s) b.0 (subst (λ (k : ℕ). Follows (get_or (encode (scalars s)) k 0)) b.2 (subst (λ (l : List ℕ). Follows (get_or l at 0)) (sym (valid_encode s v)) f)) in
      rw (ne_eqb (get_or s at 0 / 64) 2 n)

  pub starts_boundary : (at : ℕ) → at ≤ length s → starts s at ≡ true → Boundary s at
  starts_boundary at h e =
      let n : Follows (get_or s at 0) → ⊥ = eqb-false (get_or s at 0 / 64) 2 (not-true (follows (get_or s at 0)) e) in
      not_follows_place (scalars s) at (omega (arith, ap length (valid_encode s v))) (λ f. n (subst (λ (l : List ℕ). Follows (get_or l at 0)) (valid_encode s v) f))

  -- the first boundary behind the start is where the first scalar ends
  pub boundary_behind_first : (at : ℕ) → Boundary s at → 0 < at → first s ≤ at
  boundary_behind_first at b p = go b.0 b.2
    where
      go : (n : ℕ) → at ≡ place (scalars s) n → first s ≤ at
      go zero e = absurd (omega arith)
      go (suc n) e =
          by_test (ltb 0 (first s))
          (λ t. let q = ltb-true 0 (first s) t in
          let c = decoded (first s) s in
          let cs = scalars (drop (first s) s) in
          omega (arith, ap (λ (l : List ℕ). place l (suc n)) (scalars_step s q), place_next c cs n, first_len s q))
          (λ t. let q = ltb-false 0 (first s) t in omega arith)

-- ---- from one scalar to the next
module _ (s : List ℕ) (q : 0 < first s) where
  pub valid_dropped : Valid s → Valid (drop (first s) s)
  valid_dropped v = rest_valid (drop (first s) s) (sym (rest_step s q) ∙ valid_rest s v)

  pub boundary_behind_scalar : (i : ℕ) → Boundary (drop (first s) s) i → Boundary s (first s + i)
  boundary_behind_scalar i b =
      let c = decoded (first s) s in
      let cs = scalars (drop (first s) s) in
      let e = scalars_step s q in (
        suc b.0,
        omega (arith, ap length e, b.1),
        sym (ap (λ (l : List ℕ). place l (suc b.0)) e ∙ place_next c cs b.0 ∙ ap (λ (k : ℕ). len c + k) (sym b.2) ∙ ap (λ (k : ℕ). k + i) (first_len s q)),
      )

  pub boundary_past_scalar : (at : ℕ) → first s ≤ at → Boundary s at → Boundary (drop (first s) s) (at - first s)
  boundary_past_scalar at h b = go b.0 b.1 b.2
    where
      go : (n : ℕ) → n ≤ length (scalars s) → at ≡ place (scalars s) n → Boundary (drop (first s) s) (at - first s)
      go zero l e = absurd (omega arith)
      go (suc n) l e =
          let c = decoded (first s) s in
          let cs = scalars (drop (first s) s) in
          let f = scalars_step s q in
          (n, omega (arith, ap length f), omega (arith, e, ap (λ (l : List ℕ). place l (suc n)) f, place_next c cs n, first_len s q))
