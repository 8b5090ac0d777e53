-- vstd's boundaries are ours; and they meet vstd's own recursive equation.
use mathlib.Core.Path.{◌≡◌, sym, subst}
use mathlib.Core.Logic.{◌↔◌}
use mathlib.Core.List.{List, [], ◌∷◌}
use Prim.Native.Nat.{ℕ, zero, suc, ◌+◌, ◌-◌, ◌<◌, ◌≤◌}
use native.Mathlib.Omega.{arith}
use lib.ListN.{length, drop}
use Rattle.theory_text.specs.Text.{Valid}
use Rattle.theory_text.specs.Table.{first}
use Rattle.theory_text.specs.Boundary.{Boundary}
use Rattle.theory_text.proofs.Unique.{valid_rest}
use Rattle.theory_text.proofs.Boundaries.{boundary_start, boundary_inside, boundary_behind_first, boundary_behind_scalar, boundary_past_scalar, valid_dropped}
use Rattle.vstd_text.specs.Decoding.{length_of_first_scalar, pop_first_scalar, ValidUtf8}
use Rattle.vstd_text.specs.Places.{BoundaryIn, IsCharBoundary}
use Rattle.vstd_text.proofs.Decoding.{length_of_first_scalar_same, some_valid_first}
use Rattle.vstd_text.proofs.Whole.{popped_less, some_bytes, valid_utf8_same, pop_first_scalar_decreases, valid_utf8_is}

in_boundary : (n : ℕ) (bytes : List ℕ) → length bytes ≤ n → Valid bytes → (i : ℕ) → BoundaryIn n bytes i → Boundary bytes i
in_boundary zero bytes h v zero p = boundary_start bytes v
in_boundary zero bytes h v (suc i) p = absurd p
in_boundary (suc n) bytes h v zero p = boundary_start bytes v
in_boundary (suc n) [] h v (suc i) p = absurd (omega arith)
in_boundary (suc n) (b ∷ bs) h v (suc i) p =
    let q = some_bytes b bs (valid_rest (b ∷ bs) v) in
    let f = first (b ∷ bs) in
    let e : f ≡ length_of_first_scalar (b ∷ bs) = length_of_first_scalar_same (b ∷ bs) (some_valid_first (b ∷ bs) q) in
    let w : Valid (drop f (b ∷ bs)) = valid_dropped (b ∷ bs) q v in
    let behind = subst (λ (k : ℕ). BoundaryIn n (drop k (b ∷ bs)) (suc i - k)) (sym e) p.1.1 in
    let r = in_boundary n (drop f (b ∷ bs)) (popped_less b bs q n h) w (suc i - f) behind in
    let m : f ≤ suc i = omega (arith, e, p.1.0) in
    let g : f + (suc i - f) ≡ suc i = omega arith in
    subst (Boundary (b ∷ bs)) g (boundary_behind_scalar (b ∷ bs) q (suc i - f) r)

boundary_in : (n : ℕ) (bytes : List ℕ) → length bytes ≤ n → Valid bytes → (i : ℕ) → Boundary bytes i → BoundaryIn n bytes i
boundary_in zero bytes h v zero p = tt
boundary_in zero bytes h v (suc i) p = omega (arith, boundary_inside bytes v (suc i) p)
boundary_in (suc n) bytes h v zero p = tt
boundary_in (suc n) [] h v (suc i) p = absurd (omega (arith, boundary_inside [] v (suc i) p))
boundary_in (suc n) (b ∷ bs) h v (suc i) p =
    let q = some_bytes b bs (valid_rest (b ∷ bs) v) in
    let f = first (b ∷ bs) in
    let e : f ≡ length_of_first_scalar (b ∷ bs) = length_of_first_scalar_same (b ∷ bs) (some_valid_first (b ∷ bs) q) in
    let w : Valid (drop f (b ∷ bs)) = valid_dropped (b ∷ bs) q v in
    let m : f ≤ suc i = boundary_behind_first (b ∷ bs) v (suc i) p (omega arith) in
    let behind = boundary_past_scalar (b ∷ bs) q (suc i) m p in
    let r = boundary_in n (drop f (b ∷ bs)) (popped_less b bs q n h) w (suc i - f) behind in
    (boundary_inside (b ∷ bs) v (suc i) p, (rw (← e) m, subst (λ (k : ℕ). BoundaryIn n (drop k (b ∷ bs)) (suc i - k)) e r))

pub is_char_boundary_same : (bytes : List ℕ) → Valid bytes → (index : ℕ) → IsCharBoundary bytes index ↔ Boundary bytes index
is_char_boundary_same bytes v index =
    (in_boundary (length bytes) bytes (omega arith) v index, boundary_in (length bytes) bytes (omega arith) v index)

-- vstd's equation: 0 is a boundary, a place past the end is none, and any other is one exactly if it is one behind the first scalar
pub is_char_boundary_is : (bytes : List ℕ) → ValidUtf8 bytes → (index : ℕ) → 0 < index
    → IsCharBoundary bytes index
    ↔ ((index ≤ length bytes) × ((length_of_first_scalar bytes ≤ index) × IsCharBoundary (pop_first_scalar bytes) (index - length_of_first_scalar bytes)))
is_char_boundary_is [] h zero p = absurd (omega arith)
is_char_boundary_is [] h (suc i) p = (λ b. absurd b, λ b. absurd (omega arith))
is_char_boundary_is (b ∷ bs) h zero p = absurd (omega arith)
is_char_boundary_is (b ∷ bs) h (suc i) p = (λ q. (q.0, (q.1.0, same.0 q.1.1)), λ q. (q.0, (q.1.0, same.1 q.1.1)))
  where
    behind : List ℕ
    behind = pop_first_scalar (b ∷ bs)

    popped_valid : Valid behind
    popped_valid = (valid_utf8_same behind).0 ((valid_utf8_is (b ∷ bs)).0 h (λ e. omega arith)).1

    shorter : length behind ≤ length bs
    shorter = omega (arith, pop_first_scalar_decreases (b ∷ bs) h.0)

    at_behind : ℕ
    at_behind = suc i - length_of_first_scalar (b ∷ bs)

    same : BoundaryIn (length bs) behind at_behind ↔ IsCharBoundary behind at_behind
    same = (
      λ q. (is_char_boundary_same behind popped_valid at_behind).1 (in_boundary (length bs) behind shorter popped_valid at_behind q),
      λ q. boundary_in (length bs) behind shorter popped_valid at_behind ((is_char_boundary_same behind popped_valid at_behind).0 q),
    )
