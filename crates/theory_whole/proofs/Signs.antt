-- A sum or a difference is told by signs, in a kind that reaches as far below 0 as above. Where the signs say that it lies between two numbers of the kind, it fits;
-- else its own sign is known, and it fits exactly where what it wraps to has that sign.
use mathlib.Core.Path.{◌≡◌, refl, sym}
use mathlib.Core.Bool.{Bool, true, false, not, ◌&&◌, beq}
use Prim.Native.Nat.{◌+◌, ◌≤◌, ◌<◌}
use native.Mathlib.Omega.{arith}
use lib.IntN.{ℤ, pos, ◌+ℤ◌, ◌-ℤ◌}
use lib.Signed.{lt_z}
use borrow.Author.Tests.{not-true, not-false}
use Rattle.theory_whole.specs.Kind.{Kind}
use Rattle.theory_whole.specs.Fit.{wrap}
use Rattle.theory_whole.proofs.Cases.{by_test}
use Rattle.theory_whole.proofs.Halves.{up, down, sum, difference, lt_yes, lt_no, is_lt, not_lt}
use Rattle.theory_whole.proofs.Fits.{Real, In, in_fits}
use Rattle.theory_whole.proofs.Overflow.{Told, told_below}

abbrev pub negative : ℤ → Bool
negative x = lt_z x (pos 0)

is_negative : (x : ℤ) → up x < down x → negative x ≡ true
is_negative x h = is_lt x (pos 0) (omega arith)

not_negative : (x : ℤ) → down x ≤ up x → negative x ≡ false
not_negative x h = not_lt x (pos 0) (omega arith)

-- of a sum: neither summand has the sign of what it wraps to
abbrev pub neither : Bool → Bool → Bool → Bool
neither t u v = not (beq t v) && not (beq u v)

-- of a difference: the second number has another sign than the first, and so has what it wraps to
abbrev pub both_other : Bool → Bool → Bool → Bool
both_other t u v = not (beq t u) && not (beq t v)

module _ {k : Kind} (real : Real k) (z r : ℤ) (e : r ≡ wrap k z) where
  known_to_fit : {d : Bool} → In k z → d ≡ false → Told k z r d
  known_to_fit i f = record { wraps = e; tells = rw (in_fits real z i, f) }

  by_its_sign : {d : Bool} → down z ≤ up z + k.size → up z < down z + k.size → d ≡ not (beq (negative z) (negative r)) → Told k z r d
  by_its_sign l h f =
      let p = real.zero_in in
      rw f (told_below real (pos 0) z r e (record { first = omega arith; last = omega arith; from_below = omega arith; from_above = omega arith }))

-- what the tests come to, where the signs are the same and where they are not
signs_same : (t v : Bool) → neither t t v ≡ not (beq t v)
signs_same true true = refl
signs_same true false = refl
signs_same false true = refl
signs_same false false = refl

signs_other : (t v : Bool) → neither t (not t) v ≡ false
signs_other true true = refl
signs_other true false = refl
signs_other false true = refl
signs_other false false = refl

-- a difference is a sum with the opposite number, whose sign is the other
opposite : (t u v : Bool) → both_other t u v ≡ neither t (not u) v
opposite true true v = sym (signs_other true v)
opposite true false v = sym (signs_same true v)
opposite false true v = sym (signs_same false v)
opposite false false v = sym (signs_other false v)

module _ {k : Kind} (real : Real k) (even : k.size ≡ k.low + k.low) (a r : ℤ) (i : In k a) where
  -- z lies up to half the size away from a, and u says on which side
  told_by_signs : (z : ℤ) → r ≡ wrap k z → (u : Bool) → (u ≡ true → up z + down a ≤ up a + down z) → (u ≡ false → up a + down z ≤ up z + down a)
      → up z + down a ≤ up a + down z + k.low → up a + down z ≤ up z + down a + k.low → Told k z r (neither (negative a) u (negative r))
  told_by_signs z e u d f l h =
      by_test (negative a)
      (λ x. let p = lt_yes a (pos 0) x in
      by_test u
      (λ y. let q = d y in
      by_its_sign real z r e (omega (arith, i.above)) (omega arith) (rw (x, y, is_negative z (omega arith)) (signs_same true (negative r))))
      (λ y. let q = f y in
      known_to_fit real z r e (record { above = omega (arith, i.above); below = omega arith }) (rw (x, y) (signs_other true (negative r)))))
      (λ x. let p = lt_no a (pos 0) x in
      by_test u
      (λ y. let q = d y in
      known_to_fit real z r e (record { above = omega arith; below = omega (arith, i.below) }) (rw (x, y) (signs_other false (negative r))))
      (λ y. let q = f y in
      by_its_sign real z r e (omega arith) (omega (arith, i.below)) (rw (x, y, not_negative z (omega arith)) (signs_same false (negative r)))))

  module _ (b : ℤ) (j : In k b) where
    pub sum_told_by_signs : r ≡ wrap k (a +ℤ b) → Told k (a +ℤ b) r (neither (negative a) (negative b) (negative r))
    sum_told_by_signs e =
        let s = sum a b in
        told_by_signs (a +ℤ b) e (negative b)
        (λ y. omega (arith, lt_yes b (pos 0) y))
        (λ y. omega (arith, lt_no b (pos 0) y))
        (omega (arith, j.below))
        (omega (arith, j.above))

    pub difference_told_by_signs : r ≡ wrap k (a -ℤ b) → Told k (a -ℤ b) r (both_other (negative a) (negative b) (negative r))
    difference_told_by_signs e =
        let s = difference a b in
        rw (opposite (negative a) (negative b) (negative r))
        (told_by_signs (a -ℤ b) e (not (negative b))
        (λ y. omega (arith, lt_no b (pos 0) (not-true (negative b) y)))
        (λ y. omega (arith, lt_yes b (pos 0) (not-false (negative b) y)))
        (omega (arith, j.above))
        (omega (arith, j.below)))
