-- A part is copied to a place, of another list or of its own, block after block from the front or from the back. A block may reach into the one before.
use mathlib.Core.Path.{◌≡◌, sym, ap, ◌∙◌}
use mathlib.Core.List.{List}
use Prim.Native.Nat.{ℕ, ◌+◌, ◌-◌, ◌≤◌}
use native.Mathlib.Omega.{arith}
use lib.ListN.{length}
use Rattle.theory_lists.specs.Part.{part}
use Rattle.theory_lists.specs.Written.{written}
use Rattle.theory_lists.proofs.Part.{length_part, part_none, part_append}
use Rattle.theory_lists.proofs.Written.{length_written, written_none, written_twice_up, written_twice_down, written_over, part_after_written}
use Rattle.theory_lists.proofs.Written.{part_before_written}

pub copied_none : (d s : List ℕ) (f at : ℕ) → d ≡ written d at (part f f s)
copied_none d s f at = sym (ap (written d at) (part_none f s) ∙ written_none d at)

-- the part of s from f to e goes to place at of d, in two that cover it: from f to i, and from j to e
module _ (d s : List ℕ) (f j i e at : ℕ) (h : f ≤ j) (m : j ≤ i) (l : i ≤ e) (ends : e ≤ length s) (fits : at + (e - f) ≤ length d) where
  size : (a b : ℕ) → a ≤ b → b ≤ e → length (part a b s) ≡ b - a
  size a b o k = length_part (record { ordered = o; ends = omega arith })

  pub copied_up : (next : ℕ) → next ≡ at + (j - f) → written (written d at (part f i s)) next (part j e s) ≡ written d at (part f e s)
  copied_up next n =
      let x = size f j h (omega arith) in
      let y = size j i m l in
      let z = size j e (omega arith) (omega arith) in
      let place : next ≡ at + length (part f j s) = omega (arith, x) in
      let once : length (written d at (part f j s)) ≡ length d = length_written d at (part f j s) (omega (arith, x)) in
      rw (place, ← part_append f j i s h m, ← written_twice_up d at (part f j s) (part j i s) (omega (arith, x, y)))
      (written_over (written d at (part f j s)) (at + length (part f j s)) (part j i s) (at + length (part f j s)) (part j e s) (omega arith) (omega (arith, y, z)) (omega (arith, once, x, z))
      ∙ written_twice_up d at (part f j s) (part j e s) (omega (arith, x, z))
      ∙ ap (written d at) (part_append f j e s h (omega arith)))

  pub copied_down : (last : ℕ) → last ≡ at + (j - f) → written (written d last (part j e s)) at (part f i s) ≡ written d at (part f e s)
  copied_down last n =
      let x = size f i (omega arith) l in
      let y = size j i m l in
      let z = size i e l (omega arith) in
      let place : last + length (part j i s) ≡ at + length (part f i s) = omega (arith, x, y) in
      let once : length (written d (at + length (part f i s)) (part i e s)) ≡ length d = length_written d (at + length (part f i s)) (part i e s) (omega (arith, x, z)) in
      rw (← part_append j i e s m l, ← written_twice_down d last (part j i s) (part i e s) (omega (arith, y, z)), place)
      (written_over (written d (at + length (part f i s)) (part i e s)) last (part j i s) at (part f i s) (omega arith) (omega (arith, place)) (omega (arith, once, x))
      ∙ written_twice_down d at (part f i s) (part i e s) (omega (arith, x, z))
      ∙ ap (written d at) (part_append f i e s (omega arith) l))

-- within one list: what is read is still what stood there, from the front where it goes to a place that is not behind, from the back where it goes to one that
-- is not before
module _ (s : List ℕ) (f m e at : ℕ) (h : f ≤ m) (l : m ≤ e) (ends : e ≤ length s) (fits : at + (e - f) ≤ length s) where
  pub moved_up : at ≤ f → (d : List ℕ) (next : ℕ) → next ≡ at + (m - f) → d ≡ written s at (part f m s) → written d next (part m e d) ≡ written s at (part f e s)
  moved_up b d next n w =
      let x : length (part f m s) ≡ m - f = length_part (record { ordered = h; ends = omega arith }) in
      rw (w, part_after_written s at (part f m s) (omega (arith, x)) m e (omega (arith, x)))
      (copied_up s s f m m e at h (omega arith) l ends fits next n)

  -- and from the back: the part from m to e is copied, and that from f to m is next
  pub moved_down : f ≤ at → (d : List ℕ) (last : ℕ) → last ≡ at + (m - f) → d ≡ written s last (part m e s) → written d at (part f m d) ≡ written s at (part f e s)
  moved_down b d last n w =
      let x : length (part m e s) ≡ e - m = length_part (record { ordered = l; ends = ends }) in
      rw (w, part_before_written s last (part m e s) (omega (arith, x)) f m h (omega arith))
      (copied_down s s f m m e at h (omega arith) l ends fits last n)
