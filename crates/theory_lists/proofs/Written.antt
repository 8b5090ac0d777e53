-- Laws of `written`: by index, which is all that there is to know of it; by stores; and by a part that was lent.
use mathlib.Core.Path.{◌≡◌, refl, sym, ap, ap₂, ◌∙◌}
use mathlib.Core.Bool.{Bool}
use mathlib.Core.List.{List, [], ◌∷◌, ◌++◌, append_assoc}
use Prim.Native.Nat.{ℕ, suc, ◌+◌, ◌-◌, ◌≤◌, ◌<◌}
use native.Mathlib.Decide.{dec_lt}
use native.Mathlib.Omega.{arith}
use lib.ListN.{length, get_or, set, take, drop, length-append, length-take, length-drop, take-append-drop, get_or-append}
use lib.Seq.{length-take-le, get_or-take, get_or-drop, get_or-append-add, take_at, drop_at, drop-drop, take-take, take-append-le, drop-append-le, drop-append-add}
use lib.Seq.{set_split, ext_get_or}
use Rattle.theory_answers.proofs.Says.{pinned_outcome}
use Rattle.theory_lists.specs.Part.{part, Within}
use Rattle.theory_lists.specs.Written.{written, Writes}
use Rattle.theory_lists.proofs.Part.{length_part, drop_take}

module _ (s : List ℕ) (at : ℕ) (new : List ℕ) (fits : at + length new ≤ length s) where
  front : length (take at s) ≡ at
  front = length-take-le at s (omega arith)

  pub length_written : length (written s at new) ≡ length s
  unfolding written
  length_written = simp (length-append, length-take, length-drop) (omega arith)

  pub written_before : (k : ℕ) → k < at → get_or (written s at new) k 0 ≡ get_or s k 0
  unfolding written
  written_before k l = get_or-append (take at s) (new ++ drop (length new) (drop at s)) 0 k (omega (arith, front)) ∙ get_or-take at s k 0 l

  past_front : (k : ℕ) → get_or (written s at new) (at + k) 0 ≡ get_or (new ++ drop (length new) (drop at s)) k 0
  unfolding written
  past_front k =
      ap (λ (n : ℕ). get_or (written s at new) (n + k) 0) (sym front) ∙ get_or-append-add (take at s) (new ++ drop (length new) (drop at s)) k 0

  pub written_in : (k : ℕ) → k < length new → get_or (written s at new) (at + k) 0 ≡ get_or new k 0
  written_in k l = past_front k ∙ get_or-append new (drop (length new) (drop at s)) 0 k l

  pub written_after : (k : ℕ) → at + length new ≤ k → get_or (written s at new) k 0 ≡ get_or s k 0
  written_after k l =
      let n = k - (at + length new) in
      let e : k ≡ at + (length new + n) = omega arith in
      ap (λ (m : ℕ). get_or (written s at new) m 0) e ∙ past_front (length new + n)
      ∙ get_or-append-add new (drop (length new) (drop at s)) n 0
      ∙ get_or-drop (length new) (drop at s) n 0
      ∙ get_or-drop at s (length new + n) 0
      ∙ ap (λ (m : ℕ). get_or s m 0) (sym e)

  -- and that is all that there is to know of it
  pub is_written : (d : List ℕ) → length d ≡ length s
      → ((k : ℕ) → k < at → get_or d k 0 ≡ get_or s k 0)
      → ((k : ℕ) → k < length new → get_or d (at + k) 0 ≡ get_or new k 0)
      → ((k : ℕ) → at + length new ≤ k → get_or d k 0 ≡ get_or s k 0)
      → d ≡ written s at new
  is_written d len before in-it after = ext_get_or 0 d (written s at new) (len ∙ sym length_written) (λ k l. go k (dec_lt k at) (dec_lt k (at + length new)))
    where
      go : (k : ℕ) → Dec (k < at) → Dec (k < at + length new) → get_or d k 0 ≡ get_or (written s at new) k 0
      go k (yes p) _ = before k p ∙ sym (written_before k p)
      go k (no p) (yes q) =
          let e : at + (k - at) ≡ k = omega arith in
          ap (λ (n : ℕ). get_or d n 0) (sym e)
          ∙ in-it (k - at) (omega arith)
          ∙ sym (written_in (k - at) (omega arith))
          ∙ ap (λ (n : ℕ). get_or (written s at new) n 0) e
      go k (no p) (no q) = after k (omega arith) ∙ sym (written_after k (omega arith))

  -- what was written is read back
  pub part_written : part at (at + length new) (written s at new) ≡ new
  unfolding written
  part_written =
      let n : at + length new - at ≡ length new = omega arith in
      ap (take (at + length new - at)) (drop_at (take at s) (new ++ drop (length new) (drop at s)) at front)
      ∙ ap (λ (k : ℕ). take k (new ++ drop (length new) (drop at s))) n
      ∙ take_at new (drop (length new) (drop at s)) (length new) refl

-- nothing is written
pub written_none : (s : List ℕ) (at : ℕ) → written s at [] ≡ s
unfolding written
written_none s at = take-append-drop at s

-- one store
pub written_one : (s : List ℕ) (at : ℕ) (a : ℕ) → at < length s → set s at a ≡ written s at (a ∷ [])
unfolding written
written_one s at a h =
    let e : suc at ≡ at + 1 = omega arith in
    set_split s at a h
    ∙ ap (λ (k : ℕ). take at s ++ (a ∷ drop k s)) e
    ∙ ap (λ (r : List ℕ). take at s ++ (a ∷ r)) (sym (drop-drop 1 at s))

-- written with what stands there
pub written_same : {s : List ℕ} {f t : ℕ} → Within f t s → written s f (part f t s) ≡ s
unfolding written
written_same {s} {f} {t} w = rw (length_part w) (ap (λ (r : List ℕ). take f s ++ r) (take-append-drop (t - f) (drop f s)) ∙ take-append-drop f s)

-- ---- written twice, side by side, from the front and from the back

module _ (s : List ℕ) (at : ℕ) (x y : List ℕ) (fits : at + length x + length y ≤ length s) where
  pub written_twice_up : written (written s at x) (at + length x) y ≡ written s at (x ++ y)
  unfolding written
  written_twice_up =
      let rest : List ℕ = drop (length x) (drop at s) in
      let l : length (take at s ++ x) ≡ at + length x = length-append (take at s) x ∙ ap (λ (k : ℕ). k + length x) (length-take-le at s (omega arith)) in
      let e = append_assoc (take at s) x rest in
      rw (← e, take_at (take at s ++ x) rest (at + length x) l, drop_at (take at s ++ x) rest (at + length x) l, drop-drop (length y) (length x) (drop at s), length-append x y)
      (append_assoc (take at s) x (y ++ drop (length x + length y) (drop at s)) ∙ ap (λ (r : List ℕ). take at s ++ r) (sym (append_assoc x y (drop (length x + length y) (drop at s)))))

  pub written_twice_down : written (written s (at + length x) y) at x ≡ written s at (x ++ y)
  unfolding written
  written_twice_down =
      let rest : List ℕ = y ++ drop (length y) (drop (at + length x) s) in
      let l : length (take (at + length x) s) ≡ at + length x = length-take-le (at + length x) s (omega arith) in
      rw (
        take-append-le at (take (at + length x) s) rest (omega arith),
        take-take at (at + length x) s (omega arith),
        drop-drop (length x) at (take (at + length x) s ++ rest),
        drop_at (take (at + length x) s) rest (at + length x) l,
        length-append x y,
        ← drop-drop (length y) (length x) (drop at s),
        drop-drop (length x) at s,
      )
      (ap (λ (r : List ℕ). take at s ++ r) (sym (append_assoc x y (drop (length y) (drop (at + length x) s)))))

-- what is written over, in all of its places, is not seen
pub written_over : (s : List ℕ) (p : ℕ) (y : List ℕ) (q : ℕ) (x : List ℕ) → q ≤ p → p + length y ≤ q + length x → q + length x ≤ length s
    → written (written s p y) q x ≡ written s q x
written_over s p y q x h l fits =
    let first : length (written s p y) ≡ length s = length_written s p y (omega arith) in
    let again : q + length x ≤ length (written s p y) = omega arith in
    is_written s q x fits (written (written s p y) q x)
    (length_written (written s p y) q x again ∙ first)
    (λ k b. written_before (written s p y) q x again k b ∙ written_before s p y (omega arith) k (omega arith))
    (λ k b. written_in (written s p y) q x again k b)
    (λ k b. written_after (written s p y) q x again k b ∙ written_after s p y (omega arith) k (omega arith))

-- a part that lies clear of what is written
module _ (s : List ℕ) (at : ℕ) (new : List ℕ) (fits : at + length new ≤ length s) (f t : ℕ) where
  pub part_after_written : at + length new ≤ f → part f t (written s at new) ≡ part f t s
  unfolding written
  part_after_written h =
      let l : length (take at s ++ new) ≡ at + length new = length-append (take at s) new ∙ ap (λ (k : ℕ). k + length new) (length-take-le at s (omega arith)) in
      let n : f ≡ at + length new + (f - (at + length new)) = omega arith in
      let m : f ≡ at + (length new + (f - (at + length new))) = omega arith in
      ap (take (t - f))
      (ap₂ (λ (r : List ℕ) (k : ℕ). drop k r) (sym (append_assoc (take at s) new (drop (length new) (drop at s)))) (n ∙ ap (λ (k : ℕ). k + (f - (at + length new))) (sym l))
      ∙ drop-append-add (take at s ++ new) (drop (length new) (drop at s)) (f - (at + length new))
      ∙ drop-drop (f - (at + length new)) (length new) (drop at s)
      ∙ drop-drop (length new + (f - (at + length new))) at s
      ∙ ap (λ (k : ℕ). drop k s) (sym m))

  pub part_before_written : f ≤ t → t ≤ at → part f t (written s at new) ≡ part f t s
  unfolding written
  part_before_written g h =
      let l = length-take-le at s (omega arith) in
      let m : t - f ≤ length (drop f (take at s)) = omega (arith, length-drop f (take at s)) in
      rw (drop-append-le f (take at s) (new ++ drop (length new) (drop at s)) (omega arith), take-append-le (t - f) (drop f (take at s)) (new ++ drop (length new) (drop at s)) m, drop_take f at s)
      (take-take (t - f) (at - f) (drop f s) (omega arith))

-- two writers of the same elements, at the same place of the same list, answer alike and leave the same
pub pinned_writes : {ok ok' : Bool} (before : List ℕ) (at : ℕ) (new : List ℕ) {after after' : List ℕ}
    → Writes ok before at new after → Writes ok' before at new after' → (ok ≡ ok') × (after ≡ after')
pinned_writes before at new w w' = pinned_outcome w w' (λ e e'. e ∙ sym e') (λ e e'. e ∙ sym e')
