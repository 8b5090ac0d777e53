-- A part that is lent and given back, and a part that is held in an array of its own meanwhile.
use mathlib.Core.Path.{◌≡◌, sym, ap, ◌∙◌}
use mathlib.Core.List.{List, ◌++◌}
use Prim.Native.Nat.{ℕ, ◌-◌, ◌≤◌}
use native.Mathlib.Omega.{arith}
use lib.ListN.{length, take, drop, length-append, length-drop}
use lib.Seq.{take-append_seam}
use Rattle.theory_lists.specs.Part.{part, Within}
use Rattle.theory_lists.specs.Written.{written}
use Rattle.theory_lists.proofs.Part.{length_part}
use Rattle.theory_lists.proofs.Written.{length_written}

-- the part from f to t comes back as new
pub lent_part : (s : List ℕ) (f t : ℕ) {d new : List ℕ} → d ≡ new → length new ≡ t - f → take f s ++ (d ++ drop (t - f) (drop f s)) ≡ written s f new
unfolding written
lent_part s f t e l = rw (e, ← l)

-- the front of the array z was filled with s
pub held_front : (z s : List ℕ) (k : ℕ) {d : List ℕ} → k ≡ length s → d ≡ s → k ≤ length z → (length z ≡ length (d ++ drop k z)) × (take (length s) (d ++ drop k z) ≡ s)
held_front z s k n e l = rw e (omega (arith, length-append s (drop k z), length-drop k z), take-append_seam s (drop k z))

-- the same where s was written there
pub written_front : (z s : List ℕ) {d : List ℕ} → d ≡ written z 0 s → length s ≤ length z → (length z ≡ length d) × (take (length s) d ≡ s)
unfolding written
written_front z s e l = rw e (sym (length_written z 0 s (omega arith)), take-append_seam s (drop (length s) z))

-- the array b holds, of the part from f to t, the n elements x at its front
module _ (b s : List ℕ) (f t n : ℕ) {x : List ℕ} (w : Within f t s) (e : n ≡ t - f) (l : length x ≡ length (part f t s)) (held : take (length (part f t s)) b ≡ x) where
  pub held_part : take n b ≡ x
  held_part = ap (λ (k : ℕ). take k b) (e ∙ sym (length_part w)) ∙ held

  pub length_held : n ≡ length (take n b)
  length_held = e ∙ sym (ap length held_part ∙ l ∙ length_part w)
