-- Elements written into a list one after the other: these change, no others.
use mathlib.Core.Path.{◌≡◌, refl, ap, ◌∙◌}
use mathlib.Core.Bool.{true, false}
use mathlib.Core.List.{List, [], ◌∷◌, append_assoc}
use Prim.Native.Nat.{ℕ, zero, suc, ◌+◌, ◌≤◌, ◌<◌}
use native.Mathlib.Nat.{add-suc}
use native.Mathlib.Numerals.{add-one}
use native.Mathlib.Omega.{arith}
use lib.ListN.{length, get_or, set}
use lib.Seq.{sets, sets-eq, drop-drop}
use Rattle.theory_lists.specs.Written.{written, Writes}

-- the elements of `new` stored from index at + k on, as code stores them
abbrev pub stored_on : List ℕ → ℕ → ℕ → List ℕ → List ℕ
stored_on s at k [] = s
stored_on s at k (x ∷ new) = stored_on (set s (at + k) x) at (suc k) new

abbrev pub stored : List ℕ → ℕ → List ℕ → List ℕ
stored s at [] = s
stored s at (x ∷ new) = stored_on (set s at x) at 1 new

on : (s : List ℕ) (at k : ℕ) (new : List ℕ) → stored_on s at k new ≡ sets s (at + k) new
on s at k [] = refl
on s at k (x ∷ new) = on (set s (at + k) x) at (suc k) new ∙ ap (λ (i : ℕ). sets (set s (at + k) x) i new) (add-suc at k)

as_sets : (s : List ℕ) (at : ℕ) (new : List ℕ) → stored s at new ≡ sets s at new
as_sets s at [] = refl
as_sets s at (x ∷ new) = on (set s at x) at 1 new ∙ ap (λ (i : ℕ). sets (set s at x) i new) (add-one at)

pub stored_written : (s : List ℕ) (at : ℕ) (new : List ℕ) → at + length new ≤ length s → stored s at new ≡ written s at new
unfolding written
stored_written s at new h = as_sets s at new ∙ sets-eq new s at h ∙ rw (append_assoc, drop-drop)

-- the `count` elements from index i on, one by one
abbrev pub elements : List ℕ → ℕ → ℕ → List ℕ
elements s i zero = []
elements s i (suc count) = get_or s i 0 ∷ elements s (suc i) count

shifted : (x : ℕ) (s : List ℕ) (i count : ℕ) → elements (x ∷ s) (suc i) count ≡ elements s i count
shifted x s i zero = refl
shifted x s i (suc count) = rw (shifted x s (suc i) count)

all_elements : (s : List ℕ) → elements s 0 (length s) ≡ s
all_elements [] = refl
all_elements (x ∷ s) = rw (shifted x s 0 (length s), all_elements s)

module _ {count : ℕ} (s : List ℕ) (at : ℕ) (new : List ℕ) (l : length new ≡ count) where
  pub writes : at + count ≤ length s → Writes true s at new (stored s at (elements new 0 count))
  writes h =
      let e : elements new 0 count ≡ new = (rw l at (all_elements new)) in
      rw e (record { asked = omega arith; given = stored_written s at new (omega arith) })

  pub writes_nothing : length s < at + count → Writes false s at new s
  writes_nothing h = record { asked = λ p. omega arith; given = refl }
