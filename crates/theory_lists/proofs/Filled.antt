-- A list that is filled from the front: once all of it is, it is the list that it was filled from.
use mathlib.Core.Path.{◌≡◌, sym, ◌∙◌}
use mathlib.Core.List.{List, reverse}
use Prim.Native.Nat.{ℕ, ◌+◌, ◌-◌, ◌≤◌, ◌<◌}
use native.Mathlib.Numerals.{add-one}
use native.Mathlib.Omega.{arith}
use lib.ListN.{length, get_or, set, take, length-reverse}
use lib.Seq.{take-suc, take-suc-set, take_all}
use Rattle.theory_lists.proofs.Reverse.{get_d_reverse}

pub filled_next : (d new : List ℕ) (i : ℕ) → i < length d → i < length new → take i d ≡ take i new → take (i + 1) (set d i (get_or new i 0)) ≡ take (i + 1) new
filled_next d new i h l e = rw (add-one, take-suc-set d i (get_or new i 0) h, take-suc new i 0 l, e)

-- filled from the back of s
pub turned_next : (d s : List ℕ) (i n : ℕ) → n ≡ length s → i < length d → i < n → take i d ≡ take i (reverse s) → take (i + 1) (set d i (get_or s (n - 1 - i) 0)) ≡ take (i + 1) (reverse s)
turned_next d s i n m h l e =
    let r = length-reverse s in
    rw (m, ← get_d_reverse s i (omega arith)) (filled_next d (reverse s) i h (omega arith) e)

pub filled : (d new : List ℕ) (i : ℕ) → length d ≤ i → length d ≡ length new → take i d ≡ take i new → d ≡ new
filled d new i h l e = sym (take_all i d h) ∙ e ∙ take_all i new (omega arith)
