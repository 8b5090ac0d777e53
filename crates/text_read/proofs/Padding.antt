-- The first four bytes, 0 for those past the end, begin with the form that all begin with.
use mathlib.Core.Path.{◌≡◌, sym}
use mathlib.Core.List.{List, [], ◌∷◌}
use Prim.Native.Nat.{ℕ, ◌<◌}
use lib.ListN.{length, get_or}
use Rattle.theory_text.specs.Table.{first}
use Rattle.theory_text.proofs.Padded.{first_at}

pub four_first : (s : List ℕ) → 0 < length s → first (get_or s 0 0 ∷ get_or s 1 0 ∷ get_or s 2 0 ∷ get_or s 3 0 ∷ []) ≡ first s
four_first s h = sym (first_at s 0 h)
