-- vstd's clauses of slices at worked values: of 1 2 3, the rest behind its first element, that it begins with 1 2, and that it ends with 2 3.
use mathlib.Core.Path.{◌≡◌, refl}
use mathlib.Core.Bool.{true}
use mathlib.Core.List.{List, [], ◌∷◌}
use Prim.Native.Nat.{ℕ, zero, suc, ◌+◌, ◌-◌, ◌<◌}
use native.Mathlib.Omega.{arith}
use lib.Dec.{lit≤}
use lib.ListN.{length, get_or}
use Rattle.vstd_slices.specs.Slices.{Subrange, SplitFirst, StartsWith, EndsWith}

abbrev one_to_three : List ℕ
one_to_three = 1 ∷ 2 ∷ 3 ∷ []

abbrev two_three : List ℕ
two_three = 2 ∷ 3 ∷ []

pub rest_worked : Subrange one_to_three 1 3 two_three
rest_worked = record { len = refl; index = by }
  where
    by : (k : ℕ) → k < 2 → get_or two_three k 0 ≡ get_or one_to_three (1 + k) 0
    by zero l = refl
    by (suc zero) l = refl
    by (suc (suc k)) l = absurd (omega arith)

pub split_first_worked : SplitFirst true 1 two_three one_to_three
split_first_worked = record { none = λ e. absurd (omega arith); present = λ l. (refl, refl, rest_worked) }

pub starts_with_worked : StartsWith one_to_three (1 ∷ 2 ∷ [])
starts_with_worked = record { fits = lit≤ tt; each = by }
  where
    by : (i : ℕ) → i < 2 → get_or (1 ∷ 2 ∷ []) i 0 ≡ get_or one_to_three i 0
    by zero l = refl
    by (suc zero) l = refl
    by (suc (suc i)) l = absurd (omega arith)

pub ends_with_worked : EndsWith one_to_three two_three
ends_with_worked = record { fits = lit≤ tt; each = by }
  where
    by : (i : ℕ) → i < 2 → get_or two_three i 0 ≡ get_or one_to_three (length one_to_three - length two_three + i) 0
    by zero l = refl
    by (suc zero) l = refl
    by (suc (suc i)) l = absurd (omega arith)
