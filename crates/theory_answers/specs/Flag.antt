-- An answer that may be none, as C has it: a flag, and beside it a value, which is `nothing` where the flag is false.
use Rattle.std.specs.Prelude.{Bool, true, false, ◌≡◌, Option, Some, None}

abbrev pub Flagged : {A : Type 0} → Bool → A → A → Option A → Type 0
Flagged ok v nothing None = (ok ≡ false) × (v ≡ nothing)
Flagged ok v nothing (Some x) = (ok ≡ true) × (v ≡ x)
