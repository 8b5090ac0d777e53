-- A whole number, or none: what an operation that may refuse says; and how a flag with a value says it, as C has it.
use Rattle.std.specs.Prelude.{ℤ, pos, Bool, true, false, cond, ◌≡◌, Option, Some, None}

unfoldable pub only_if : Bool → Option ℤ → Option ℤ
only_if holds answer = cond holds answer None

-- a refusal has the value 0
abbrev pub Answers : Bool → ℤ → Option ℤ → Type 0
Answers ok v None = (ok ≡ false) × (v ≡ pos 0)
Answers ok v (Some z) = (ok ≡ true) × (v ≡ z)
