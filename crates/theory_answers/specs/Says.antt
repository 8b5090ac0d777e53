-- What an answer says, both ways: nothing is left open by a `false` or by a refusal.
use Rattle.std.specs.Prelude.{Bool, true, false, Option, Some, None}

-- true says P, and false that P does not hold
abbrev pub Says : Bool → Type 0 → Type 0
Says true P = P
Says false P = P → ⊥

-- the test of Q, answered exactly where P holds
abbrev pub Tells : Option Bool → Type 0 → Type 0 → Type 0
Tells None P Q = P → ⊥
Tells (Some b) P Q = P × Says b Q

-- true says X, and false Y
abbrev pub Given : Bool → Type 0 → Type 0 → Type 0
Given true X Y = X
Given false X Y = Y

-- the answer of a function that may refuse: it is ok exactly where P holds; then X, and of a refusal Y
pub record Outcome (ok : Bool) (P X Y : Type 0) : Type 0 where
  pub asked : Says ok P
  pub given : Given ok X Y
