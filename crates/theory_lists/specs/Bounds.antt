-- Numbers from one to another, and lists of numbers that are all below one.
use Rattle.std.specs.Prelude.{Bool, ◌&&◌, List, [], ◌∷◌, ℕ, ◌<◌, leb}

unfoldable pub between : ℕ → ℕ → ℕ → Bool
between low high x = leb low x && leb x high

unfoldable pub AllBelow : ℕ → List ℕ → Type 0
AllBelow b [] = Unit {0}
AllBelow b (x ∷ xs) = (x < b) × AllBelow b xs
