-- Whether anything is left, as the loops ask it.
use mathlib.Core.Path.{◌≡◌, sym, ◌∙◌}
use mathlib.Core.Bool.{Bool, true, false, not, true≢false, false≢true}
use Prim.Native.Nat.{ℕ}
use Rattle.theory_answers.specs.Says.{Says}

module _ {n m : ℕ} (zero : m ≡ 0) where
  pub something_left : (same : Bool) → Says same (n ≡ m) → true ≡ not same → n ≡ 0 → ⊥
  something_left true s e = absurd (true≢false e)
  something_left false s e = λ nothing. s (nothing ∙ sym zero)

  pub nothing_left : (same : Bool) → Says same (n ≡ m) → false ≡ not same → n ≡ 0
  nothing_left true s e = s ∙ zero
  nothing_left false s e = absurd (false≢true e)
