-- What the test says whether a number is from one to another.
use mathlib.Core.Path.{◌≡◌}
use mathlib.Core.Bool.{true, false}
use Prim.Native.Nat.{ℕ, ◌≤◌, ◌<◌}
use native.Mathlib.Omega.{arith}
use lib.Dec.{leb}
use Rattle.theory_answers.specs.Says.{Says}
use Rattle.theory_answers.proofs.Says.{says_true, true_where, false_where}
use Rattle.theory_answers.proofs.Tests.{says_at_most, says_both}
use Rattle.theory_lists.specs.Bounds.{between}

module _ (low high x : ℕ) where
  pub says_between : Says (between low high x) ((low ≤ x) × (x ≤ high))
  unfolding between
  says_between = says_both (leb low x) (leb x high) (low ≤ x) (x ≤ high) (says_at_most low x) (says_at_most x high)

  pub is_between : low ≤ x → x ≤ high → between low high x ≡ true
  is_between p q = true_where (between low high x) says_between (p, q)

  pub not_below : x < low → between low high x ≡ false
  not_below p = false_where (between low high x) says_between (λ b. omega arith)

  pub not_above : high < x → between low high x ≡ false
  not_above p = false_where (between low high x) says_between (λ b. omega arith)

  pub bounds_of : between low high x ≡ true → (low ≤ x) × (x ≤ high)
  bounds_of e = says_true says_between e
