-- Going back from the end: so far all bytes were 10xxxxxx.
use mathlib.Core.Path.{◌≡◌, subst}
use mathlib.Core.Bool.{true}
use mathlib.Core.List.{List}
use Prim.Native.Nat.{ℕ, ◌+◌, ◌-◌, ◌/◌, ◌<◌, ◌≤◌}
use native.Mathlib.Omega.{arith}
use lib.Dec.{ltb}
use lib.ListN.{length, get_or}
use borrow.Author.Tests.{eq-eqb, ne_eqb, ltb-true, ltb-false}
use Rattle.theory_whole.proofs.Cases.{by_test}
use Rattle.theory_text.specs.Scalar.{follows}
use Rattle.theory_text.specs.Boundary.{Back}

pub record Going (s : List ℕ) (k : ℕ) : Type 0 where
  pub some : 0 < k
  pub most : k ≤ 4
  pub inside : k ≤ length s
  pub behind : (j : ℕ) → 0 < j → j < k → follows (get_or s (length s - j) 0) ≡ true

module _ (s : List ℕ) where
  pub going_start : 0 < length s → Going s 1
  going_start p = record { some = omega arith; most = omega arith; inside = omega arith; behind = λ j l h. absurd (omega arith) }

  module _ (k : ℕ) (g : Going s k) where
    pub going_next : k < 4 → k < length s → get_or s (length s - k) 0 / 64 ≡ 2 → Going s (k + 1)
    going_next h l e =
        record {
          some = omega arith;
          most = omega arith;
          inside = omega arith;
          behind = λ j p q.
              by_test (ltb j k) (λ t. g.behind j p (ltb-true j k t))
              (λ t. let m = ltb-false j k t in
              let i : k ≡ j = omega arith in
              subst (λ (n : ℕ). follows (get_or s (length s - n) 0) ≡ true) i (eq-eqb (get_or s (length s - k) 0 / 64) 2 e));
        }

    pub going_stop : (k < 4 → k < length s → get_or s (length s - k) 0 / 64 ≡ 2 → ⊥) → Back s k
    going_stop n =
        record {
          some = g.some;
          most = g.most;
          inside = g.inside;
          behind = g.behind;
          stops = λ h l. ne_eqb (get_or s (length s - k) 0 / 64) 2 (n h l);
        }
