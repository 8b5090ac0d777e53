-- Tests of a part: whether it is empty, and what its front and its back are beside another list.
use mathlib.Core.Path.{◌≡◌, ap}
use mathlib.Core.Bool.{Bool}
use mathlib.Core.List.{List}
use Prim.Native.Nat.{ℕ, ◌+◌, ◌-◌, ◌≤◌, ◌<◌}
use native.Mathlib.Omega.{arith}
use lib.Dec.{eqb}
use lib.ListN.{length, take, drop, length-take, length-drop}
use Rattle.theory_answers.specs.Says.{Says}
use Rattle.theory_lists.specs.Part.{part, Within}
use Rattle.theory_answers.proofs.Tests.{says_equal}
use Rattle.theory_answers.proofs.Says.{says_alike}
use Rattle.theory_lists.proofs.Part.{length_part, take_part, drop_part}

pub says_empty : {f t : ℕ} {s : List ℕ} → Within f t s → Says (eqb f t) (length (part f t s) ≡ 0)
says_empty {f} {t} {s} w =
    let l = length_part w in
    says_alike (eqb f t) (λ e. omega arith) (λ e. omega arith) (says_equal f t)

-- ---- beside another list

-- x is a piece of the part f..t of s, and is what stands from a up to e where the part is as long as the other
pub record Piece (f t : ℕ) (s other x : List ℕ) (a e : ℕ) : Type 0 where
  pub short : length x ≤ t - f
  pub stands : length other ≤ t - f → x ≡ part a e s

module _ (f t : ℕ) (s other : List ℕ) (w : Within f t s) where
  pub front : Piece f t s other (take (length other) (part f t s)) f (f + length other)
  front = record {
    short = omega (arith, length-take (length other) (part f t s), length_part w);
    stands = λ h. take_part (length other) f t s (omega (arith, w.ordered));
  }

  pub back : Piece f t s other (drop (t - f - length other) (part f t s)) (t - length other) t
  back = record {
    short = omega (arith, length-drop (t - f - length other) (part f t s), length_part w);
    stands = λ h. let e : f + (t - f - length other) ≡ t - length other = omega (arith, w.ordered) in rw (drop_part, e);
  }

module _ {f t : ℕ} {s other x : List ℕ} {a e : ℕ} (p : Piece f t s other x a e) where
  pub longer_is_not_there : t - f < length other → x ≡ other → ⊥
  longer_is_not_there h q = omega (arith, ap length q, p.short)

  pub says_there : (ok : Bool) → length other ≤ t - f → Says ok (part a e s ≡ other) → Says ok (x ≡ other)
  says_there ok h k = rw (p.stands h) k
