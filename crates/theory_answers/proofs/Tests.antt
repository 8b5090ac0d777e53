-- What tests say, of numbers and joined.
use mathlib.Core.Path.{◌≡◌, refl}
use mathlib.Core.Bool.{Bool, true, false, ◌&&◌, ◌||◌}
use mathlib.Core.Logic.{◌⊎◌, inl, inr, ⊎_elim}
use Prim.Native.Nat.{ℕ, ◌≤◌, ◌<◌}
use native.Mathlib.Omega.{arith}
use lib.Dec.{eqb, ltb, leb}
use borrow.Author.Tests.{eqb-true, eqb-false, ltb-true, ltb-false, leb-true, leb-false}
use Rattle.theory_answers.specs.Says.{Says}

pub says_equal : (x y : ℕ) → Says (eqb x y) (x ≡ y)
says_equal x y = go (eqb x y) refl
  where
    go : (t : Bool) → eqb x y ≡ t → Says t (x ≡ y)
    go true e = eqb-true x y e
    go false e = eqb-false x y e

pub says_less : (x y : ℕ) → Says (ltb x y) (x < y)
says_less x y = go (ltb x y) refl
  where
    go : (t : Bool) → ltb x y ≡ t → Says t (x < y)
    go true e = ltb-true x y e
    go false e = let l = ltb-false x y e in λ h. omega arith

pub says_at_most : (x y : ℕ) → Says (leb x y) (x ≤ y)
says_at_most x y = go (leb x y) refl
  where
    go : (t : Bool) → leb x y ≡ t → Says t (x ≤ y)
    go true e = leb-true x y e
    go false e = let l = leb-false x y e in λ h. omega arith

pub says_both : (b c : Bool) (P Q : Type 0) → Says b P → Says c Q → Says (b && c) (P × Q)
says_both true true P Q p q = (p, q)
says_both true false P Q p n = λ pq. n pq.1
says_both false c P Q n q = λ pq. n pq.0

pub says_either : (b c : Bool) (P Q : Type 0) → Says b P → Says c Q → Says (b || c) (P ⊎ Q)
says_either true c P Q p q = inl p
says_either false true P Q n q = inr q
says_either false false P Q n m = λ pq. ⊎_elim n m pq
