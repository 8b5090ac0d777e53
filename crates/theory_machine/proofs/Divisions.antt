-- A divisor by its bits: it is 0 exactly where these are.
use mathlib.Core.Path.{◌≡◌, refl, ap}
use mathlib.Core.Bool.{false}
use native.Mathlib.Omega.{arith}
use lib.IntN.{ℤ, pos, negsuc}
use mir.Syntax.{Width}
use mir.Val.{SFits, of_z}
use borrow.Author.Tests.{ne_eqb}
use Rattle.theory_whole.specs.Order.{eq_z}
use Rattle.theory_machine.proofs.Bits.{halves}

pub zero_bits : (w : Width) {b : ℤ} → SFits w b → of_z w b ≡ 0 → b ≡ pos 0
zero_bits w {b} g e = to b g e
  where
    to : (b : ℤ) → SFits w b → of_z w b ≡ 0 → b ≡ pos 0
    to (pos n) g e = ap pos e
    to (negsuc n) g e = let none : ⊥ = omega (arith, halves w, g.sfits) in absurd none

pub not_zero_bits : (w : Width) (b : ℤ) → (of_z w b ≡ 0 → ⊥) → eq_z b (pos 0) ≡ false
not_zero_bits w (pos b) n = ne_eqb b 0 n
not_zero_bits w (negsuc b) n = refl
