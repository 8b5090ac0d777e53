-- The language's `<<`, `>>`, `&` and `!` on unsigned integers, as products, quotients, remainders and differences.
use mathlib.Core.Path.{◌≡◌, refl, ap, ◌∙◌}
use mathlib.Core.Bool.{true}
use Prim.Native.Nat.{ℕ, ◌-◌, ◌*◌, ◌/◌, ◌%◌, ◌^◌, ◌≤◌}
use native.Mathlib.Nat.{mod-eq_of_lt}
use borrow.Author.Tests.{eq-eqb}
use lib.Bits.{and_mask}
use lib.Dec.{eqb}
use lib.Pow.{lt_of_le_ones}
use mir.Syntax as code
use mir.Val.{vint, bits, bytes, op2_val, op1_val}

module _ (w : code.Width) (a b : ℕ) where
  -- both operands are of one width
  same : eqb (bytes w) (bytes w) ≡ true
  same = eq-eqb (bytes w) (bytes w) refl

  pub shift_left_is : op2_val code.shl (vint w a) (vint w b) ≡ vint w (a * 2 ^ b % 2 ^ bits w)
  shift_left_is = rw same

  -- where nothing is shifted out
  pub shift_left_exact : a * 2 ^ b ≤ 2 ^ bits w - 1 → op2_val code.shl (vint w a) (vint w b) ≡ vint w (a * 2 ^ b)
  shift_left_exact h = shift_left_is ∙ ap (vint w) (mod-eq_of_lt (lt_of_le_ones (bits w) h))

  pub shift_right_is : op2_val (code.shr code.unsigned) (vint w a) (vint w b) ≡ vint w (a / 2 ^ b)
  shift_right_is = rw same

  -- a mask of the b lowest bits
  pub mask_is : op2_val code.bit_and (vint w a) (vint w (2 ^ b - 1)) ≡ vint w (a % 2 ^ b)
  mask_is = rw same (ap (vint w) (and_mask a b))

pub complement_is : (w : code.Width) (a : ℕ) → op1_val code.bit_not (vint w a) ≡ vint w (2 ^ bits w - 1 - a)
complement_is w a = refl
