-- A product is told by dividing it again: where p is a b wrapped, a b fits exactly where p by a is b.
use mathlib.Core.Path.{◌≡◌, refl, sym, ap, ◌∙◌}
use mathlib.Core.Bool.{true, false}
use mathlib.Core.Logic.{◌⊎◌, inl, inr}
use Prim.Native.Nat.{ℕ, zero, suc, ◌*◌, ◌/◌, ◌^◌, ◌≤◌, ◌<◌}
use native.Mathlib.Nat.{mul-div_cancel_left, zero-div, div-mul-le_self, mul_comm}
use native.Mathlib.Omega.{arith}
use lib.Dec.{ltb}
use lib.Pow.{pow_pos}
use borrow.Author.Tests.{ltb-true, ltb-false}
use lib.IntN.{ℤ, pos, negsuc, neg_ℤ, nat_abs, ◌+ℤ◌, ◌-ℤ◌, ◌*ℤ◌, *ℤ_comm}
use lib.Signed.{quot_z, rem_z}
use Rattle.theory_whole.specs.Kind.{unsigned, signed}
use Rattle.theory_answers.specs.Answer.{Answers}
use Rattle.theory_whole.specs.Fit.{wrap, refuse}
use Rattle.theory_whole.proofs.Halves.{up, down, by_halves, same_halves, sum, difference}
use Rattle.theory_whole.proofs.Cases.{by_test}
use Rattle.theory_whole.proofs.Alike.{Alike, alike_itself, alike_same, alike_then, alike_sub}
use Rattle.theory_whole.proofs.Fits.{In, Out, real_unsigned, real_signed, in_or_out}
use Rattle.theory_whole.proofs.Wrap.{one_of_kind, wrap_in, wrap_alike, wrap_same}
use Rattle.theory_whole.proofs.Refuse.{accepts, refuses}
use Rattle.theory_whole.proofs.Divisions.{truncated}
use Rattle.theory_whole.proofs.Unsigned.{in_unsigned, unsigned_below, natural_fits, natural_over, positive}

-- ---- a product by its first factor

negative_by_positive : (x b : ℕ) → quot_z (neg_ℤ (pos x)) (pos b) ≡ neg_ℤ (pos (x / b))
negative_by_positive zero b = rw zero-div
negative_by_positive (suc x) b = refl

negative_by_negative : (x b : ℕ) → quot_z (neg_ℤ (pos x)) (negsuc b) ≡ pos (x / suc b)
negative_by_negative zero b = rw zero-div
negative_by_negative (suc x) b = refl

pub product_by_factor : (a b : ℤ) → 0 < nat_abs a → quot_z (a *ℤ b) a ≡ b
product_by_factor (pos a) (pos b) h = ap pos (mul-div_cancel_left b h)
product_by_factor (pos a) (negsuc b) h = negative_by_positive (a * suc b) a ∙ ap (λ (n : ℕ). neg_ℤ (pos n)) (mul-div_cancel_left (suc b) h)
product_by_factor (negsuc a) (pos b) h = negative_by_negative (suc a * b) a ∙ ap pos (mul-div_cancel_left b h)
product_by_factor (negsuc a) (negsuc b) h = ap (λ (n : ℕ). neg_ℤ (pos n)) (mul-div_cancel_left (suc b) h)

-- ---- and back

smaller_in : (w : ℕ) (r a : ℤ) → In (signed w) a → nat_abs r < nat_abs a → In (signed w) r
smaller_in w (pos m) (pos n) i l = let b = i.below in record { above = omega arith; below = omega arith }
smaller_in w (pos m) (negsuc n) i l = let b = i.above in record { above = omega arith; below = omega arith }
smaller_in w (negsuc m) (pos n) i l = let b = i.below in record { above = omega arith; below = omega (arith, pow_pos w) }
smaller_in w (negsuc m) (negsuc n) i l = let b = i.above in record { above = omega arith; below = omega (arith, pow_pos w) }

module _ (w : ℕ) (a b p : ℤ) (i : In (signed w) a) (some : 0 < nat_abs a) (e : p ≡ wrap (signed w) (a *ℤ b)) where
  -- what is left is less than a, and a multiple of the size
  told : quot_z p a ≡ b → p ≡ a *ℤ b
  told q =
      let t = truncated p a some in
      let r = rem_z p a in
      let whole : p ≡ a *ℤ b +ℤ r = t.0 ∙ ap (λ (x : ℤ). x *ℤ a +ℤ r) q ∙ ap (λ (x : ℤ). x +ℤ r) (*ℤ_comm b a) in
      let alike : Alike (2 ^ w) (a *ℤ b +ℤ r) (a *ℤ b) = alike_then (pow_pos w) (alike_same (sym whole ∙ e)) (wrap_alike (real_signed w) (a *ℤ b)) in
      let left : Alike (2 ^ w) (a *ℤ b +ℤ r -ℤ a *ℤ b) (a *ℤ b -ℤ a *ℤ b) = alike_sub (pow_pos w) alike (alike_itself (a *ℤ b)) in
      let s = sum (a *ℤ b) r in
      let d = difference (a *ℤ b +ℤ r) (a *ℤ b) in
      let n = difference (a *ℤ b) (a *ℤ b) in
      let is-r : r ≡ a *ℤ b +ℤ r -ℤ a *ℤ b = by_halves r (a *ℤ b +ℤ r -ℤ a *ℤ b) (omega arith) in
      let is_none : a *ℤ b -ℤ a *ℤ b ≡ pos 0 = by_halves (a *ℤ b -ℤ a *ℤ b) (pos 0) (omega arith) in
      let j = smaller_in w r a i t.1 in
      let k : In (signed w) (pos 0) = record { above = omega arith; below = omega (arith, pow_pos w) } in
      let none : r ≡ pos 0 = one_of_kind (real_signed w) r (pos 0) j k (alike_then (pow_pos w) (alike_same is-r) (alike_then (pow_pos w) left (alike_same is_none))) in
      whole ∙ by_halves (a *ℤ b +ℤ r) (a *ℤ b) (let z = ap up none in let y = ap down none in omega arith)

  pub quotient_is_factor : quot_z p a ≡ b → Answers true p (refuse (signed w) (a *ℤ b))
  quotient_is_factor q =
      let t = told q in
      accepts (real_signed w) (a *ℤ b) p (rw (← t, e) (wrap_in (real_signed w) (a *ℤ b))) t

  pub quotient_is_other : (quot_z p a ≡ b → ⊥) → Answers false (pos 0) (refuse (signed w) (a *ℤ b))
  quotient_is_other n = refuses (real_signed w) (a *ℤ b) (go (in_or_out (signed w) (a *ℤ b)))
    where
      go : In (signed w) (a *ℤ b) ⊎ Out (signed w) (a *ℤ b) → Out (signed w) (a *ℤ b)
      go (inr o) = o
      go (inl j) = absurd (n (ap (λ (x : ℤ). quot_z x a) (e ∙ sym (wrap_same (real_signed w) (a *ℤ b) j)) ∙ product_by_factor a b some))

-- ---- the same without signs, where the quotient alone bounds the product

module _ (w a b p : ℕ) (some : a ≡ 0 → ⊥) (e : pos p ≡ wrap (unsigned w) (pos a *ℤ pos b)) where
  product_is : a * b < 2 ^ w → p ≡ a * b
  product_is h =
      let s = same_halves (e ∙ sym (wrap_same (real_unsigned w) (pos (a * b)) (in_unsigned w h))) in
      omega arith

  pub natural_quotient_is_factor : p / a ≡ b → Answers true (pos p) (refuse (unsigned w) (pos a *ℤ pos b))
  natural_quotient_is_factor q =
      let under : p < 2 ^ w = unsigned_below w (rw e (wrap_in (real_unsigned w) (pos a *ℤ pos b))) in
      let l : b * a ≤ p = (rw q at (div-mul-le_self p a)) in
      let h : a * b < 2 ^ w = omega (arith, l, under, mul_comm a b) in
      rw (← product_is h) (natural_fits w (omega (arith, product_is h, h)))

  pub natural_quotient_is_other : (p / a ≡ b → ⊥) → Answers false (pos 0) (refuse (unsigned w) (pos a *ℤ pos b))
  natural_quotient_is_other n =
      by_test (ltb (a * b) (2 ^ w))
      (λ t. absurd (n (ap (λ (x : ℕ). x / a) (product_is (ltb-true (a * b) (2 ^ w) t)) ∙ mul-div_cancel_left b (positive a some))))
      (λ t. natural_over w (ltb-false (a * b) (2 ^ w) t))
