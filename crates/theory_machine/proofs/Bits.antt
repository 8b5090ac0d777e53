-- A signed integer is stored as bits: `of_z w` writes a number as bits and `to_z w` reads them, so where code holds a signed a, a goal says
-- `to_z w (of_z w a)`. `SFits w a` is how the language says that a is of the signed kind. This is the one file that names the widths.
use mathlib.Core.Path.{◌≡◌, refl}
use Prim.Native.Nat.{ℕ, suc, ◌+◌, ◌-◌, ◌*◌, ◌/◌, ◌%◌, ◌^◌, ◌<◌}
use native.Mathlib.Nat.{mod-lt}
use native.Mathlib.Omega.{arith}
use lib.Pow.{pow_pos}
use lib.Dec.{ltb, lit≤}
use lib.IntN.{ℤ, pos, negsuc, ◌*ℤ◌}
use lib.Signed.{mag, shr_z}
use mir.Syntax.{Width, w8, w16, w32, w64, w128}
use mir.Val.{bits, hbits, SFits, to_z, of_z}
use mir.Facts.{to_z-of_z}
use borrow.Author.Tests.{ltb-true, ltb-false}
use Rattle.theory_whole.specs.Kind.{Kind, unsigned, signed}
use Rattle.theory_whole.specs.Division.{ediv}
use Rattle.theory_whole.specs.Fit.{wrap}
use Rattle.theory_whole.proofs.Cases.{by_test}
use Rattle.theory_whole.proofs.Alike.{Alike, alike_itself, alike_mul}
use Rattle.theory_whole.proofs.Fits.{In, real_unsigned, real_signed}
use Rattle.theory_whole.proofs.Wrap.{wrap_in, wrap_alike, wrap_same, wrap_over, wrap_again, wrap_op}
use Rattle.theory_whole.proofs.Unsigned.{wraps_same, wraps_under, wraps_remainder}

pub halves : (w : Width) → 2 ^ bits w ≡ 2 ^ hbits w + 2 ^ hbits w
halves w8 = refl
halves w16 = refl
halves w32 = refl
halves w64 = refl
halves w128 = refl

pub half : (w : Width) → 2 ^ bits w / 2 ≡ 2 ^ hbits w
half w8 = refl
half w16 = refl
half w32 = refl
half w64 = refl
half w128 = refl

pub some_bits : (w : Width) → 0 < bits w
some_bits w8 = lit≤ tt
some_bits w16 = lit≤ tt
some_bits w32 = lit≤ tt
some_bits w64 = lit≤ tt
some_bits w128 = lit≤ tt

-- the language's shift right is the Euclidean quotient
pub rounded_down : (a : ℤ) (m : ℕ) → shr_z a m ≡ ediv a (pos m)
unfolding ediv
rounded_down (pos a) m = refl
rounded_down (negsuc a) m = refl

module _ (w : Width) where
  abbrev U : Kind
  U = unsigned (bits w)

  abbrev S : Kind
  S = signed (bits w)

  pub in_signed : {z : ℤ} → SFits w z → In S z
  in_signed {z} f = to z f.sfits
    where
      to : (z : ℤ) → mag z < 2 ^ hbits w → In S z
      to (pos n) h = record { above = omega arith; below = omega (arith, half w, halves w) }
      to (negsuc n) h = record { above = omega (arith, half w, halves w); below = omega (arith, half w, halves w) }

  pub signed_fits : {z : ℤ} → In S z → SFits w z
  signed_fits {z} i = to z i
    where
      to : (z : ℤ) → In S z → SFits w z
      to (pos n) i = record { sfits = omega (arith, half w, halves w, i.below) }
      to (negsuc n) i = record { sfits = omega (arith, half w, halves w, i.above) }

  -- ---- bits read as signed, and the bits of a signed number
  pub bits_read : {n : ℕ} → n < 2 ^ bits w → to_z w n ≡ wrap S (pos n)
  bits_read {n} h =
      by_test (ltb n (2 ^ hbits w))
      (λ t. let l = ltb-true n (2 ^ hbits w) t in rw t (wrap_same (real_signed (bits w)) (pos n) (in_signed (record { sfits = l }))))
      (λ f. let l = ltb-false n (2 ^ hbits w) f in
      rw f
      (wrap_over (real_signed (bits w)) (pos n) (negsuc (2 ^ bits w - suc n))
      (in_signed (record { sfits = omega (arith, halves w) })) (omega (arith, halves w))))

  pub bits_written : {z : ℤ} → SFits w z → pos (of_z w z) ≡ wrap U z
  bits_written {z} f = to z f
    where
      to : (z : ℤ) → SFits w z → pos (of_z w z) ≡ wrap U z
      to (pos n) f = wraps_same (bits w) (pos n) n (omega (arith, halves w, f.sfits)) (omega arith)
      to (negsuc n) f = wraps_under (bits w) (negsuc n) (2 ^ bits w - suc n) (omega (arith, halves w, f.sfits)) (omega (arith, halves w, f.sfits))

  -- a wrapped number is read back as it is
  pub read_back : (z : ℤ) {r : ℤ} → r ≡ wrap S z → to_z w (of_z w r) ≡ r
  read_back z e = to_z-of_z (signed_fits (rw e (wrap_in (real_signed (bits w)) z)))

  pub bits_of_bits : {n : ℕ} → n < 2 ^ bits w → to_z w (2 ^ bits w - 1 - (2 ^ bits w - 1 - n)) ≡ wrap S (pos n)
  bits_of_bits {n} h = let e : 2 ^ bits w - 1 - (2 ^ bits w - 1 - n) ≡ n = omega arith in rw e (bits_read h)

  -- ---- shifts
  pub shifted_left : {a : ℤ} (m : ℕ) → SFits w a → to_z w ((of_z w a * m) % 2 ^ bits w) ≡ wrap S (a *ℤ pos m)
  shifted_left {a} m f =
      let p = pow_pos (bits w) in
      let t : pos ((of_z w a * m) % 2 ^ bits w) ≡ wrap U (pos (of_z w a) *ℤ pos m) = wraps_remainder (bits w) (of_z w a * m) in
      let a' : Alike (2 ^ bits w) (pos (of_z w a)) a = rw (bits_written f) (wrap_alike (real_unsigned (bits w)) a) in
      let b = mod-lt (of_z w a * m) p in
      let r = wrap_again (real_signed (bits w)) (real_unsigned (bits w)) refl (pos (of_z w a) *ℤ pos m) t (bits_read b) in
      wrap_op (real_signed (bits w)) ◌*ℤ◌ (alike_mul p) _ a' (alike_itself (pos m)) r
