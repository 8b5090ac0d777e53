-- Reading with a sign: '-' or none, and then a natural.
use mathlib.Core.Path.{◌≡◌, refl}
use mathlib.Core.Bool.{Bool, true, false}
use mathlib.Core.List.{List}
use Prim.Native.Nat.{ℕ, ◌+◌, ◌≤◌, ◌<◌}
use native.Mathlib.Omega.{arith}
use borrow.Author.Tests.{eq-eqb, ne_eqb}
use lib.ListN.{length, get_or}
use lib.IntN.{ℤ, pos, neg_ℤ}
use lib.Pow.{pow_pos}
use Rattle.theory_whole.specs.Kind.{unsigned, signed}
use Rattle.theory_answers.specs.Answer.{Answers}
use Rattle.std.specs.Prelude.{Option}
use Rattle.theory_whole.specs.Fit.{refuse}
use Rattle.theory_whole.proofs.Halves.{up_neg, down_neg}
use Rattle.theory_whole.proofs.Fits.{under, over, real_signed}
use Rattle.theory_whole.proofs.Refuse.{refuses}
use Rattle.theory_lists.specs.Part.{part}
use Rattle.theory_lists.proofs.Part.{part_cons}
use Rattle.theory_decimal.specs.Read.{saying_natural, saying_whole, negated, fitting, natural_in, whole_in}
use Rattle.theory_decimal.proofs.Reading.{read_part, no_whole}
use Rattle.theory_decimal.proofs.Narrower.{RefusedOrOver, no_number, too_large, was_said, was_refused}

-- the part that has the figures begins behind the sign, or where the text begins
module _ (w f t : ℕ) (s : List ℕ) (inside : f < t) (h : t ≤ length s) where
  negative_text : get_or s f 0 ≡ 0x2d → saying_whole (part f t s) ≡ negated (saying_natural (part (f + 1) t s))
  unfolding saying_whole
  negative_text e = rw (part_cons f t s inside h, eq-eqb (get_or s f 0) 0x2d e)

  text_without_sign : (get_or s f 0 ≡ 0x2d → ⊥) → saying_whole (part f t s) ≡ saying_natural (part f t s)
  unfolding saying_whole
  text_without_sign n = rw (part_cons f t s inside h, ne_eqb (get_or s f 0) 0x2d n)

  large_out : {a : Option ℤ} → RefusedOrOver w a → Answers false (pos 0) (fitting (signed w) a)
  unfolding fitting
  large_out no_number = (refl, refl)
  large_out (too_large n o) = refuses (real_signed w) (pos n) (over (omega arith))

  negative_out : {a : Option ℤ} → RefusedOrOver w a → Answers false (pos 0) (fitting (signed w) (negated a))
  unfolding fitting negated
  negative_out no_number = (refl, refl)
  negative_out (too_large n o) =
      let u = up_neg (pos n) in
      let d = down_neg (pos n) in
      let p = pow_pos w in
      refuses (real_signed w) (neg_ℤ (pos n)) (under (omega arith))

  module _ (ok : Bool) (v : ℕ) (r : Answers ok (pos v) (natural_in (unsigned w) (f + 1) t s)) (sign : get_or s f 0 ≡ 0x2d) where
    pub negative_refused : ok ≡ false → Answers false (pos 0) (whole_in (signed w) f t s)
    negative_refused o =
        rw (read_part saying_whole (signed w) f t s no_whole h, negative_text sign) (negative_out (was_refused w (f + 1) t s ok v r o h))

    pub negative_read : ok ≡ true → whole_in (signed w) f t s ≡ refuse (signed w) (neg_ℤ (pos v))
    unfolding fitting negated
    negative_read o = rw (read_part saying_whole (signed w) f t s no_whole h, negative_text sign, was_said w (f + 1) t s ok v r o) refl

  module _ (ok : Bool) (v : ℕ) (r : Answers ok (pos v) (natural_in (unsigned w) f t s)) (no_sign : get_or s f 0 ≡ 0x2d → ⊥) where
    pub positive_refused : ok ≡ false → Answers false (pos 0) (whole_in (signed w) f t s)
    positive_refused o =
        rw (read_part saying_whole (signed w) f t s no_whole h, text_without_sign no_sign) (large_out (was_refused w f t s ok v r o h))

    pub positive_read : ok ≡ true → whole_in (signed w) f t s ≡ refuse (signed w) (pos v)
    unfolding fitting
    positive_read o = rw (read_part saying_whole (signed w) f t s no_whole h, text_without_sign no_sign, was_said w f t s ok v r o) refl
