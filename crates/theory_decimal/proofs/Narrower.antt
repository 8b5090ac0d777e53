-- What was read as a natural of a wide kind, as one of a narrower kind.
use mathlib.Core.Path.{◌≡◌, refl, sym, ap, ◌∙◌}
use mathlib.Core.Bool.{Bool, true, false}
use mathlib.Core.List.{List, [], ◌∷◌}
use Prim.Native.Nat.{ℕ, ◌^◌, ◌≤◌}
use native.Mathlib.Omega.{arith}
use borrow.Author.Tests.{leb-true, leb-false}
use lib.Dec.{leb}
use lib.ListN.{length}
use lib.IntN.{ℤ, pos}
use lib.Pow.{pow_mono}
use Rattle.theory_whole.specs.Kind.{unsigned}
use Rattle.theory_answers.specs.Answer.{Answers}
use Rattle.std.specs.Prelude.{Option, Some, None}
use Rattle.theory_whole.specs.Fit.{refuse}
use Rattle.theory_whole.proofs.Cases.{by_test, never}
use Rattle.theory_whole.proofs.Fits.{Out, under, over, real_unsigned}
use Rattle.theory_answers.proofs.Answer.{only_if_so, only_if_not}
use Rattle.theory_whole.proofs.Refuse.{accepted, declined}
use Rattle.theory_whole.proofs.Unsigned.{natural_over}
use Rattle.theory_answers.proofs.Says.{says_true}
use Rattle.theory_lists.specs.Part.{part, is_within}
use Rattle.theory_lists.proofs.Part.{says_within}
use Rattle.theory_decimal.specs.Read.{all_figures, meant, saying_natural, fitting, read_in, natural_in}
use Rattle.theory_decimal.proofs.Reading.{past_the_end, read_part, no_natural}

-- what a text says is a natural or nothing
data NaturalOrNot : Option ℤ → Type 0 where
  nothing : NaturalOrNot None
  some_natural : (n : ℕ) → NaturalOrNot (Some (pos n))

natural_or_not : (text : List ℕ) → NaturalOrNot (saying_natural text)
unfolding saying_natural
natural_or_not [] = nothing
natural_or_not (c ∷ text) =
    by_test (all_figures (c ∷ text))
    (λ e. rw (only_if_so (all_figures (c ∷ text)) (Some (pos (meant (c ∷ text)))) e) (some_natural (meant (c ∷ text))))
    (λ e. rw (only_if_not (all_figures (c ∷ text)) (Some (pos (meant (c ∷ text)))) e) nothing)

-- why it is refused as a natural of w bits: the text says none, or one that is too large
pub data RefusedOrOver (w : ℕ) : Option ℤ → Type 0 where
  no_number : RefusedOrOver w None
  too_large : (n : ℕ) → 2 ^ w ≤ n → RefusedOrOver w (Some (pos n))

-- what an answer tells of the text
module _ (wide : ℕ) (f t : ℕ) (s : List ℕ) (ok : Bool) (v : ℕ) (r : Answers ok (pos v) (natural_in (unsigned wide) f t s)) where
  in_range : ok ≡ true → t ≤ length s
  unfolding read_in
  in_range o =
      by_test (is_within f t s) (λ e. (says_true (says_within f t s) e).ends)
      (λ e. never o (rw (only_if_not (is_within f t s) (fitting (unsigned wide) (saying_natural (part f t s))) e) at r).0)

  pub was_said : ok ≡ true → saying_natural (part f t s) ≡ Some (pos v)
  unfolding fitting
  was_said o = go (saying_natural (part f t s)) (rw (read_part saying_natural (unsigned wide) f t s no_natural (in_range o)) at r)
    where
      go : (a : Option ℤ) → Answers ok (pos v) (fitting (unsigned wide) a) → a ≡ Some (pos v)
      go None r = never o r.0
      go (Some z) r = ap Some (sym (accepted (real_unsigned wide) ok (pos v) z r o).1)

  pub was_refused : ok ≡ false → t ≤ length s → RefusedOrOver wide (saying_natural (part f t s))
  unfolding fitting
  was_refused o h = go (natural_or_not (part f t s)) (rw (read_part saying_natural (unsigned wide) f t s no_natural h) at r)
    where
      large : (n : ℕ) → Out (unsigned wide) (pos n) → 2 ^ wide ≤ n
      large n (under u) = let none : ⊥ = omega arith in absurd none
      large n (over u) = omega arith

      go : {a : Option ℤ} → NaturalOrNot a → Answers ok (pos v) (fitting (unsigned wide) a) → RefusedOrOver wide a
      go nothing r = no_number
      go (some_natural n) r = too_large n (large n (declined (real_unsigned wide) ok (pos v) (pos n) r o))

-- ---- a narrower kind

module _ (w wide : ℕ) (l : w ≤ wide) (f t : ℕ) (s : List ℕ) (ok : Bool) (v : ℕ) (r : Answers ok (pos v) (natural_in (unsigned wide) f t s)) where
  pub narrower : ok ≡ true → natural_in (unsigned w) f t s ≡ refuse (unsigned w) (pos v)
  unfolding fitting
  narrower o = read_part saying_natural (unsigned w) f t s no_natural (in_range wide f t s ok v r o) ∙ ap (fitting (unsigned w)) (was_said wide f t s ok v r o)

  still_out : {a : Option ℤ} → RefusedOrOver wide a → Answers false (pos 0) (fitting (unsigned w) a)
  unfolding fitting
  still_out no_number = (refl, refl)
  still_out (too_large n o) = let p : 2 ^ w ≤ 2 ^ wide = pow_mono {i = w} {j = wide} l in natural_over w (omega arith)

  pub narrow_refused : ok ≡ false → Answers false (pos 0) (natural_in (unsigned w) f t s)
  narrow_refused o =
      by_test (leb t (length s))
      (λ e. let h = leb-true t (length s) e in
      rw (read_part saying_natural (unsigned w) f t s no_natural h) (still_out (was_refused wide f t s ok v r o h)))
      (λ e. past_the_end saying_natural (unsigned w) f t s (leb-false t (length s) e))
