-- Reading a part figure by figure.
use mathlib.Core.Path.{◌≡◌, refl, sym, ap, ◌∙◌}
use mathlib.Core.Bool.{Bool, true, false, ◌&&◌}
use mathlib.Core.List.{List, [], ◌∷◌, ◌++◌}
use Prim.Native.Nat.{ℕ, ◌+◌, ◌-◌, ◌*◌, ◌^◌, ◌≤◌, ◌<◌}
use native.Mathlib.Nat.{mul-one, one-le-pow, mul-le-mul_left}
use native.Mathlib.Omega.{arith}
use borrow.Author.Tests.{leb-true, leb-false}
use lib.Dec.{leb}
use lib.ListN.{length, get_or}
use lib.IntN.{ℤ, pos, negsuc}
use lib.Pow.{pow_pos}
use Rattle.theory_whole.specs.Kind.{Kind, unsigned}
use Rattle.theory_answers.specs.Answer.{Answers}
use Rattle.std.specs.Prelude.{Option, Some, None}
use Rattle.theory_whole.specs.Fit.{refuse}
use Rattle.theory_whole.proofs.Cases.{by_test, both_are, never}
use Rattle.theory_whole.proofs.Fits.{Out, under, over, real_unsigned}
use Rattle.theory_answers.proofs.Answer.{refusal, only_if_so, only_if_not}
use Rattle.theory_whole.proofs.Refuse.{accepted, declined}
use Rattle.theory_whole.proofs.Unsigned.{natural_fits, natural_over, unsigned_below}
use Rattle.theory_lists.specs.Part.{part, Within, is_within}
use Rattle.theory_lists.proofs.Part.{is_within_lem, not_within, length_part, part_none, part_append, part_cons}
use Rattle.theory_lists.proofs.Between.{is_between, not_below, not_above}
use Rattle.theory_decimal.specs.Read.{is_figure, all_figures, meant, saying_natural, saying_whole, fitting, pushed, read_in, natural_in}
use Rattle.theory_decimal.proofs.Figures.{all_append, meant_append, meant_push}
use Rattle.theory_decimal.proofs.Plain.{figures_say}

pub other_text_refused : (text : List ℕ) → all_figures text ≡ false → saying_natural text ≡ None
unfolding saying_natural
other_text_refused [] e = refl
other_text_refused (c ∷ text) e = only_if_not (all_figures (c ∷ text)) (Some (pos (meant (c ∷ text)))) e

-- ---- a part, by either reading

module _ (saying : List ℕ → Option ℤ) (k : Kind) (f t : ℕ) (s : List ℕ) where
  pub past_the_end : length s < t → Answers false (pos 0) (read_in saying k f t s)
  unfolding read_in
  past_the_end h = refusal (read_in saying k f t s) (only_if_not (is_within f t s) (fitting k (saying (part f t s))) (not_within (λ w. omega (arith, w.ends))))

  -- the ends may be the wrong way round: then the part is empty
  module _ (nothing : saying [] ≡ None) where
    empty_refused : t ≤ f → fitting k (saying (part f t s)) ≡ None
    unfolding fitting
    empty_refused l = let e : t - f ≡ 0 = omega arith in rw (e, nothing)

    pub read_part : t ≤ length s → read_in saying k f t s ≡ fitting k (saying (part f t s))
    unfolding read_in
    read_part h =
        by_test (leb f t)
        (λ e. only_if_so (is_within f t s) (fitting k (saying (part f t s))) (is_within_lem (record { ordered = leb-true f t e; ends = h })))
        (λ e. let l = leb-false f t e in
        only_if_not (is_within f t s) (fitting k (saying (part f t s))) (not_within (λ w. omega (arith, w.ordered))) ∙ sym (empty_refused (omega arith)))

    pub no_text : t ≤ length s → t ≤ f → Answers false (pos 0) (read_in saying k f t s)
    no_text h l = refusal (read_in saying k f t s) (read_part h ∙ empty_refused l)

pub no_natural : saying_natural [] ≡ None
unfolding saying_natural
no_natural = refl

pub no_whole : saying_whole [] ≡ None
unfolding saying_whole
no_whole = refl

module _ (k : Kind) (f t : ℕ) (s : List ℕ) where
  in_figures : f < t → t ≤ length s → all_figures (part f t s) ≡ true → natural_in k f t s ≡ refuse k (pos (meant (part f t s)))
  unfolding fitting
  in_figures l h e =
      let w : Within f t s = record { ordered = omega arith; ends = h } in
      read_part saying_natural k f t s no_natural h ∙ ap (fitting k) (figures_say (part f t s) (omega (arith, length_part w)) e)

  in_others : t ≤ length s → all_figures (part f t s) ≡ false → natural_in k f t s ≡ None
  unfolding fitting
  in_others h e = read_part saying_natural k f t s no_natural h ∙ ap (fitting k) (other_text_refused (part f t s) e)

-- ---- one more figure

module _ (w n c : ℕ) where
  other : is_figure c ≡ false → Answers false (pos 0) (pushed (unsigned w) n c)
  unfolding pushed
  other e = refusal (pushed (unsigned w) n c) (only_if_not (is_figure c) (refuse (unsigned w) (pos (c - 0x30 + 10 * n))) e)

  pub other_below : c < 0x30 → Answers false (pos 0) (pushed (unsigned w) n c)
  other_below h = other (not_below 0x30 0x39 c h)

  pub other_above : 0x39 < c → Answers false (pos 0) (pushed (unsigned w) n c)
  other_above h = other (not_above 0x30 0x39 c h)

  module _ (low : 0x30 ≤ c) (high : c ≤ 0x39) where
    figure_pushed : pushed (unsigned w) n c ≡ refuse (unsigned w) (pos (c - 0x30 + 10 * n))
    unfolding pushed
    figure_pushed = only_if_so (is_figure c) (refuse (unsigned w) (pos (c - 0x30 + 10 * n))) (is_between 0x30 0x39 c low high)

    pub figure_over : 2 ^ w ≤ c - 0x30 + 10 * n → Answers false (pos 0) (pushed (unsigned w) n c)
    figure_over h = rw figure_pushed (natural_over w h)

    pub figure_fits : (v : ℕ) → v ≡ c - 0x30 + 10 * n → v < 2 ^ w → Answers true (pos v) (pushed (unsigned w) n c)
    figure_fits v e h = rw (figure_pushed, ← e) (natural_fits w h)

-- ---- figure by figure

-- from place f up to and without place i there are only figures, and they mean n, which fits
pub record SoFar (w : ℕ) (s : List ℕ) (f i n : ℕ) : Type 0 where
  pub ordered : f ≤ i
  pub all : all_figures (part f i s) ≡ true
  pub number : n ≡ meant (part f i s)
  pub below : n < 2 ^ w

pub nothing_yet : (w : ℕ) (s : List ℕ) (f : ℕ) → SoFar w s f f 0
unfolding all_figures meant Rattle.theory_digits.specs.Digits.value
nothing_yet w s f = record { ordered = omega arith; all = rw part_none; number = rw part_none; below = pow_pos w }

pos_injective : {m n : ℕ} → pos m ≡ pos n → m ≡ n
pos_injective e = ap natural_of e
  where
    natural_of : ℤ → ℕ
    natural_of (pos n) = n
    natural_of (negsuc n) = n

module _ (w : ℕ) (s : List ℕ) (f i n : ℕ) (so : SoFar w s f i n) (h : i < length s) where
  one_more : part f (i + 1) s ≡ part f i s ++ (get_or s i 0 ∷ [])
  one_more =
      sym (part_append f i (i + 1) s so.ordered (omega arith))
      ∙ ap (λ (r : List ℕ). part f i s ++ r) (part_cons i (i + 1) s (omega arith) (omega arith) ∙ ap (λ (r : List ℕ). get_or s i 0 ∷ r) (part_none (i + 1) s))

  all_one_more : all_figures (part f (i + 1) s) ≡ is_figure (get_or s i 0)
  unfolding all_figures
  all_one_more = ap all_figures one_more ∙ all_append (part f i s) (get_or s i 0 ∷ []) ∙ rw so.all (and_true (is_figure (get_or s i 0)))
    where
      and_true : (b : Bool) → b && true ≡ b
      and_true true = refl
      and_true false = refl

  meant_one_more : meant (part f (i + 1) s) ≡ get_or s i 0 - 0x30 + 10 * n
  meant_one_more = ap meant one_more ∙ meant_push (part f i s) (get_or s i 0) ∙ rw so.number

  module _ (ok : Bool) (v : ℕ) (r : Answers ok (pos v) (pushed (unsigned w) n (get_or s i 0))) where
    by_figure : is_figure (get_or s i 0) ≡ true → Answers ok (pos v) (refuse (unsigned w) (pos (meant (part f (i + 1) s))))
    unfolding pushed
    by_figure e = rw meant_one_more (rw (only_if_so (is_figure (get_or s i 0)) (refuse (unsigned w) (pos (get_or s i 0 - 0x30 + 10 * n))) e) at r)

    by_other : is_figure (get_or s i 0) ≡ false → ok ≡ false
    unfolding pushed
    by_other e = (rw (only_if_not (is_figure (get_or s i 0)) (refuse (unsigned w) (pos (get_or s i 0 - 0x30 + 10 * n))) e) at r).0

    pub so_far_next : ok ≡ true → SoFar w s f (i + 1) v
    so_far_next o =
        by_test (is_figure (get_or s i 0))
        (λ e. let a = accepted (real_unsigned w) ok (pos v) (pos (meant (part f (i + 1) s))) (by_figure e) o in
        let same = pos_injective a.1 in
        record { ordered = omega (arith, so.ordered); all = all_one_more ∙ e; number = same; below = omega (arith, same, unsigned_below w a.0) })
        (λ e. never o (by_other e))

    -- no longer text is a number that fits
    pub so_far_stuck : ok ≡ false → (t : ℕ) → i < t → t ≤ length s → Answers false (pos 0) (natural_in (unsigned w) f t s)
    so_far_stuck o t l m =
        let split : part f t s ≡ part f (i + 1) s ++ part (i + 1) t s = sym (part_append f (i + 1) t s (omega (arith, so.ordered)) (omega arith)) in
        let both-parts : all_figures (part f t s) ≡ is_figure (get_or s i 0) && all_figures (part (i + 1) t s) = ap all_figures split ∙ all_append (part f (i + 1) s) (part (i + 1) t s) ∙ rw all_one_more in
        by_test (all_figures (part f t s))
        (λ e. let c = (both_are (is_figure (get_or s i 0)) (all_figures (part (i + 1) t s)) (sym both-parts ∙ e)).0 in
        rw (in_figures (unsigned w) f t s (omega (arith, so.ordered)) m e)
        (natural_over w (grown (part (i + 1) t s) split (declined (real_unsigned w) ok (pos v) (pos (meant (part f (i + 1) s))) (by_figure c) o))))
        (λ e. refusal (natural_in (unsigned w) f t s) (in_others (unsigned w) f t s m e))
      where
        grown : {whole : List ℕ} (more : List ℕ) → whole ≡ part f (i + 1) s ++ more → Out (unsigned w) (pos (meant (part f (i + 1) s))) → 2 ^ w ≤ meant whole
        grown {whole} more split (under u) = let none : ⊥ = omega arith in absurd none
        grown {whole} more split (over u) =
            let m = ap meant split ∙ meant_append (part f (i + 1) s) more in
            let p : 1 ≤ 10 ^ length more = one-le-pow (length more) 10 (omega arith) in
            let g = mul-le-mul_left (meant (part f (i + 1) s)) p in
            omega (arith, m, g, mul-one (meant (part f (i + 1) s)))

pub so_far_all : (w : ℕ) (s : List ℕ) (f i t n : ℕ) → SoFar w s f i n → i ≡ t → f < t → t ≤ length s → Answers true (pos n) (natural_in (unsigned w) f t s)
so_far_all w s f i t n so e l h =
    let all : all_figures (part f t s) ≡ true = ap (λ (k : ℕ). all_figures (part f k s)) (sym e) ∙ so.all in
    let number : n ≡ meant (part f t s) = so.number ∙ ap (λ (k : ℕ). meant (part f k s)) e in
    rw (in_figures (unsigned w) f t s l h all, ← number) (natural_fits w so.below)
