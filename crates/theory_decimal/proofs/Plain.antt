-- What is written is read back as the same number, has no superfluous zero, and is the only such text.
use mathlib.Core.Path.{◌≡◌, refl, sym, ap, ◌∙◌}
use mathlib.Core.Bool.{true}
use mathlib.Core.List.{List, [], ◌∷◌, map}
use Prim.Native.Nat.{ℕ, zero, suc, ◌+◌, ◌-◌, ◌*◌, ◌^◌, ◌≤◌, ◌<◌}
use native.Mathlib.Decide.{dec_lt}
use native.Mathlib.Nat.{one-mul, pow-le-pow_right, mul-le-mul_right}
use native.Mathlib.Omega.{arith}
use borrow.Author.Tests.{ne_eqb}
use lib.ListN.{length, get_or, length-map}
use lib.IntN.{ℤ, pos, negsuc, neg_ℤ}
use Rattle.std.specs.Prelude.{Option, Some, None}
use Rattle.theory_whole.proofs.Cases.{both_are}
use Rattle.theory_answers.proofs.Answer.{only_if_so}
use Rattle.theory_digits.proofs.High.{value_high_below, value_high_push_highest, digits_high_of_value_high}
use Rattle.theory_lists.proofs.Between.{bounds_of}
use Rattle.theory_decimal.specs.Written.{places, figure, figures, natural, whole}
use Rattle.theory_decimal.specs.Read.{is_figure, all_figures, digits_of, meant, saying_natural, saying_whole, negated}
use Rattle.theory_decimal.specs.Plain.{Plain, PlainWhole, without_sign, with_sign}
use Rattle.theory_decimal.proofs.Places.{places_some, places_hold, places_least}
use Rattle.theory_decimal.proofs.Figures.{length_figures, figures_are, figures_mean, digits_below_ten, figures_of_digits}

-- ---- what figures say

pub figures_say : (text : List ℕ) → 0 < length text → all_figures text ≡ true → saying_natural text ≡ Some (pos (meant text))
unfolding saying_natural
figures_say [] h e = absurd (omega arith)
figures_say (c ∷ text) h e = only_if_so (all_figures (c ∷ text)) (Some (pos (meant (c ∷ text)))) e

pub figures_have_no_sign : (text : List ℕ) → all_figures text ≡ true → saying_whole text ≡ saying_natural text
unfolding saying_whole saying_natural all_figures
figures_have_no_sign [] e = refl
figures_have_no_sign (c ∷ text) e =
    let f = bounds_of 0x30 0x39 c (both_are (is_figure c) (all_figures text) e).0 in
    let n : c ≡ 0x2d → ⊥ = λ s. omega (arith, f.0) in
    rw (ne_eqb c 0x2d n)

-- ---- what is written is read back

pub length_natural : (n : ℕ) → length (natural n) ≡ places 10 n
unfolding natural
length_natural n = length_figures (places 10 n) n

pub natural_means : (n : ℕ) → meant (natural n) ≡ n
unfolding natural
natural_means n = let p : 1 < 10 = omega arith in figures_mean (places 10 n) n (places_hold 10 p n)

natural_figures : (n : ℕ) → all_figures (natural n) ≡ true
unfolding natural
natural_figures n = figures_are (places 10 n) n

natural_some : (n : ℕ) → 0 < length (natural n)
natural_some n = let p : 1 < 10 = omega arith in omega (arith, length_natural n, places_some 10 p n)

pub natural_said : (n : ℕ) → saying_natural (natural n) ≡ Some (pos n)
natural_said n = figures_say (natural n) (natural_some n) (natural_figures n) ∙ ap (λ (m : ℕ). Some (pos m)) (natural_means n)

pub whole_said : (z : ℤ) → saying_whole (whole z) ≡ Some z
unfolding whole saying_whole negated
whole_said (pos n) = figures_have_no_sign (natural n) (natural_figures n) ∙ natural_said n
whole_said (negsuc n) = ap negated (natural_said (suc n))

-- ---- it has no superfluous zero, and is the only such text

meant_first : (c : ℕ) (rest : List ℕ) → meant (c ∷ rest) ≡ (c - 0x30) * 10 ^ length rest + meant rest
unfolding meant
meant_first c rest =
    value_high_push_highest 10 (c - 0x30) (digits_of rest)
    ∙ ap (λ (k : ℕ). (c - 0x30) * 10 ^ k + meant rest) (length-map rest (λ d. d - 0x30))

meant_below : (text : List ℕ) → all_figures text ≡ true → meant text < 10 ^ length text
unfolding meant
meant_below text e = rw length-map at (value_high_below 10 (digits_of text) (digits_below_ten text e))

module _ (c : ℕ) (rest : List ℕ) (e : all_figures (c ∷ rest) ≡ true) where
  rest_figures : all_figures rest ≡ true
  unfolding all_figures
  rest_figures = (both_are (is_figure c) (all_figures rest) e).1

  first_figure : (0x30 ≤ c) × (c ≤ 0x39)
  unfolding all_figures
  first_figure = bounds_of 0x30 0x39 c (both_are (is_figure c) (all_figures rest) e).0

  pub places_within : places 10 (meant (c ∷ rest)) ≤ suc (length rest)
  places_within = let p : 1 < 10 = omega arith in places_least 10 p (length rest) (meant (c ∷ rest)) (meant_below (c ∷ rest) e)

  zero_first_is_too_many : 0 < length rest → c ≡ 0x30 → places 10 (meant (c ∷ rest)) ≤ length rest
  zero_first_is_too_many some z = go rest some rest_figures
    where
      go : (rest : List ℕ) → 0 < length rest → all_figures rest ≡ true → places 10 (meant (c ∷ rest)) ≤ length rest
      go [] some f = absurd (omega arith)
      go (d ∷ more) some f =
          let p : 1 < 10 = omega arith in
          let none : c - 0x30 ≡ 0 = omega arith in
          let m : meant (c ∷ d ∷ more) ≡ meant (d ∷ more) = meant_first c (d ∷ more) ∙ ap (λ (k : ℕ). k * 10 ^ suc (length more) + meant (d ∷ more)) none ∙ omega arith in
          rw m (places_least 10 p (length more) (meant (d ∷ more)) (meant_below (d ∷ more) f))

  other_first_is_needed : (c ≡ 0x30 → ⊥) → length rest < places 10 (meant (c ∷ rest))
  other_first_is_needed n = go (dec_lt (length rest) (places 10 (meant (c ∷ rest))))
    where
      go : Dec (length rest < places 10 (meant (c ∷ rest))) → length rest < places 10 (meant (c ∷ rest))
      go (yes l) = l
      go (no l) =
          let p : 1 < 10 = omega arith in
          let b : 0x30 ≤ c = first_figure.0 in
          let under = places_hold 10 p (meant (c ∷ rest)) in
          let grows : 10 ^ places 10 (meant (c ∷ rest)) ≤ 10 ^ length rest = pow-le-pow_right {n = 10} (omega arith) {i = places 10 (meant (c ∷ rest))} {j = length rest} (omega arith) in
          let one : 1 * 10 ^ length rest ≤ (c - 0x30) * 10 ^ length rest = mul-le-mul_right {m = 1} {n = c - 0x30} (10 ^ length rest) (omega arith) in
          let none : ⊥ = omega (arith, meant_first c rest, under, grows, one, one-mul (10 ^ length rest)) in
          absurd none

pub natural_plain : (n : ℕ) → Plain (natural n)
natural_plain n = record { only_figures = natural_figures n; some = natural_some n; no_zero = go (natural n) (natural_figures n) (length_natural n ∙ ap (places 10) (sym (natural_means n))) }
  where
    go : (text : List ℕ) → all_figures text ≡ true → length text ≡ places 10 (meant text) → 1 < length text → get_or text 0 0 ≡ 0x30 → ⊥
    go [] f e l z = omega arith
    go (c ∷ rest) f e l z = let s : 0 < length rest = omega arith in omega (arith, e, zero_first_is_too_many c rest f s z)

pub natural_only : (text : List ℕ) → Plain text → text ≡ natural (meant text)
unfolding natural meant
natural_only text p =
    sym (figures_of_digits text p.only_figures)
    ∙ ap (map figure) (sym (digits_high_of_value_high 10 (digits_of text) (digits_below_ten text p.only_figures)))
    ∙ ap (λ (count : ℕ). figures count (meant text)) (length-map text (λ c. c - 0x30) ∙ count text p)
  where
    count : (text : List ℕ) → Plain text → length text ≡ places 10 (meant text)
    count [] p = absurd (omega (arith, p.some))
    count (c ∷ []) p =
        let q : 1 < 10 = omega arith in
        omega (arith, places_within c [] p.only_figures, places_some 10 q (meant (c ∷ [])))
    count (c ∷ d ∷ more) p =
        let o = other_first_is_needed c (d ∷ more) p.only_figures (p.no_zero (omega arith)) in
        omega (arith, places_within c (d ∷ more) p.only_figures, o)

-- ---- with a sign

pub whole_plain : (z : ℤ) → PlainWhole (whole z)
unfolding whole
whole_plain (pos n) = without_sign (natural_plain n)
whole_plain (negsuc n) = with_sign (natural_plain (suc n)) (omega (arith, natural_means (suc n)))

said : Option ℤ → ℤ
said None = pos 0
said (Some z) = z

pub whole_only : {text : List ℕ} → PlainWhole text → (z : ℤ) → saying_whole text ≡ Some z → text ≡ whole z
unfolding whole saying_whole negated said
whole_only (without_sign {text} p) z e =
    let says = figures_have_no_sign text p.only_figures ∙ figures_say text p.some p.only_figures in
    let number : pos (meant text) ≡ z = ap said (sym says ∙ e) in
    rw (← number) (natural_only text p)
whole_only (with_sign {text} p some) z e = negative (meant text) refl some
  where
    says : Some (neg_ℤ (pos (meant text))) ≡ Some z
    says = ap negated (sym (figures_say text p.some p.only_figures)) ∙ e

    negative : (n : ℕ) → meant text ≡ n → 0 < n → 0x2d ∷ text ≡ whole z
    negative zero m l = absurd (omega arith)
    negative (suc n) m l =
        let number : negsuc n ≡ z = ap (λ (k : ℕ). neg_ℤ (pos k)) (sym m) ∙ ap said says in
        rw (← number, ← m) (ap (λ (t : List ℕ). 0x2d ∷ t) (natural_only text p))
