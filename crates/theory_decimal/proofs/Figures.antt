-- Figures and digits: each the other's text, piece by piece.
use mathlib.Core.Path.{◌≡◌, refl, ap, ap₂, ◌∙◌}
use mathlib.Core.Bool.{Bool, true, false, ◌&&◌}
use mathlib.Core.List.{List, [], ◌∷◌, ◌++◌, map, map-append}
use Prim.Native.Nat.{ℕ, ◌+◌, ◌-◌, ◌*◌, ◌^◌, ◌<◌}
use native.Mathlib.Omega.{arith}
use lib.ListN.{length, length-map}
use Rattle.theory_whole.proofs.Cases.{both, both_are}
use Rattle.theory_lists.specs.Bounds.{AllBelow}
use Rattle.theory_digits.specs.Digits.{digits_high, value_high}
use Rattle.theory_digits.proofs.High.{length_digits_high, digits_high_below, value_high_of_digits_high, value_high_append, value_high_push_lowest}
use Rattle.theory_lists.proofs.Between.{is_between, bounds_of}
use Rattle.theory_decimal.specs.Written.{figure, figures}
use Rattle.theory_decimal.specs.Read.{is_figure, all_figures, digits_of, meant}

pub length_figures : (count n : ℕ) → length (figures count n) ≡ count
length_figures count n = length-map (digits_high 10 count n) figure ∙ length_digits_high 10 count n

-- ---- from digits to figures

pub digits_of_figures : (ds : List ℕ) → digits_of (map figure ds) ≡ ds
digits_of_figures [] = refl
digits_of_figures (d ∷ ds) =
    let e : 0x30 + d - 0x30 ≡ d = omega arith in ap₂ (λ (x : ℕ) (xs : List ℕ). x ∷ xs) e (digits_of_figures ds)

pub digits_are_figures : (ds : List ℕ) → AllBelow 10 ds → all_figures (map figure ds) ≡ true
unfolding all_figures AllBelow
digits_are_figures [] h = refl
digits_are_figures (d ∷ ds) h =
    let l = h.0 in
    both (is_between 0x30 0x39 (figure d) (omega arith) (omega arith)) (digits_are_figures ds h.1)

pub figures_are : (count n : ℕ) → all_figures (figures count n) ≡ true
figures_are count n = let p : 0 < 10 = omega arith in digits_are_figures (digits_high 10 count n) (digits_high_below 10 count n p)

pub figures_mean : (count n : ℕ) → n < 10 ^ count → meant (figures count n) ≡ n
unfolding meant
figures_mean count n h =
    let p : 0 < 10 = omega arith in
    ap (value_high 10) (digits_of_figures (digits_high 10 count n)) ∙ value_high_of_digits_high 10 count n p h

-- ---- from figures to digits

pub digits_below_ten : (text : List ℕ) → all_figures text ≡ true → AllBelow 10 (digits_of text)
unfolding all_figures AllBelow
digits_below_ten [] e = tt
digits_below_ten (c ∷ text) e =
    let b = both_are (is_figure c) (all_figures text) e in
    let f = bounds_of 0x30 0x39 c b.0 in
    (omega (arith, f.0, f.1), digits_below_ten text b.1)

pub figures_of_digits : (text : List ℕ) → all_figures text ≡ true → map figure (digits_of text) ≡ text
unfolding all_figures
figures_of_digits [] e = refl
figures_of_digits (c ∷ text) e =
    let b = both_are (is_figure c) (all_figures text) e in
    let f = bounds_of 0x30 0x39 c b.0 in
    let back : 0x30 + (c - 0x30) ≡ c = omega (arith, f.0) in
    ap₂ (λ (x : ℕ) (xs : List ℕ). x ∷ xs) back (figures_of_digits text b.1)

-- ---- one after the other

pub all_append : (s t : List ℕ) → all_figures (s ++ t) ≡ all_figures s && all_figures t
unfolding all_figures
all_append [] t = refl
all_append (c ∷ s) t = rw (all_append s t) (and_assoc (is_figure c) (all_figures s) (all_figures t))
  where
    and_assoc : (x y z : Bool) → x && (y && z) ≡ (x && y) && z
    and_assoc true y z = refl
    and_assoc false y z = refl

pub meant_append : (s t : List ℕ) → meant (s ++ t) ≡ meant s * 10 ^ length t + meant t
unfolding meant
meant_append s t = rw (map-append, value_high_append, length-map)

pub meant_push : (s : List ℕ) (c : ℕ) → meant (s ++ (c ∷ [])) ≡ c - 0x30 + 10 * meant s
unfolding meant
meant_push s c = rw map-append (value_high_push_lowest 10 (c - 0x30) (digits_of s))
