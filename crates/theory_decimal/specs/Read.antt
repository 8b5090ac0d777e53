-- What decimal text says: one figure or more, of which the first may be 0, and '-' in front where the number may be negative.
use Rattle.std.specs.Prelude.{Bool, true, ◌&&◌, cond, List, [], ◌∷◌, map, ℕ, ℤ, ◌+◌, ◌-◌, ◌*◌, eqb, pos, neg_ℤ, Option, Some, None}
use Rattle.theory_whole.specs.Kind.{Kind}
use Rattle.theory_answers.specs.Answer.{only_if}
use Rattle.theory_whole.specs.Fit.{refuse}
use Rattle.theory_lists.specs.Part.{part, is_within}
use Rattle.theory_lists.specs.Bounds.{between}
use Rattle.theory_digits.specs.Digits.{value_high}

abbrev pub is_figure : ℕ → Bool
is_figure c = between 0x30 0x39 c

unfoldable pub all_figures : List ℕ → Bool
all_figures [] = true
all_figures (c ∷ text) = is_figure c && all_figures text

-- the digits that figures stand for, and the number
abbrev pub digits_of : List ℕ → List ℕ
digits_of text = map (λ c. c - 0x30) text

unfoldable pub meant : List ℕ → ℕ
meant text = value_high 10 (digits_of text)

-- the number without a sign that a text says
unfoldable pub saying_natural : List ℕ → Option ℤ
saying_natural [] = None
saying_natural (c ∷ text) = only_if (all_figures (c ∷ text)) (Some (pos (meant (c ∷ text))))

unfoldable pub negated : Option ℤ → Option ℤ
negated None = None
negated (Some z) = Some (neg_ℤ z)

-- the number that a text says, with '-' or without
unfoldable pub saying_whole : List ℕ → Option ℤ
saying_whole [] = None
saying_whole (c ∷ text) = cond (eqb c 0x2d) (negated (saying_natural text)) (saying_natural (c ∷ text))

-- an answer that must fit besides
unfoldable pub fitting : Kind → Option ℤ → Option ℤ
fitting k None = None
fitting k (Some z) = refuse k z

-- n with the figure c behind it
unfoldable pub pushed : Kind → ℕ → ℕ → Option ℤ
pushed k n c = only_if (is_figure c) (refuse k (pos (c - 0x30 + 10 * n)))

-- what a reading makes of the part of s from place f up to and without place t, as a number of kind k; refused where there is no such part
unfoldable pub read_in : (List ℕ → Option ℤ) → Kind → ℕ → ℕ → List ℕ → Option ℤ
read_in saying k f t s = only_if (is_within f t s) (fitting k (saying (part f t s)))

-- what the part says without a sign, and with one or without; an empty part says nothing
abbrev pub natural_in : Kind → ℕ → ℕ → List ℕ → Option ℤ
natural_in = read_in saying_natural

abbrev pub whole_in : Kind → ℕ → ℕ → List ℕ → Option ℤ
whole_in = read_in saying_whole
