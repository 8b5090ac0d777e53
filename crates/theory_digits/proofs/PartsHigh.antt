-- Parts of digits that stand highest first: the lowest and the highest digit, those before a place and those from it on.
use mathlib.Core.Path.{◌≡◌, sym, ap, ◌∙◌}
use mathlib.Core.List.{List, [], ◌∷◌, ◌++◌}
use Prim.Native.Nat.{ℕ, ◌-◌, ◌*◌, ◌+◌, ◌/◌, ◌%◌, ◌^◌, ◌<◌}
use lib.Arith.{digits_div, digits_mod}
use lib.ListN.{length, take, drop, length-drop, take-append-drop}
use Rattle.theory_lists.specs.Bounds.{AllBelow}
use Rattle.theory_lists.proofs.Below.{below_drop}
use Rattle.theory_digits.specs.Digits.{value_high}
use Rattle.theory_digits.proofs.Digits.{lowest_of}
use Rattle.theory_digits.proofs.High.{value_high_below, value_high_append, value_high_push_lowest, value_high_push_highest}

pub lowest_digit_high : {b d : ℕ} (ds : List ℕ) → d < b → value_high b (ds ++ (d ∷ [])) % b ≡ d
lowest_digit_high {b} {d} ds h = rw (value_high_push_lowest b d ds) (lowest_of (value_high b ds) h)

pub highest_digit_high : (b d : ℕ) (ds : List ℕ) → AllBelow b ds → value_high b (d ∷ ds) / b ^ length ds ≡ d
highest_digit_high b d ds h = rw (value_high_push_highest b d ds) (digits_div d (value_high_below b ds h))

module _ (b k : ℕ) (ds : List ℕ) (h : AllBelow b ds) where
  cut : value_high b ds ≡ value_high b (take k ds) * b ^ (length ds - k) + value_high b (drop k ds)
  cut =
      ap (value_high b) (sym (take-append-drop k ds)) ∙ value_high_append b (take k ds) (drop k ds)
      ∙ ap (λ (n : ℕ). value_high b (take k ds) * b ^ n + value_high b (drop k ds)) (length-drop k ds)

  small : value_high b (drop k ds) < b ^ (length ds - k)
  small = rw length-drop at (value_high_below b (drop k ds) (below_drop b k ds h))

  pub value_high_take : value_high b (take k ds) ≡ value_high b ds / b ^ (length ds - k)
  value_high_take = sym (ap (λ (n : ℕ). n / b ^ (length ds - k)) cut ∙ digits_div (value_high b (take k ds)) small)

  pub value_high_drop : value_high b (drop k ds) ≡ value_high b ds % b ^ (length ds - k)
  value_high_drop = sym (ap (λ (n : ℕ). n % b ^ (length ds - k)) cut ∙ digits_mod (value_high b (take k ds)) small)
