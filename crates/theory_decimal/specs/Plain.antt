-- Text with no superfluous zero and no superfluous sign: what is written is such a text, and the only one.
use Rattle.std.specs.Prelude.{◌≡◌, true, List, ◌∷◌, ℕ, ◌<◌, length, get_or}
use Rattle.theory_decimal.specs.Read.{all_figures, meant}

-- one figure or more, and '0' is not the first of several
pub record Plain (text : List ℕ) : Type 0 where
  pub only_figures : all_figures text ≡ true
  pub some : 0 < length text
  pub no_zero : 1 < length text → get_or text 0 0 ≡ 0x30 → ⊥

-- '-' stands before what is not 0
pub data PlainWhole : List ℕ → Type 0 where
  without_sign : {text : List ℕ} → Plain text → PlainWhole text
  with_sign : {text : List ℕ} → Plain text → 0 < meant text → PlainWhole (0x2d ∷ text)
