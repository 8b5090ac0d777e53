-- A natural number as an integer of w bits, where it fits.
use Rattle.std.specs.Prelude.{ℕ, ◌≡◌, ◌^◌, ◌<◌, ◌≤◌, pos, Some, None}
use Rattle.std.specs.Option.{option_map}
use Rattle.theory_answers.proofs.Answer.{some_answer, no_answer}
use Rattle.theory_whole.specs.Kind.{unsigned}
use Rattle.theory_whole.specs.Fit.{refuse}
use Rattle.theory_whole.proofs.Unsigned.{natural_fits, natural_over}

pub fitting : (w n : ℕ) → n < 2 ^ w → option_map pos (Some n) ≡ refuse (unsigned w) (pos n)
fitting w n h = some_answer _ _ (natural_fits w h)

pub too_large : (w n : ℕ) → 2 ^ w ≤ n → option_map pos None ≡ refuse (unsigned w) (pos n)
too_large w n h = no_answer _ _ (natural_over w h)
