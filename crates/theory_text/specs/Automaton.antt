-- Reading byte by byte: between two scalars nothing must follow; inside one, bytes of the ranges that are left of its row.
use Rattle.std.specs.Prelude.{ℕ, cond, List, [], ◌∷◌}
use Rattle.theory_lists.specs.Bounds.{between}
use Rattle.theory_text.specs.Table.{After, more, wrong, after}

abbrev pub step : After → ℕ → After
step wrong b = wrong
step (more []) b = after b
step (more (r ∷ rs)) b = cond (between r.low r.high b) (more rs) wrong

abbrev pub steps : After → List ℕ → After
steps q [] = q
steps q (b ∷ bs) = steps (step q b) bs
