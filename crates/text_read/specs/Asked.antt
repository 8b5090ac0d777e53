-- What a first byte asks for, as the code holds it: how many bytes the form has, and the ends of its second byte's range.
use Rattle.std.specs.Prelude.{ℕ, zero, suc, ◌≤◌, ◌≡◌, [], ◌∷◌}
use Rattle.theory_text.specs.Table.{◌to◌, After, more, wrong, after}

abbrev pub asked : ℕ → ℕ → ℕ → After
asked zero l h = wrong
asked (suc zero) l h = more []
asked (suc (suc zero)) l h = more ((l to h) ∷ [])
asked (suc (suc (suc zero))) l h = more ((l to h) ∷ (0x80 to 0xbf) ∷ [])
asked (suc (suc (suc (suc n)))) l h = more ((l to h) ∷ (0x80 to 0xbf) ∷ (0x80 to 0xbf) ∷ [])

pub record Leads (b bytes low high : ℕ) : Type 0 where
  pub most : bytes ≤ 4
  pub asks : after b ≡ asked bytes low high
