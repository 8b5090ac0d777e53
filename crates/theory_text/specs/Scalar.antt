-- Scalar values, and the form of one: its digits in base 64, highest first, each behind its mark (RFC 3629, section 3).
use Rattle.std.specs.Prelude.{ℕ, zero, suc, ◌+◌, ◌/◌, ◌%◌, ◌<◌, ◌≤◌, Bool, cond, List, [], ◌∷◌, ltb, eqb}

abbrev pub Surrogate : ℕ → Type 0
Surrogate c = (0xd800 ≤ c) × (c < 0xe000)

abbrev pub Scalar : ℕ → Type 0
Scalar c = (c < 0x110000) × (Surrogate c → ⊥)

-- how many bytes the form of c has
unfoldable pub len : ℕ → ℕ
len c = cond (ltb c 0x80) 1 (cond (ltb c 0x800) 2 (cond (ltb c 0x10000) 3 4))

-- the last digit of c behind the mark 10xxxxxx
abbrev pub digit : ℕ → ℕ
digit c = 0x80 + c % 64

-- 10xxxxxx
abbrev pub follows : ℕ → Bool
follows b = eqb (b / 64) 2

-- c in n bytes: behind the marks 0xxxxxxx, 110xxxxx, 1110xxxx, 11110xxx stand the digits that the other bytes leave
abbrev pub formed : ℕ → ℕ → List ℕ
formed zero c = []
formed (suc zero) c = c ∷ []
formed (suc (suc zero)) c = (0xc0 + c / 64) ∷ digit c ∷ []
formed (suc (suc (suc zero))) c = (0xe0 + c / 64 / 64) ∷ digit (c / 64) ∷ digit c ∷ []
formed (suc (suc (suc (suc n)))) c = (0xf0 + c / 64 / 64 / 64) ∷ digit (c / 64 / 64) ∷ digit (c / 64) ∷ digit c ∷ []

abbrev pub form : ℕ → List ℕ
form c = formed (len c) c
