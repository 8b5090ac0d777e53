-- Nine states of reading byte by byte, numbered; and the code's table, which holds for each byte the numbers of the nine states that follow.
use Rattle.std.specs.Prelude.{ℕ, ◌*◌, ◌/◌, ◌%◌, ◌<◌, ◌≡◌, List, [], ◌∷◌, ◌++◌, get_or, take, drop, replicate}
use Rattle.theory_text.specs.Table.{Range, ◌to◌, After, more, wrong}
use Rattle.theory_text.specs.Automaton.{steps}

abbrev any : Range
any = 0x80 to 0xbf

abbrev pub states : List After
states =
    more []
    ∷ more (any ∷ [])
    ∷ more (any ∷ any ∷ [])
    ∷ more (any ∷ any ∷ any ∷ [])
    ∷ more ((0xa0 to 0xbf) ∷ any ∷ [])
    ∷ more ((0x80 to 0x9f) ∷ any ∷ [])
    ∷ more ((0x90 to 0xbf) ∷ any ∷ any ∷ [])
    ∷ more ((0x80 to 0x8f) ∷ any ∷ any ∷ [])
    ∷ wrong
    ∷ []

-- the state that a number holds: its low six bits are six times the state's number
unfoldable pub state : ℕ → After
state x = get_or states (x % 64 / 6) wrong

pub record Good (x : ℕ) : Type 0 where
  pub sixfold : x % 64 ≡ 6 * (x % 64 / 6)
  pub known : x % 64 / 6 < 9

-- n bytes of s from place i on lead from the number x to the number y
pub record Moves (s : List ℕ) (i n x y : ℕ) : Type 0 where
  pub good : Good y
  pub moved : state y ≡ steps (state x) (take n (drop i s))

unfoldable pub table : List ℕ
table =
    replicate 128 0x30c30c30c30c00
    ++ replicate 16 0x303301b0306030
    ++ replicate 16 0x30c0c1b0306030
    ++ replicate 32 0x30c0cc06306030
    ++ replicate 2 0x30c30c30c30c30
    ++ replicate 30 0x30c30c30c30c06
    ++ replicate 1 0x30c30c30c30c18
    ++ replicate 12 0x30c30c30c30c0c
    ++ replicate 1 0x30c30c30c30c1e
    ++ replicate 2 0x30c30c30c30c0c
    ++ replicate 1 0x30c30c30c30c24
    ++ replicate 3 0x30c30c30c30c12
    ++ replicate 1 0x30c30c30c30c2a
    ++ replicate 11 0x30c30c30c30c30
