-- vstd's bytes of 0x0102030405060708, and the number that they make, computed by its shifts and masks.
use mathlib.Core.Path.{◌≡◌, refl}
use mathlib.Core.List.{List, [], ◌∷◌}
use Prim.Native.Nat.{ℕ}
use lib.IntN.{pos}
use Rattle.theory_answers.specs.Answer.{only_if}
use Rattle.std.specs.Prelude.{Some, None}
use Rattle.vstd_number_bytes.specs.Bytes.{masked_bytes, spec_to_le_bytes, joined_bytes, spec_from_le_bytes, from_le_bytes}

abbrev eight : List ℕ
eight = 0x08 ∷ 0x07 ∷ 0x06 ∷ 0x05 ∷ 0x04 ∷ 0x03 ∷ 0x02 ∷ 0x01 ∷ []

pub to_le_bytes_worked : (spec_to_le_bytes 8 0x0102030405060708 ≡ eight) × (spec_to_le_bytes 2 0xff80 ≡ 0x80 ∷ 0xff ∷ [])
unfolding spec_to_le_bytes masked_bytes
to_le_bytes_worked = (refl, refl)

pub from_le_bytes_worked :
    (from_le_bytes 64 7 eight ≡ Some (pos 0x0102030405060708))
    × (from_le_bytes 16 1 (0x80 ∷ 0xff ∷ []) ≡ Some (pos 0xff80))
    × (from_le_bytes 16 1 (0x80 ∷ []) ≡ None)
    × (from_le_bytes 16 1 (0x80 ∷ 0xff ∷ 0x00 ∷ []) ≡ None)
unfolding from_le_bytes spec_from_le_bytes joined_bytes only_if
from_le_bytes_worked = (refl, refl, refl, refl)
