-- vstd's bytes of a number (bytes), lowest first, for a number of w bits in `count` bytes: shifts, masks and the `|` of shifted bytes.
use Rattle.std.specs.Prelude.{List, [], ◌∷◌, ℕ, ℤ, zero, suc, ◌*◌, ◌/◌, ◌%◌, ◌^◌, eqb, pos, length, get_or, Option, Some}
use Rattle.std.specs.Int.Bits.{bit_and, bit_or}
use Rattle.theory_answers.specs.Answer.{only_if}

-- (x >> 8 * i) & 0xff, for `count` places from i on
unfoldable pub masked_bytes : ℕ → ℕ → ℕ → List ℕ
masked_bytes x i zero = []
masked_bytes x i (suc count) = bit_and (x / 2 ^ (i * 8)) 255 ∷ masked_bytes x (suc i) count

unfoldable pub spec_to_le_bytes : ℕ → ℕ → List ℕ
spec_to_le_bytes count x = masked_bytes x 0 count

-- so_far | s[i] << 8 * i | .., for `count` places from i on
unfoldable pub joined_bytes : ℕ → List ℕ → ℕ → ℕ → ℕ → ℕ
joined_bytes w s i zero so_far = so_far
joined_bytes w s i (suc count) so_far = joined_bytes w s (suc i) count (bit_or so_far (get_or s i 0 * 2 ^ (i * 8) % 2 ^ w))

-- s[0] | s[1] << 8 | .., of count + 1 bytes
unfoldable pub spec_from_le_bytes : ℕ → ℕ → List ℕ → ℕ
spec_from_le_bytes w count s = joined_bytes w s 1 count (get_or s 0 0)

-- what vstd demands, that there are just so many bytes, is refused otherwise
unfoldable pub from_le_bytes : ℕ → ℕ → List ℕ → Option ℤ
from_le_bytes w count s = only_if (eqb (length s) (suc count)) (Some (pos (spec_from_le_bytes w count s)))
