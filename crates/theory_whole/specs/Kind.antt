-- A kind of machine integer: the `size` whole numbers from -low on. Nothing here speaks of a machine, and any width is allowed.
use Rattle.std.specs.Prelude.{ℕ, suc, ◌-◌, ◌/◌, ◌^◌, ℤ, pos, neg_ℤ}

pub record Kind : Type 0 where
  pub low : ℕ
  pub size : ℕ

abbrev pub unsigned : ℕ → Kind
unsigned w = record { low = 0; size = 2 ^ w }

abbrev pub signed : ℕ → Kind
signed w = record { low = 2 ^ w / 2; size = 2 ^ w }

abbrev pub least : Kind → ℤ
least k = neg_ℤ (pos k.low)

abbrev pub greatest : Kind → ℤ
greatest k = pos (k.size - suc k.low)
