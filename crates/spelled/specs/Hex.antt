-- Hex digits: 0 to 9 are the bytes from 0x30 on, which is '0', and 10 to 15 those from 0x61 on, which is 'a'.
use Rattle.std.specs.Prelude.{◌≡◌, ℕ, ◌+◌, ◌-◌, ◌≤◌, ◌<◌}

-- b is the digit of n
pub record Spells (b n : ℕ) : Type 0 where
  pub small : n < 16
  pub figure : n < 10 → b ≡ 0x30 + n
  pub letter : 10 ≤ n → b ≡ 0x61 + (n - 10)

-- r is what b is the digit of, and 16 where it is no digit
pub record Digit (b r : ℕ) : Type 0 where
  pub most : r ≤ 16
  pub right : r < 16 → Spells b r
  pub figures : 0x30 ≤ b → b ≤ 0x39 → r < 16
  pub letters : 0x61 ≤ b → b ≤ 0x66 → r < 16
