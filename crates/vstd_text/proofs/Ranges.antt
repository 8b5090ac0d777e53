-- What vstd's tests of a byte or of a scalar say, as bounds.
use mathlib.Core.Path.{◌≡◌}
use mathlib.Core.Bool.{true, false, not, ◌&&◌}
use Prim.Native.Nat.{ℕ, ◌<◌, ◌≤◌}
use native.Mathlib.Omega.{arith}
use borrow.Author.Tests.{not-true}
use Rattle.theory_whole.proofs.Cases.{by_test, never, both, both_are, first_not}
use Rattle.theory_lists.specs.Bounds.{between}
use Rattle.theory_lists.proofs.Between.{bounds_of, is_between, not_below, not_above}
use Rattle.theory_text.specs.Scalar.{Surrogate}
use Rattle.vstd_text.specs.Decoding.{is_leading_byte_width_1, is_leading_byte_width_2, is_leading_byte_width_3, is_leading_byte_width_4}
use Rattle.vstd_text.specs.Decoding.{is_continuation_byte}
use Rattle.vstd_text.specs.Encoding.{has_width_1_encoding, has_width_2_encoding, has_width_3_encoding, has_width_4_encoding}

pub range_out : (l h b : ℕ) → ((l ≤ b) × (b ≤ h) → ⊥) → not (between l h b) ≡ true
range_out l h b n = by_test (between l h b) (λ t. absurd (n (bounds_of l h b t))) (λ t. rw t)

pub in_range_but : (l h m n b : ℕ) → between l h b && not (between m n b) ≡ true → (l ≤ b) × (b ≤ h)
in_range_but l h m n b e = bounds_of l h b (both_are (between l h b) (not (between m n b)) e).0

pub out_range : (l h m n b : ℕ) → between l h b && not (between m n b) ≡ true → (m ≤ b) × (b ≤ n) → ⊥
out_range l h m n b e p = never (is_between m n b p.0 p.1) (not-true (between m n b) (both_are (between l h b) (not (between m n b)) e).1)

-- ---- the classes of bytes

module _ (b : ℕ) where
  pub lead_one : is_leading_byte_width_1 b ≡ true → b < 0x80
  unfolding is_leading_byte_width_1
  lead_one e = let p = bounds_of _ _ b e in omega arith

  pub one_lead : b < 0x80 → is_leading_byte_width_1 b ≡ true
  unfolding is_leading_byte_width_1
  one_lead h = is_between _ _ b (omega arith) (omega arith)

  pub past_one : 0x80 ≤ b → is_leading_byte_width_1 b ≡ false
  unfolding is_leading_byte_width_1
  past_one l = not_above _ _ b (omega arith)

  pub lead_two : is_leading_byte_width_2 b ≡ true → (0xc0 ≤ b) × (b < 0xe0)
  unfolding is_leading_byte_width_2
  lead_two e = let p = bounds_of _ _ b e in (omega arith, omega arith)

  pub two_lead : 0xc0 ≤ b → b < 0xe0 → is_leading_byte_width_2 b ≡ true
  unfolding is_leading_byte_width_2
  two_lead l h = is_between _ _ b (omega arith) (omega arith)

  pub past_two : 0xe0 ≤ b → is_leading_byte_width_2 b ≡ false
  unfolding is_leading_byte_width_2
  past_two l = not_above _ _ b (omega arith)

  pub lead_three : is_leading_byte_width_3 b ≡ true → (0xe0 ≤ b) × (b < 0xf0)
  unfolding is_leading_byte_width_3
  lead_three e = let p = bounds_of _ _ b e in (omega arith, omega arith)

  pub three_lead : 0xe0 ≤ b → b < 0xf0 → is_leading_byte_width_3 b ≡ true
  unfolding is_leading_byte_width_3
  three_lead l h = is_between _ _ b (omega arith) (omega arith)

  pub past_three : 0xf0 ≤ b → is_leading_byte_width_3 b ≡ false
  unfolding is_leading_byte_width_3
  past_three l = not_above _ _ b (omega arith)

  pub lead_four : is_leading_byte_width_4 b ≡ true → (0xf0 ≤ b) × (b < 0xf8)
  unfolding is_leading_byte_width_4
  lead_four e = let p = bounds_of _ _ b e in (omega arith, omega arith)

  pub four_lead : 0xf0 ≤ b → b < 0xf8 → is_leading_byte_width_4 b ≡ true
  unfolding is_leading_byte_width_4
  four_lead l h = is_between _ _ b (omega arith) (omega arith)

  pub continues : is_continuation_byte b ≡ true → (0x80 ≤ b) × (b ≤ 0xbf)
  unfolding is_continuation_byte
  continues e = let p = bounds_of _ _ b e in (omega arith, omega arith)

  pub a_continuation : 0x80 ≤ b → b < 0xc0 → is_continuation_byte b ≡ true
  unfolding is_continuation_byte
  a_continuation l h = is_between _ _ b (omega arith) (omega arith)

  pub below_continuations : b < 0x80 → is_continuation_byte b ≡ false
  unfolding is_continuation_byte
  below_continuations h = not_below _ _ b (omega arith)

  pub above_continuations : 0xc0 ≤ b → is_continuation_byte b ≡ false
  unfolding is_continuation_byte
  above_continuations l = not_above _ _ b (omega arith)

-- ---- the widths of scalars

module _ (c : ℕ) where
  pub width_one : c < 0x80 → has_width_1_encoding c ≡ true
  unfolding has_width_1_encoding
  width_one h = is_between _ _ c (omega arith) (omega arith)

  pub one_width : has_width_1_encoding c ≡ true → c < 0x80
  unfolding has_width_1_encoding
  one_width e = let p = bounds_of _ _ c e in omega arith

  pub not_one : 0x80 ≤ c → has_width_1_encoding c ≡ false
  unfolding has_width_1_encoding
  not_one l = not_above _ _ c (omega arith)

  pub width_two : 0x80 ≤ c → c < 0x800 → has_width_2_encoding c ≡ true
  unfolding has_width_2_encoding
  width_two l h = is_between _ _ c (omega arith) (omega arith)

  pub two_width : has_width_2_encoding c ≡ true → (0x80 ≤ c) × (c < 0x800)
  unfolding has_width_2_encoding
  two_width e = let p = bounds_of _ _ c e in (omega arith, omega arith)

  pub not_two : 0x800 ≤ c → has_width_2_encoding c ≡ false
  unfolding has_width_2_encoding
  not_two l = not_above _ _ c (omega arith)

  pub width_three : 0x800 ≤ c → c < 0x10000 → (Surrogate c → ⊥) → has_width_3_encoding c ≡ true
  unfolding has_width_3_encoding
  width_three l h s = both (is_between _ _ c (omega arith) (omega arith)) (range_out _ _ c (λ p. s (omega arith, omega arith)))

  pub three_width : has_width_3_encoding c ≡ true → Surrogate c → ⊥
  unfolding has_width_3_encoding
  three_width e s = out_range _ _ _ _ c e (omega arith, omega arith)

  pub three_bounds : has_width_3_encoding c ≡ true → (0x800 ≤ c) × (c < 0x10000)
  unfolding has_width_3_encoding
  three_bounds e = let p = in_range_but _ _ _ _ c e in (omega arith, omega arith)

  pub not_three : 0x10000 ≤ c → has_width_3_encoding c ≡ false
  unfolding has_width_3_encoding
  not_three l = first_not _ (not_above _ _ c (omega arith))

  pub width_four : 0x10000 ≤ c → c < 0x110000 → has_width_4_encoding c ≡ true
  unfolding has_width_4_encoding
  width_four l h = is_between _ _ c (omega arith) (omega arith)

  pub four_width : has_width_4_encoding c ≡ true → (0x10000 ≤ c) × (c < 0x110000)
  unfolding has_width_4_encoding
  four_width e = let p = bounds_of _ _ c e in (omega arith, omega arith)

  pub not_four : c < 0x10000 → has_width_4_encoding c ≡ false
  unfolding has_width_4_encoding
  not_four h = not_below _ _ c (omega arith)
