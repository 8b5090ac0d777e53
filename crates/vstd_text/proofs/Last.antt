-- vstd's last scalar, which it finds by going back over continuation bytes, is ours: the scalar whose form ends the bytes.
use mathlib.Core.Path.{◌≡◌, refl, sym, ap, ◌∙◌, subst}
use mathlib.Core.Bool.{true, false}
use mathlib.Core.List.{List, [], ◌∷◌, ◌++◌}
use Prim.Native.Nat.{ℕ, zero, suc, ◌-◌, ◌/◌, ◌%◌, ◌<◌, ◌≤◌}
use native.Mathlib.Omega.{arith}
use lib.Dec.{ltb}
use lib.ListN.{length, get_or}
use borrow.Author.Tests.{eqb-true, eqb-false, ne_eqb, ltb-true, ltb-false}
use Rattle.theory_whole.proofs.Cases.{by_test}
use Rattle.theory_text.specs.Scalar.{len, formed, form}
use Rattle.theory_text.specs.Text.{Scalars, encode, Valid, Ends}
use Rattle.theory_text.specs.Scalar.{follows}
use Rattle.theory_text.proofs.Ends.{valid_ends, from_behind, behind_follows, ahead_not_follows, ends_form}
use Rattle.theory_text.proofs.Sizes.{len_some, len_most, Sized, in_one, in_two, in_three, in_four, sized, form_as}
use Rattle.theory_text.proofs.Forms.{written_value}
use Rattle.vstd_text.specs.Decoding.{is_continuation_byte, at, length_of_last_scalar, take_last_scalar, decode_last_scalar}
use Rattle.vstd_text.proofs.Operators.{codepoint_width_1_is, codepoint_width_2_is, codepoint_width_3_is, codepoint_width_4_is}
use Rattle.vstd_text.proofs.Ranges.{a_continuation, below_continuations, above_continuations}

pub continuation_follows : (b : ℕ) → is_continuation_byte b ≡ follows b
continuation_follows b =
    by_test (follows b)
    (λ t. let e = eqb-true (b / 64) 2 t in a_continuation b (omega arith) (omega arith) ∙ sym t)
    (λ t. let n = eqb-false (b / 64) 2 t in
    by_test (ltb b 0x80)
    (λ l. below_continuations b (ltb-true b 0x80 l) ∙ sym t)
    (λ l. let m = ltb-false b 0x80 l in above_continuations b (omega arith) ∙ sym t))

not_continuation : (b : ℕ) → (b / 64 ≡ 2 → ⊥) → is_continuation_byte b ≡ false
not_continuation b n = continuation_follows b ∙ ne_eqb (b / 64) 2 n

-- the bytes at the end, of which the last form is made
module _ (bytes : List ℕ) (c : ℕ) (e : Ends c bytes) where
  back : (j : ℕ) → 0 < j → j < len c → is_continuation_byte (at bytes (length bytes - j)) ≡ true
  back j p h = let f = behind_follows bytes c e j p h in a_continuation (at bytes (length bytes - j)) (omega arith) (omega arith)

  ahead : (n : ℕ) → len c ≡ n → is_continuation_byte (at bytes (length bytes - n)) ≡ false
  ahead n q = rw (← q) (not_continuation (at bytes (length bytes - len c)) (ahead_not_follows bytes c e))

  byte : (n j i : ℕ) → Sized c n → len c ≡ n → j ≤ n → n - j ≡ i → at bytes (length bytes - j) ≡ get_or (formed n c ++ []) i 0
  byte n j i z q h k =
      let m : len c - j ≡ i = omega arith in
      from_behind bytes c e j (omega arith) ∙ ap (λ (x : ℕ). get_or (form c ++ []) x 0) m ∙ ap (λ (l : List ℕ). get_or (l ++ []) i 0) (form_as z)

  pub length_of_last_scalar_same : length_of_last_scalar bytes ≡ len c
  unfolding length_of_last_scalar
  length_of_last_scalar_same = by (len c) refl (len_some c) (len_most c)
    where
      by : (n : ℕ) → len c ≡ n → 0 < n → n ≤ 4 → length_of_last_scalar bytes ≡ n
      by zero q p h = absurd (omega arith)
      by (suc zero) q p h = rw (ahead 1 q)
      by (suc (suc zero)) q p h = rw (back 1 (omega arith) (omega arith), ahead 2 q)
      by (suc (suc (suc zero))) q p h = rw (back 1 (omega arith) (omega arith), back 2 (omega arith) (omega arith), ahead 3 q)
      by (suc (suc (suc (suc zero)))) q p h = rw (back 1 (omega arith) (omega arith), back 2 (omega arith) (omega arith), back 3 (omega arith) (omega arith))
      by (suc (suc (suc (suc (suc n))))) q p h = absurd (omega arith)

  pub take_last_scalar_same : take_last_scalar bytes ≡ form c
  take_last_scalar_same = rw length_of_last_scalar_same (ends_form bytes c e)

  pub decode_last_scalar_same : decode_last_scalar bytes ≡ c
  unfolding decode_last_scalar
  decode_last_scalar_same = by (sized c) refl
    where
      by : {n : ℕ} → Sized c n → len c ≡ n → decode_last_scalar bytes ≡ c
      by (in_one h) q =
          let r : c % 128 ≡ c = omega arith in
          rw (ahead 1 q, codepoint_width_1_is, byte 1 1 0 (in_one h) q (omega arith) refl, r)
      by (in_two l h) q =
          rw (
            back 1 (omega arith) (omega arith),
            ahead 2 q,
            codepoint_width_2_is,
            byte 2 2 0 (in_two l h) q (omega arith) refl,
            byte 2 1 1 (in_two l h) q (omega arith) refl,
          )
          (written_value (in_two l h) e.0 [])
      by (in_three l h) q =
          rw (
            back 1 (omega arith) (omega arith),
            back 2 (omega arith) (omega arith),
            ahead 3 q,
            codepoint_width_3_is,
            byte 3 3 0 (in_three l h) q (omega arith) refl,
            byte 3 2 1 (in_three l h) q (omega arith) refl,
            byte 3 1 2 (in_three l h) q (omega arith) refl,
          )
          (written_value (in_three l h) e.0 [])
      by (in_four l) q =
          rw (
            back 1 (omega arith) (omega arith),
            back 2 (omega arith) (omega arith),
            back 3 (omega arith) (omega arith),
            codepoint_width_4_is,
            byte 4 4 0 (in_four l) q (omega arith) refl,
            byte 4 3 1 (in_four l) q (omega arith) refl,
            byte 4 2 2 (in_four l) q (omega arith) refl,
            byte 4 1 3 (in_four l) q (omega arith) refl,
          )
          (written_value (in_four l) e.0 [])

-- a text that is not empty ends with a scalar
pub last_of : (s : List ℕ) → Valid s → 0 < length s → (c : ℕ) × Ends c s
last_of s y p = to y.0 y.1 y.2
  where
    to : (cs : List ℕ) → Scalars cs → encode cs ≡ s → (c : ℕ) × Ends c s
    to [] k e = let none : length s ≡ 0 = ap length (sym e) in absurd (omega arith)
    to (c ∷ cs) k e = let q = valid_ends (c ∷ cs) k (omega arith) in (q.0, subst (λ (b : List ℕ). Ends q.0 b) e q.1.1.1)
