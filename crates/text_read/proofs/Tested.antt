-- How long the form is, by the tests of its bytes one after another.
use mathlib.Core.Path.{◌≡◌, refl, sym, ap, ◌∙◌}
use mathlib.Core.Bool.{true, false}
use mathlib.Core.List.{[], ◌∷◌}
use Prim.Native.Nat.{ℕ, zero, suc, ◌/◌, ◌<◌, ◌≤◌}
use native.Mathlib.Omega.{arith}
use lib.Dec.{ltb}
use borrow.Author.Tests.{ltb-true, ltb-false}
use Rattle.theory_whole.proofs.Cases.{by_test}
use Rattle.theory_lists.specs.Bounds.{between}
use Rattle.theory_lists.proofs.Between.{is_between, not_below, not_above}
use Rattle.theory_text.specs.Table.{After, followed, first}
use Rattle.theory_text.proofs.Rows.{Row, row_is}
use Rattle.text_read.specs.Asked.{asked, Leads}

pub leads : {b n l h : ℕ} → n ≤ 4 → Row b (asked n l h) → Leads b n l h
leads m r = record { most = m; asks = row_is r }

-- 10xxxxxx
pub follows_in : (b : ℕ) → b / 64 ≡ 2 → between 0x80 0xbf b ≡ true
follows_in b e = is_between 0x80 0xbf b (omega arith) (omega arith)

pub follows_out : (b : ℕ) → (b / 64 ≡ 2 → ⊥) → between 0x80 0xbf b ≡ false
follows_out b n =
    by_test (ltb b 0x80) (λ e. not_below 0x80 0xbf b (ltb-true b 0x80 e)) (λ e. let l = ltb-false b 0x80 e in not_above 0x80 0xbf b (omega arith))

module _ (l h b1 b2 b3 : ℕ) where
  abbrev long : ℕ → ℕ
  long n = followed (asked n l h) (b1 ∷ b2 ∷ b3 ∷ [])

  pub few : (n : ℕ) → n < 2 → n ≡ long n
  few zero p = refl
  few (suc zero) p = refl
  few (suc (suc n)) p = absurd (omega arith)

  -- where the second byte is out of its range, there is no form
  pub second_out : (n : ℕ) → 2 ≤ n → between l h b1 ≡ false → 0 ≡ long n
  second_out zero p e = absurd (omega arith)
  second_out (suc zero) p e = absurd (omega arith)
  second_out (suc (suc zero)) p e = rw e
  second_out (suc (suc (suc zero))) p e = rw e
  second_out (suc (suc (suc (suc n)))) p e = rw e

  module _ (in1 : between l h b1 ≡ true) where
    pub two : (n : ℕ) → n ≡ 2 → 2 ≡ long n
    two n e = rw (e, in1)

    pub third_out : (n : ℕ) → 3 ≤ n → (b2 / 64 ≡ 2 → ⊥) → 0 ≡ long n
    third_out zero p e = absurd (omega arith)
    third_out (suc zero) p e = absurd (omega arith)
    third_out (suc (suc zero)) p e = absurd (omega arith)
    third_out (suc (suc (suc zero))) p e = rw (in1, follows_out b2 e)
    third_out (suc (suc (suc (suc n)))) p e = rw (in1, follows_out b2 e)

    module _ (in2 : b2 / 64 ≡ 2) where
      pub three : (n : ℕ) → n ≡ 3 → 3 ≡ long n
      three n e = rw (e, in1, follows_in b2 in2)

      pub fourth_out : (n : ℕ) → n ≡ 4 → (b3 / 64 ≡ 2 → ⊥) → 0 ≡ long n
      fourth_out n q e = rw (q, in1, follows_in b2 in2, follows_out b3 e)

      pub all_four : (n : ℕ) → n ≡ 4 → b3 / 64 ≡ 2 → 4 ≡ long n
      all_four n q e = rw (q, in1, follows_in b2 in2, follows_in b3 e)

pub tested : {b0 n l h : ℕ} (b1 b2 b3 : ℕ) → Leads b0 n l h → {k : ℕ} → k ≡ followed (asked n l h) (b1 ∷ b2 ∷ b3 ∷ []) → k ≡ first (b0 ∷ b1 ∷ b2 ∷ b3 ∷ [])
tested b1 b2 b3 lead e = e ∙ sym (ap (λ (a : After). followed a (b1 ∷ b2 ∷ b3 ∷ [])) lead.asks)

-- both ways
pub none_tested : {n : ℕ} → 0 ≡ n → 0 < n → ⊥
none_tested e h = omega (arith, e, h)

pub some_tested : {n : ℕ} (k : ℕ) → 0 < k → k ≡ n → (0 < n) × (k ≡ n)
some_tested k h e = (omega (arith, h, e), e)
