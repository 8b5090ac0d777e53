-- The row of table 3-7 that a first byte chooses, as facts on the byte.
use mathlib.Core.Path.{◌≡◌, refl, ◌∙◌}
use mathlib.Core.Bool.{Bool, true, ◌&&◌}
use mathlib.Core.List.{List, [], ◌∷◌}
use Prim.Native.Nat.{ℕ, zero, suc, ◌<◌, ◌≤◌}
use native.Mathlib.Omega.{arith}
use lib.Dec.{ltb, leb}
use lib.ListN.{drop}
use borrow.Author.Tests.{ltb-true, ltb-false, leb-true}
use Rattle.theory_whole.proofs.Cases.{by_test, both_are}
use Rattle.theory_lists.proofs.Between.{is_between, not_below, not_above}
use Rattle.theory_text.specs.Table.{Range, ◌to◌, After, more, wrong, rows, after_in, after}
use Rattle.theory_text.proofs.Tests.{by_high}

-- 10xxxxxx
abbrev pub any : Range
any = 0x80 to 0xbf

pub data Row (b : ℕ) : After → Type 0 where
  row_00 : b < 0x80 → Row b (more [])
  row_c2 : 0xc2 ≤ b → b < 0xe0 → Row b (more (any ∷ []))
  row_e0 : b ≡ 0xe0 → Row b (more ((0xa0 to 0xbf) ∷ any ∷ []))
  row_e1 : 0xe1 ≤ b → b < 0xed → Row b (more (any ∷ any ∷ []))
  row_ed : b ≡ 0xed → Row b (more ((0x80 to 0x9f) ∷ any ∷ []))
  row_ee : 0xee ≤ b → b < 0xf0 → Row b (more (any ∷ any ∷ []))
  row_f0 : b ≡ 0xf0 → Row b (more ((0x90 to 0xbf) ∷ any ∷ any ∷ []))
  row_f1 : 0xf1 ≤ b → b < 0xf4 → Row b (more (any ∷ any ∷ any ∷ []))
  row_f4 : b ≡ 0xf4 → Row b (more ((0x80 to 0x8f) ∷ any ∷ any ∷ []))
  gap : 0x80 ≤ b → b < 0xc2 → Row b wrong
  beyond : 0xf5 ≤ b → Row b wrong

module _ (b : ℕ) where
  low_wrong : 0x80 ≤ b → b < 0xc2 → after b ≡ wrong
  unfolding after
  low_wrong l h =
      simp (
        not_above 0x00 0x7f b l,
        not_below 0xc2 0xdf b h,
        not_below 0xe0 0xe0 b (omega arith),
        not_below 0xe1 0xec b (omega arith),
        not_below 0xed 0xed b (omega arith),
        not_below 0xee 0xef b (omega arith),
        not_below 0xf0 0xf0 b (omega arith),
        not_below 0xf1 0xf3 b (omega arith),
        not_below 0xf4 0xf4 b (omega arith),
      )

  -- from the byte on which the ranges of the rows follow one another
  high_rows : 0xc2 ≤ b → Row b (after b)
  unfolding after
  high_rows l =
      rw (not_above 0x00 0x7f b (omega arith))
      (by_high 0xc2 0xdf b (Row b) l (λ h. row_c2 l (omega arith))
      (λ l. by_high 0xe0 0xe0 b (Row b) l (λ h. row_e0 (omega arith))
      (λ l. by_high 0xe1 0xec b (Row b) l (λ h. row_e1 l (omega arith))
      (λ l. by_high 0xed 0xed b (Row b) l (λ h. row_ed (omega arith))
      (λ l. by_high 0xee 0xef b (Row b) l (λ h. row_ee l (omega arith))
      (λ l. by_high 0xf0 0xf0 b (Row b) l (λ h. row_f0 (omega arith))
      (λ l. by_high 0xf1 0xf3 b (Row b) l (λ h. row_f1 l (omega arith))
      (λ l. by_high 0xf4 0xf4 b (Row b) l (λ h. row_f4 (omega arith)) beyond))))))))

  ascii_row : b < 0x80 → Row b (after b)
  unfolding after
  ascii_row h = rw (is_between 0x00 0x7f b (omega arith) (omega arith)) (row_00 h)

  pub row : Row b (after b)
  row =
      by_test (ltb b 0xc2)
      (λ e. let h = ltb-true b 0xc2 e in
      by_test (ltb b 0x80) (λ e'. ascii_row (ltb-true b 0x80 e'))
      (λ e'. let l = ltb-false b 0x80 e' in rw (low_wrong l h) (gap l h)))
      (λ e. high_rows (ltb-false b 0xc2 e))

-- ---- a byte has only one row

-- whether the first k rows end at m or before
abbrev end_by : ℕ → ℕ → List (List Range) → Bool
end_by m zero table = true
end_by m (suc k) [] = true
end_by m (suc k) ([] ∷ others) = end_by m k others
end_by m (suc k) ((r ∷ rs) ∷ others) = leb r.high m && end_by m k others

module _ {b : ℕ} where
  -- a byte behind them is looked for in the others
  past : (m k : ℕ) (table : List (List Range)) → end_by m k table ≡ true → m < b → after_in table b ≡ after_in (drop k table) b
  past m zero table e h = refl
  past m (suc k) [] e h = refl
  past m (suc k) ([] ∷ others) e h = past m k others e h
  past m (suc k) ((r ∷ rs) ∷ others) e h =
      let p = both_are (leb r.high m) (end_by m k others) e in
      rw (not_above r.low r.high b (omega (arith, leb-true r.high m p.0))) (past m k others p.1 h)

  pub row_is : {a : After} → Row b a → after b ≡ a
  unfolding after
  row_is (row_00 h) = rw (is_between 0x00 0x7f b (omega arith) (omega arith))
  row_is (row_c2 l h) = past 0x7f 1 rows refl (omega arith) ∙ rw (is_between 0xc2 0xdf b (omega arith) (omega arith))
  row_is (row_e0 e) = past 0xdf 2 rows refl (omega arith) ∙ rw (is_between 0xe0 0xe0 b (omega arith) (omega arith))
  row_is (row_e1 l h) = past 0xe0 3 rows refl (omega arith) ∙ rw (is_between 0xe1 0xec b (omega arith) (omega arith))
  row_is (row_ed e) = past 0xec 4 rows refl (omega arith) ∙ rw (is_between 0xed 0xed b (omega arith) (omega arith))
  row_is (row_ee l h) = past 0xed 5 rows refl (omega arith) ∙ rw (is_between 0xee 0xef b (omega arith) (omega arith))
  row_is (row_f0 e) = past 0xef 6 rows refl (omega arith) ∙ rw (is_between 0xf0 0xf0 b (omega arith) (omega arith))
  row_is (row_f1 l h) = past 0xf0 7 rows refl (omega arith) ∙ rw (is_between 0xf1 0xf3 b (omega arith) (omega arith))
  row_is (row_f4 e) = past 0xf3 8 rows refl (omega arith) ∙ rw (is_between 0xf4 0xf4 b (omega arith) (omega arith))
  row_is (gap l h) = low_wrong b l h
  row_is (beyond l) = past 0xf4 9 rows refl l
