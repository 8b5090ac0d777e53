-- The first scalar by four numbers, of which those past the end are 0: no row has a 0 behind its first byte.
use mathlib.Core.Path.{◌≡◌, refl, ap, ◌∙◌}
use mathlib.Core.List.{List, [], ◌∷◌}
use Prim.Native.Nat.{ℕ, zero, suc, ◌+◌, ◌*◌, ◌%◌, ◌<◌, ◌≤◌}
use native.Mathlib.Omega.{arith}
use native.Mathlib.Nat.{add-zero}
use lib.ListN.{length, get_or, drop}
use lib.Seq.{drop-cons, get_or-drop}
use Rattle.theory_lists.specs.Bounds.{between}
use Rattle.theory_text.specs.Table.{After, followed, first}
use Rattle.theory_text.specs.Reading.{value_of, decoded}
use Rattle.theory_text.proofs.Rows.{Row, row_00, row_c2, row_e0, row_e1, row_ed, row_ee, row_f0, row_f1, row_f4, gap, beyond, row}

abbrev pub four : ℕ → ℕ → ℕ → ℕ → List ℕ
four b0 b1 b2 b3 = b0 ∷ b1 ∷ b2 ∷ b3 ∷ []

abbrev padded : List ℕ → List ℕ
padded bs = get_or bs 0 0 ∷ get_or bs 1 0 ∷ get_or bs 2 0 ∷ []

pad : {b : ℕ} {a : After} → Row b a → (bs : List ℕ) → followed a bs ≡ followed a (padded bs)
unfolding between
pad (row_00 h) bs = refl
pad (row_c2 l h) [] = refl
pad (row_c2 l h) (x ∷ bs) = refl
pad (row_e0 e) [] = refl
pad (row_e0 e) (x ∷ []) = refl
pad (row_e0 e) (x ∷ y ∷ bs) = refl
pad (row_e1 l h) [] = refl
pad (row_e1 l h) (x ∷ []) = refl
pad (row_e1 l h) (x ∷ y ∷ bs) = refl
pad (row_ed e) [] = refl
pad (row_ed e) (x ∷ []) = refl
pad (row_ed e) (x ∷ y ∷ bs) = refl
pad (row_ee l h) [] = refl
pad (row_ee l h) (x ∷ []) = refl
pad (row_ee l h) (x ∷ y ∷ bs) = refl
pad (row_f0 e) [] = refl
pad (row_f0 e) (x ∷ []) = refl
pad (row_f0 e) (x ∷ y ∷ []) = refl
pad (row_f0 e) (x ∷ y ∷ z ∷ bs) = refl
pad (row_f1 l h) [] = refl
pad (row_f1 l h) (x ∷ []) = refl
pad (row_f1 l h) (x ∷ y ∷ []) = refl
pad (row_f1 l h) (x ∷ y ∷ z ∷ bs) = refl
pad (row_f4 e) [] = refl
pad (row_f4 e) (x ∷ []) = refl
pad (row_f4 e) (x ∷ y ∷ []) = refl
pad (row_f4 e) (x ∷ y ∷ z ∷ bs) = refl
pad (gap l h) bs = refl
pad (beyond l) bs = refl

pub first_four : (b : ℕ) (bs : List ℕ) → first (b ∷ bs) ≡ first (b ∷ padded bs)
first_four b bs = pad (row b) bs

-- by the bytes at a place and behind it
ahead : (s : List ℕ) (at i k : ℕ) → suc at + i ≡ at + k → get_or (drop (suc at) s) i 0 ≡ get_or s (at + k) 0
ahead s at i k q = get_or-drop (suc at) s i 0 ∙ ap (λ (n : ℕ). get_or s n 0) q

pub first_at : (s : List ℕ) (at : ℕ) → at < length s → first (drop at s) ≡ first (four (get_or s at 0) (get_or s (at + 1) 0) (get_or s (at + 2) 0) (get_or s (at + 3) 0))
first_at s at h =
    ap first (drop-cons s at 0 h) ∙ first_four (get_or s at 0) (drop (suc at) s)
    ∙ rw (ahead s at 0 1 (omega arith), ahead s at 1 2 (omega arith), ahead s at 2 3 (omega arith))

pub value_at : (s : List ℕ) (at n : ℕ) → decoded n (drop at s) ≡ value_of n (get_or s at 0) (get_or s (at + 1) 0) (get_or s (at + 2) 0) (get_or s (at + 3) 0)
value_at s at n = simp (get_or-drop, add-zero)

pub value_four : (n b0 b1 b2 b3 : ℕ) → 4 ≤ n → ((b0 % 8 * 64 + b1 % 64) * 64 + b2 % 64) * 64 + b3 % 64 ≡ value_of n b0 b1 b2 b3
value_four zero b0 b1 b2 b3 h = absurd (omega arith)
value_four (suc zero) b0 b1 b2 b3 h = absurd (omega arith)
value_four (suc (suc zero)) b0 b1 b2 b3 h = absurd (omega arith)
value_four (suc (suc (suc zero))) b0 b1 b2 b3 h = absurd (omega arith)
value_four (suc (suc (suc (suc n)))) b0 b1 b2 b3 h = refl
