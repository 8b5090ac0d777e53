-- The scalars of valid text are as many as its bytes that are no 10xxxxxx.
use mathlib.Core.Path.{◌≡◌, refl, sym, ap, ◌∙◌}
use mathlib.Core.List.{List, [], ◌∷◌, ◌++◌}
use Prim.Native.Nat.{ℕ, suc, ◌+◌, ◌/◌, ◌<◌, ◌≤◌}
use native.Mathlib.Omega.{arith}
use native.Mathlib.Numerals.{add-one}
use lib.ListN.{length, get_or, drop, drop_of_length-le}
use lib.Seq.{drop-cons}
use borrow.Author.Tests.{eq-eqb, ne_eqb}
use Rattle.theory_text.specs.Scalar.{digit, formed}
use Rattle.theory_text.specs.Text.{encode, Valid}
use Rattle.theory_text.specs.Reading.{scalars}
use Rattle.theory_text.specs.Boundary.{started}
use Rattle.theory_text.proofs.Sizes.{Sized, in_one, in_two, in_three, in_four, sized}
use Rattle.theory_text.proofs.Unique.{valid_encode}

pub started_follows : (b : ℕ) (s : List ℕ) → b / 64 ≡ 2 → started (b ∷ s) ≡ started s
unfolding started
started_follows b s e = rw (eq-eqb (b / 64) 2 e)

pub started_starts : (b : ℕ) (s : List ℕ) → (b / 64 ≡ 2 → ⊥) → started (b ∷ s) ≡ suc (started s)
unfolding started
started_starts b s n = rw (ne_eqb (b / 64) 2 n)

digit_follows : (c : ℕ) → digit c / 64 ≡ 2
digit_follows c = omega arith

started_formed : {c n : ℕ} → Sized c n → (r : List ℕ) → started (formed n c ++ r) ≡ suc (started r)
started_formed {c} (in_one h) r = started_starts c r (λ e. omega arith)
started_formed {c} (in_two l h) r =
    started_starts (0xc0 + c / 64) (digit c ∷ r) (λ e. omega arith) ∙ ap suc (started_follows (digit c) r (digit_follows c))
started_formed {c} (in_three l h) r =
    started_starts (0xe0 + c / 64 / 64) (digit (c / 64) ∷ digit c ∷ r) (λ e. omega arith)
    ∙ ap suc (started_follows (digit (c / 64)) (digit c ∷ r) (digit_follows (c / 64)) ∙ started_follows (digit c) r (digit_follows c))
started_formed {c} (in_four l) r =
    started_starts (0xf0 + c / 64 / 64 / 64) (digit (c / 64 / 64) ∷ digit (c / 64) ∷ digit c ∷ r) (λ e. omega arith)
    ∙ ap suc (started_follows (digit (c / 64 / 64)) (digit (c / 64) ∷ digit c ∷ r) (digit_follows (c / 64 / 64))
    ∙ started_follows (digit (c / 64)) (digit c ∷ r) (digit_follows (c / 64)) ∙ started_follows (digit c) r (digit_follows c))

pub started_encode : (cs : List ℕ) → started (encode cs) ≡ length cs
unfolding started
started_encode [] = refl
started_encode (c ∷ cs) = started_formed (sized c) (encode cs) ∙ ap suc (started_encode cs)

pub started_valid : (s : List ℕ) → Valid s → started s ≡ length (scalars s)
started_valid s v = ap started (sym (valid_encode s v)) ∙ started_encode (scalars s)

-- ---- counted by places
module _ (s : List ℕ) (at : ℕ) (h : at < length s) where
  pub started_next : get_or s at 0 / 64 ≡ 2 → started (drop at s) ≡ started (drop (at + 1) s)
  started_next e = rw (add-one at) (ap started (drop-cons s at 0 h) ∙ started_follows (get_or s at 0) (drop (suc at) s) e)

  pub started_more : (get_or s at 0 / 64 ≡ 2 → ⊥) → started (drop at s) ≡ started (drop (at + 1) s) + 1
  started_more n = rw (add-one at) (ap started (drop-cons s at 0 h) ∙ started_starts (get_or s at 0) (drop (suc at) s) n ∙ sym (add-one (started (drop (suc at) s))))

pub started_end : (s : List ℕ) (at : ℕ) → length s ≤ at → started (drop at s) ≡ 0
unfolding started
started_end s at h = rw (drop_of_length-le s h)
