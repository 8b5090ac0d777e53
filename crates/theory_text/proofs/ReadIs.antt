-- What is read at the front of bytes, and at their end.
use mathlib.Core.Path.{◌≡◌, sym, ap, ◌∙◌, subst}
use mathlib.Core.List.{List}
use Prim.Native.Nat.{ℕ, ◌-◌, ◌<◌}
use native.Mathlib.Omega.{arith}
use lib.ListN.{length, drop}
use Rattle.theory_text.specs.Text.{Begins, Ends}
use Rattle.theory_text.specs.Table.{first}
use Rattle.theory_text.specs.Reading.{decoded}
use Rattle.theory_text.specs.Boundary.{Back}
use Rattle.theory_text.specs.Scalar.{len}
use Rattle.theory_text.proofs.Steps.{first_len}
use Rattle.theory_text.proofs.Ends.{first_begins, read_ends, back_ends, ends_first, ends_length}
use Rattle.theory_text.proofs.Sizes.{len_some}

module _ (s : List ℕ) where
  pub front_some : (n v : ℕ) → 0 < n → n ≡ first s → v ≡ decoded n s → Begins v s × (n ≡ len v)
  front_some n v p e f =
      let q : 0 < first s = rw e at p in
      let g : v ≡ decoded (first s) s = f ∙ ap (λ (m : ℕ). decoded m s) e in
      (subst (λ (c : ℕ). Begins c s) (sym g) (first_begins s q), e ∙ sym (first_len s q) ∙ ap len (sym g))

  -- k is how far to go back from the end
  module _ (k : ℕ) (b : Back s k) where
    pub end_none : (first (drop (length s - k) s) ≡ k → ⊥) → (c : ℕ) → Ends c s → ⊥
    end_none n c e = n (ap (λ (m : ℕ). first (drop (length s - m) s)) (back_ends s c e k b) ∙ ends_first s c e ∙ sym (back_ends s c e k b))

    pub end_some : (v : ℕ) → first (drop (length s - k) s) ≡ k → v ≡ decoded k (drop (length s - k) s) → Ends v s × (k ≡ len v)
    end_some v e f =
        let r = read_ends s k b.some b.inside e in
        (subst (λ (c : ℕ). Ends c s) (sym f) r.0, sym (ap len f ∙ r.1))

  pub end_empty : length s ≡ 0 → (c : ℕ) → Ends c s → ⊥
  end_empty z c e = omega (arith, ends_length s c e, len_some c)
