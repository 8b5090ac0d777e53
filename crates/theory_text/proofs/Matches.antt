-- Bytes of given ranges, as facts on the bytes.
use mathlib.Core.Path.{◌≡◌, refl}
use mathlib.Core.Bool.{true}
use mathlib.Core.List.{List, [], ◌∷◌}
use Prim.Native.Nat.{ℕ, ◌≤◌}
use Rattle.theory_whole.proofs.Cases.{never, both, both_are}
use Rattle.theory_lists.specs.Bounds.{between}
use Rattle.theory_lists.proofs.Between.{is_between, bounds_of}
use Rattle.theory_text.specs.Table.{Range, matches}

abbrev pub Matched : List Range → List ℕ → Type 0
Matched [] bs = Unit {0}
Matched (r ∷ rs) [] = ⊥
Matched (r ∷ rs) (b ∷ bs) = ((r.low ≤ b) × (b ≤ r.high)) × Matched rs bs

pub matched : (rs : List Range) (bs : List ℕ) → matches rs bs ≡ true → Matched rs bs
matched [] bs e = tt
matched (r ∷ rs) [] e = never e refl
matched (r ∷ rs) (b ∷ bs) e =
    let p = both_are (between r.low r.high b) (matches rs bs) e in
    (bounds_of r.low r.high b p.0, matched rs bs p.1)

pub matches_so : (rs : List Range) (bs : List ℕ) → Matched rs bs → matches rs bs ≡ true
matches_so [] bs m = refl
matches_so (r ∷ rs) [] m = absurd m
matches_so (r ∷ rs) (b ∷ bs) m = both (is_between r.low r.high b m.0.0 m.0.1) (matches_so rs bs m.1)

-- bytes that match one, two or three ranges
module _ (P : List ℕ → Type 0) where
  abbrev In : Range → ℕ → Type 0
  In r b = (r.low ≤ b) × (b ≤ r.high)

  pub one_matched : (r : Range) → ((b : ℕ) (bs : List ℕ) → In r b → P (b ∷ bs)) → (bs : List ℕ) → Matched (r ∷ []) bs → P bs
  one_matched r f [] m = absurd m
  one_matched r f (b ∷ bs) m = f b bs m.0

  pub two_matched : (r s : Range) → ((b c : ℕ) (bs : List ℕ) → In r b → In s c → P (b ∷ c ∷ bs)) → (bs : List ℕ) → Matched (r ∷ s ∷ []) bs → P bs
  two_matched r s f [] m = absurd m
  two_matched r s f (b ∷ []) m = absurd m.1
  two_matched r s f (b ∷ c ∷ bs) m = f b c bs m.0 m.1.0

  pub three_matched : (r s t : Range) → ((b c d : ℕ) (bs : List ℕ) → In r b → In s c → In t d → P (b ∷ c ∷ d ∷ bs)) → (bs : List ℕ) → Matched (r ∷ s ∷ t ∷ []) bs → P bs
  three_matched r s t f [] m = absurd m
  three_matched r s t f (b ∷ []) m = absurd m.1
  three_matched r s t f (b ∷ c ∷ []) m = absurd m.1.1
  three_matched r s t f (b ∷ c ∷ d ∷ bs) m = f b c d bs m.0 m.1.0 m.1.1.0
