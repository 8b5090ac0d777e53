-- Pieces of n: from the front, one after another; together they are the whole; how many there are, and which is which.
use mathlib.Core.Path.{◌≡◌, refl, sym, ap, ap₂, ◌∙◌}
use mathlib.Core.List.{List, [], ◌∷◌, ◌++◌}
use Prim.Native.Nat.{ℕ, zero, suc, ◌+◌, ◌-◌, ◌*◌, ◌/◌, ◌≤◌, ◌<◌, min}
use native.Mathlib.Nat.{add-div_right, div-eq_of_lt, div-add-mod', div-mul-le_self, mod-lt, mul-le-mul_right, suc-mul, zero-mul}
use native.Mathlib.Decide.{dec_lt}
use native.Mathlib.Omega.{arith}
use lib.ListN.{length, get_or, take, drop, length-drop}
use lib.Seq.{take_all, take-add, drop-drop}
use Rattle.theory_lists.specs.Part.{part, Within}
use Rattle.theory_lists.specs.Pieces.{count, first_pieces, pieces, joined}
use Rattle.theory_lists.proofs.Part.{length_part, part_none, part_rest, take_part, drop_part}

module _ (n : ℕ) (some : 0 < n) where
  pub count_none : count n 0 ≡ 0
  unfolding count
  count_none = div-eq_of_lt (omega arith)

  pub count_next : (len : ℕ) → 0 < len → count n len ≡ suc (count n (len - n))
  unfolding count
  count_next len h =
      let e : len + (n - 1) ≡ len - 1 + n = omega arith in
      ap (λ (k : ℕ). k / n) e ∙ add-div_right (len - 1) some ∙ go (dec_lt len n)
    where
      go : Dec (len < n) → (len - 1) / n + 1 ≡ suc ((len - n + (n - 1)) / n)
      go (yes l) =
          let a : (len - 1) / n ≡ 0 = div-eq_of_lt (omega arith) in
          let b : (len - n + (n - 1)) / n ≡ 0 = div-eq_of_lt (omega arith) in
          omega arith
      go (no l) =
          let a : len - n + (n - 1) ≡ len - 1 = omega arith in
          let b : (len - n + (n - 1)) / n ≡ (len - 1) / n = ap (λ (k : ℕ). k / n) a in
          omega arith

  -- so many pieces reach the end, and one fewer do not
  pub count_reaches : (len : ℕ) → len ≤ count n len * n
  unfolding count
  count_reaches len = omega (arith, div-add-mod' (len + (n - 1)) n, mod-lt (len + (n - 1)) some)

  pub count_needed : (len i : ℕ) → i < count n len → i * n < len
  unfolding count
  count_needed len i l =
      let m : suc i * n ≤ count n len * n = mul-le-mul_right n l in
      omega (arith, suc-mul i n, div-mul-le_self (len + (n - 1)) n)

  pub pieces_none : pieces n [] ≡ []
  unfolding pieces first_pieces
  pieces_none = ap (λ (k : ℕ). first_pieces k n []) count_none

  pub pieces_next : (s : List ℕ) → 0 < length s → pieces n s ≡ take n s ∷ pieces n (drop n s)
  unfolding pieces first_pieces
  pieces_next s h =
      ap (λ (k : ℕ). first_pieces k n s) (count_next (length s) h) ∙ ap (λ (k : ℕ). take n s ∷ first_pieces (count n k) n (drop n s)) (sym (length-drop n s))

  first_joined : (k : ℕ) (s : List ℕ) → joined (first_pieces k n s) ≡ take (k * n) s
  unfolding first_pieces joined
  first_joined zero s = ap (λ (m : ℕ). take m s) (sym (zero-mul n))
  first_joined (suc k) s =
      let e : n + k * n ≡ suc k * n = omega (arith, suc-mul k n) in
      ap (λ (r : List ℕ). take n s ++ r) (first_joined k (drop n s)) ∙ sym (take-add n (k * n) s) ∙ ap (λ (m : ℕ). take m s) e

  pub pieces_joined : (s : List ℕ) → joined (pieces n s) ≡ s
  unfolding pieces
  pieces_joined s = first_joined (count n (length s)) s ∙ take_all (count n (length s) * n) s (count_reaches (length s))

  first_many : (k : ℕ) (s : List ℕ) → length (first_pieces k n s) ≡ k
  unfolding first_pieces
  first_many zero s = refl
  first_many (suc k) s = ap suc (first_many k (drop n s))

  pub pieces_many : (s : List ℕ) → length (pieces n s) ≡ count n (length s)
  unfolding pieces
  pieces_many s = first_many (count n (length s)) s

  first_at : (k i : ℕ) (s : List ℕ) → i < k → get_or (first_pieces k n s) i [] ≡ take n (drop (i * n) s)
  unfolding first_pieces
  first_at zero i s h = absurd (omega arith)
  first_at (suc k) zero s h = ap (λ (m : ℕ). take n (drop m s)) (sym (zero-mul n))
  first_at (suc k) (suc i) s h =
      let e : n + i * n ≡ suc i * n = omega (arith, suc-mul i n) in
      first_at k i (drop n s) (omega arith) ∙ ap (take n) (drop-drop (i * n) n s ∙ ap (λ (m : ℕ). drop m s) e)

  -- n elements, or as many as there are
  front_is : (f t : ℕ) (s : List ℕ) → Within f t s → take n (part f t s) ≡ part f (min (f + n) t) s
  front_is f t s w = go (dec_lt (t - f) n)
    where
      go : Dec (t - f < n) → take n (part f t s) ≡ part f (min (f + n) t) s
      go (yes l) =
          let e : t ≡ min (f + n) t = omega (arith, w.ordered) in
          take_all n (part f t s) (omega (arith, length_part w)) ∙ ap (λ (m : ℕ). part f m s) e
      go (no l) =
          let e : f + n ≡ min (f + n) t = omega (arith, w.ordered) in
          take_part n f t s (omega (arith, w.ordered)) ∙ ap (λ (m : ℕ). part f m s) e

  pub piece_at : (s : List ℕ) (i : ℕ) → i < count n (length s) → get_or (pieces n s) i [] ≡ part (i * n) (min (i * n + n) (length s)) s
  unfolding pieces
  piece_at s i l =
      let h = count_needed (length s) i l in
      first_at (count n (length s)) i s l
      ∙ ap (take n) (sym (part_rest (i * n) s))
      ∙ front_is (i * n) (length s) s (record { ordered = omega arith; ends = omega arith })

  -- what is left after the first piece
  rest_is : (f t : ℕ) (s : List ℕ) → Within f t s → drop n (part f t s) ≡ part (min (f + n) t) t s
  rest_is f t s w = drop_part n f t s ∙ go (dec_lt t (f + n))
    where
      go : Dec (t < f + n) → part (f + n) t s ≡ part (min (f + n) t) t s
      go (yes l) =
          let e : t - (f + n) ≡ 0 = omega arith in
          let g : t ≡ min (f + n) t = omega arith in
          ap (λ (k : ℕ). take k (drop (f + n) s)) e ∙ sym (part_none t s) ∙ ap (λ (m : ℕ). part m t s) g
      go (no l) = let e : f + n ≡ min (f + n) t = omega arith in ap (λ (m : ℕ). part m t s) e

  -- from piece to piece: the first, and then the pieces of what is left
  pub next_piece_of : {f t : ℕ} {s : List ℕ} → Within f t s → f < t → pieces n (part f t s) ≡ part f (min (f + n) t) s ∷ pieces n (part (min (f + n) t) t s)
  next_piece_of {f} {t} {s} w h = pieces_next (part f t s) (omega (arith, length_part w)) ∙ ap₂ (λ (p r : List ℕ). p ∷ pieces n r) (front_is f t s w) (rest_is f t s w)

  pub no_piece_of : (f : ℕ) (s : List ℕ) → pieces n (part f f s) ≡ []
  no_piece_of f s = ap (pieces n) (part_none f s) ∙ pieces_none
