-- What the operations on slices answer is what their exports promise.
use mathlib.Core.Path.{◌≡◌, sym, ◌∙◌}
use mathlib.Core.Bool.{Bool, false}
use mathlib.Core.List.{List, [], ◌∷◌, reverse}
use Prim.Native.Nat.{ℕ, ◌+◌, ◌-◌, ◌≤◌, ◌<◌, min}
use native.Mathlib.Omega.{arith}
use lib.ListN.{length, get_or, take, drop, length-reverse}
use Rattle.theory_answers.specs.Says.{Says, Outcome}
use Rattle.theory_lists.specs.Part.{part, Within}
use Rattle.theory_lists.specs.Written.{written}
use Rattle.theory_answers.proofs.Says.{outcome_alike}
use Rattle.theory_lists.proofs.Part.{length_part}
use Rattle.vstd_slices.specs.Slices as vstd
use Rattle.vstd_slices.specs.Promises.{Get, First, Last, Places, SubRange, SplitAt, SplitFirst, NextPiece, StartsWith, EndsWith, Equal, Set, Reverse}
use Rattle.vstd_slices.specs.Promises.{CopyFrom, CopyWithin}
use Rattle.vstd_slices.proofs.Sequences.{part_of_part, part_subrange, subrange_pinned, written_updated, reverse_reversed}
use Rattle.vstd_slices.proofs.Tests.{starts_with_says, ends_with_says, equal_says}
use Rattle.vstd_slices.proofs.Written.{written_replaces, copied_within}

module _ {s : List ℕ} {f t : ℕ} where
  -- there is an element
  some_element : (Within f t s × (f < t) → Within f t s × (0 < length (part f t s))) × (Within f t s × (0 < length (part f t s)) → Within f t s × (f < t))
  some_element = ((λ p. (p.0, omega (arith, length_part p.0, p.1))), (λ p. (p.0, omega (arith, length_part p.0, p.1))))

  places : {x y i j : ℕ} → Within f t s → x ≡ f + i → y ≡ f + j → i ≤ j → j ≤ t - f → Places x y s f t i j
  places {x} {y} {i} {j} w b e h l = record { begins = b; ends = e; subrange = rw (b, e) (part_of_part f t i j s w h l) }

module _ {ok : Bool} {s : List ℕ} {f t : ℕ} where
  -- ---- elements

  pub get_promised : {x i : ℕ} → Outcome ok (Within f t s × (i < t - f)) (x ≡ get_or (part f t s) i 0) (x ≡ 0) → Get ok x s f t i
  get_promised =
      outcome_alike (λ p. (p.0, omega (arith, length_part p.0, p.1))) (λ p. (p.0, omega (arith, length_part p.0, p.1))) (λ p e. e) (λ z. z)

  pub first_promised : {x : ℕ} → Outcome ok (Within f t s × (f < t)) (x ≡ get_or (part f t s) 0 0) (x ≡ 0) → First ok x s f t
  first_promised = outcome_alike some_element.0 some_element.1 (λ p e. e) (λ z. z)

  pub last_promised : {x : ℕ} → Outcome ok (Within f t s × (f < t)) (x ≡ get_or (part f t s) (t - f - 1) 0) (x ≡ 0) → Last ok x s f t
  last_promised = outcome_alike some_element.0 some_element.1 (λ p e. rw (length_part p.0) e) (λ z. z)

  -- ---- places

  pub sub_range_promised : {x y a e : ℕ} → Outcome ok (Within f t s × (a ≤ e) × (e ≤ t - f)) ((x ≡ f + a) × (y ≡ f + e)) ((x ≡ 0) × (y ≡ 0)) → SubRange ok x y s f t a e
  sub_range_promised =
      outcome_alike
      (λ p. (p.0, record { ordered = p.1; ends = omega (arith, length_part p.0, p.2) }))
      (λ p. (p.0, p.1.ordered, omega (arith, length_part p.0, p.1.ends)))
      (λ p g. places p.0 g.0 g.1 p.1 p.2)
      (λ z. z)

  pub split_at_promised : {x m y mid : ℕ} → Outcome ok (Within f t s × (mid ≤ t - f)) ((x ≡ f) × (m ≡ f + mid) × (y ≡ t)) ((x ≡ 0) × (m ≡ 0) × (y ≡ 0)) → SplitAt ok x m y s f t mid
  split_at_promised =
      outcome_alike
      (λ p. (p.0, omega (arith, length_part p.0, p.1)))
      (λ p. (p.0, omega (arith, length_part p.0, p.1)))
      (λ p g.
      let w = p.0 in
      let n = length_part w in (
        places w (omega (arith, g.0)) g.1 (omega arith) p.1,
        places w g.1 (omega (arith, g.2, n, w.ordered)) (omega (arith, n, p.1)) (omega (arith, n)),
      ))
      (λ z. z)

  pub split_first_promised : {first x y : ℕ} → Outcome ok (Within f t s × (f < t)) ((first ≡ get_or (part f t s) 0 0) × (x ≡ f + 1) × (y ≡ t))
      ((first ≡ 0) × (x ≡ 0) × (y ≡ 0)) → SplitFirst ok first x y s f t
  split_first_promised =
      outcome_alike some_element.0 some_element.1
      (λ p g.
      let w = p.0 in
      let n = length_part w in
      (g.0, places w g.1 (omega (arith, g.2, n, w.ordered)) (omega (arith, n, p.1)) (omega (arith, n))))
      (λ z. z)

  pub next_piece_promised : {x y n : ℕ} → Outcome ok (Within f t s × (f < t) × (0 < n)) ((x ≡ f) × (y ≡ min (f + n) t)) ((x ≡ 0) × (y ≡ 0)) → NextPiece ok x y s f t n
  next_piece_promised =
      outcome_alike
      (λ p. (p.0, omega (arith, length_part p.0, p.1), p.2))
      (λ p. (p.0, omega (arith, length_part p.0, p.1), p.2))
      (λ p g.
      let w = p.0 in
      let l = length_part w in
      places w (omega (arith, g.0)) (omega (arith, g.1, l, p.1)) (omega arith) (omega (arith, l)))
      (λ z. z)

  -- ---- tests

  module _ (b : Bool) (needle : List ℕ) where
    pub starts_with_promised : Outcome ok (Within f t s) (Says b (take (length needle) (part f t s) ≡ needle)) (b ≡ false) → StartsWith ok b s f t needle
    starts_with_promised = outcome_alike (λ w. w) (λ w. w) (λ w. starts_with_says (part f t s) needle b) (λ z. z)

    pub ends_with_promised : Outcome ok (Within f t s) (Says b (drop (t - f - length needle) (part f t s) ≡ needle)) (b ≡ false) → EndsWith ok b s f t needle
    ends_with_promised = outcome_alike (λ w. w) (λ w. w) (λ w h. ends_with_says (part f t s) needle b (rw (length_part {f = f} {t = t} {s = s} w) h)) (λ z. z)

    pub equal_promised : Outcome ok (Within f t s) (Says b (part f t s ≡ needle)) (b ≡ false) → Equal ok b s f t needle
    equal_promised = outcome_alike (λ w. w) (λ w. w) (λ w. equal_says (part f t s) needle b) (λ z. z)

  -- ---- what is written

  module _ {s' : List ℕ} where
    pub set_promised : {i v : ℕ} → Outcome ok (Within f t s × (i < t - f)) (s' ≡ written s (f + i) (v ∷ [])) (s' ≡ s) → Set ok s s' f t i v
    set_promised {i} {v} =
        outcome_alike (λ p. (p.0, omega (arith, length_part p.0, p.1))) (λ p. (p.0, omega (arith, length_part p.0, p.1)))
        (λ p e. rw e (written_updated s (f + i) v (omega (arith, p.0.ends, p.1)))) (λ z. z)

    pub reverse_promised : Outcome ok (Within f t s) (s' ≡ written s f (reverse (part f t s))) (s' ≡ s) → Reverse ok s s' f t
    reverse_promised = outcome_alike (λ w. w) (λ w. w) turned (λ z. z)
      where
        turned : Within f t s → s' ≡ written s f (reverse (part f t s)) → vstd.Reversed (part f t s) (part f t s') × vstd.PartReplaced s s' f t (part f t s')
        turned w e =
            let new = reverse (part f t s) in
            let replaced : vstd.PartReplaced s s' f t new = rw e (written_replaces new w (length-reverse (part f t s) ∙ length_part w)) in
            let w' : Within f t s' = record { ordered = w.ordered; ends = omega (arith, w.ends, replaced.len) } in
            let same : part f t s' ≡ new = subrange_pinned (part_subrange w') replaced.inside in
            (rw same (reverse_reversed (part f t s)), rw same replaced)

    pub copy_from_promised : {other : List ℕ} → Outcome ok (Within f t s × (length other ≡ t - f)) (s' ≡ written s f other) (s' ≡ s) → CopyFrom ok s s' f t other
    copy_from_promised {other} =
        outcome_alike
        (λ p. (p.0, p.1 ∙ sym (length_part p.0)))
        (λ p. (p.0, p.1 ∙ length_part p.0))
        (λ p e. rw e (written_replaces other p.0 p.1))
        (λ z. z)

    pub copy_within_promised : {at : ℕ} → Outcome ok (Within f t s × (at + (t - f) ≤ length s)) (s' ≡ written s at (part f t s)) (s' ≡ s) → CopyWithin ok s s' f t at
    copy_within_promised {at} = outcome_alike (λ p. p) (λ p. p) (λ p e. rw e (copied_within at p.0 p.1)) (λ z. z)
