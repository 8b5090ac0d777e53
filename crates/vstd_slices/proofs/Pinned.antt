-- Pinned: two answers of an export, and two slices left behind, that both keep its promise for the same arguments are equal.
use mathlib.Core.Path.{◌≡◌, sym, ◌∙◌}
use mathlib.Core.Bool.{Bool}
use mathlib.Core.List.{List}
use Prim.Native.Nat.{ℕ}
use lib.ListN.{length}
use Rattle.theory_answers.specs.Says.{Says, Outcome}
use Rattle.theory_lists.specs.Part.{part, Has}
use Rattle.theory_answers.proofs.Says.{pinned_says, pinned_outcome}
use Rattle.vstd_slices.specs.Slices as vstd
use Rattle.vstd_slices.specs.Promises as promise
use Rattle.vstd_slices.proofs.Sequences.{updated_pinned, reversed_pinned}
use Rattle.vstd_slices.proofs.Written.{replaced_pinned, copied_pinned}

-- ---- the three shapes: a value, a test, places

value_pinned : {ok ok' : Bool} {P : Type 0} {A : Type 0} {x x' v z : A} → Outcome ok P (x ≡ v) (x ≡ z) → Outcome ok' P (x' ≡ v) (x' ≡ z) → (ok ≡ ok') × (x ≡ x')
value_pinned o o' = pinned_outcome o o' (λ e e'. e ∙ sym e') (λ e e'. e ∙ sym e')

test_pinned : {ok ok' b b' z : Bool} {P : Type 0} (Q : Type 0) → Outcome ok P (Says b Q) (b ≡ z) → Outcome ok' P (Says b' Q) (b' ≡ z) → (ok ≡ ok') × (b ≡ b')
test_pinned {b = b} {b' = b'} Q o o' = pinned_outcome o o' (λ a a'. pinned_says b b' Q a a') (λ e e'. e ∙ sym e')

places_pinned : {x x' y y' : ℕ} {s : List ℕ} {f t i j : ℕ} → promise.Places x y s f t i j → promise.Places x' y' s f t i j → (x ≡ x') × (y ≡ y')
places_pinned p p' = (p.begins ∙ sym p'.begins, p.ends ∙ sym p'.ends)

two_pinned : {x x' y y' v z : ℕ} → (x ≡ v) × (y ≡ z) → (x' ≡ v) × (y' ≡ z) → (x ≡ x') × (y ≡ y')
two_pinned e e' = (e.0 ∙ sym e'.0, e.1 ∙ sym e'.1)

three_pinned : {x x' y y' z z' u v w : ℕ} → (x ≡ u) × (y ≡ v) × (z ≡ w) → (x' ≡ u) × (y' ≡ v) × (z' ≡ w) → (x ≡ x') × (y ≡ y') × (z ≡ z')
three_pinned e e' = (e.0 ∙ sym e'.0, e.1 ∙ sym e'.1, e.2 ∙ sym e'.2)

-- ---- the exports

module _ {ok ok' : Bool} {s : List ℕ} {f t : ℕ} where
  module _ {x x' : ℕ} where
    pub len_pinned : promise.Len ok x s f t → promise.Len ok' x' s f t → (ok ≡ ok') × (x ≡ x')
    len_pinned o o' = value_pinned o o'

    pub get_pinned : {i : ℕ} → promise.Get ok x s f t i → promise.Get ok' x' s f t i → (ok ≡ ok') × (x ≡ x')
    get_pinned o o' = value_pinned o o'

    pub first_pinned : promise.First ok x s f t → promise.First ok' x' s f t → (ok ≡ ok') × (x ≡ x')
    first_pinned o o' = value_pinned o o'

    pub last_pinned : promise.Last ok x s f t → promise.Last ok' x' s f t → (ok ≡ ok') × (x ≡ x')
    last_pinned o o' = value_pinned o o'

    module _ {y y' : ℕ} where
      pub sub_range_pinned : {a e : ℕ} → promise.SubRange ok x y s f t a e → promise.SubRange ok' x' y' s f t a e → (ok ≡ ok') × ((x ≡ x') × (y ≡ y'))
      sub_range_pinned o o' = pinned_outcome o o' places_pinned two_pinned

      pub next_piece_pinned : {n : ℕ} → promise.NextPiece ok x y s f t n → promise.NextPiece ok' x' y' s f t n → (ok ≡ ok') × ((x ≡ x') × (y ≡ y'))
      next_piece_pinned o o' = pinned_outcome o o' places_pinned two_pinned

      pub split_at_pinned : {m m' mid : ℕ} → promise.SplitAt ok x m y s f t mid → promise.SplitAt ok' x' m' y' s f t mid → (ok ≡ ok') × ((x ≡ x') × (m ≡ m') × (y ≡ y'))
      split_at_pinned o o' =
          pinned_outcome o o'
          (λ p p'. (let front = places_pinned p.0 p'.0 in let back = places_pinned p.1 p'.1 in (front.0, front.1, back.1)))
          three_pinned

      pub split_first_pinned : {e e' : ℕ} → promise.SplitFirst ok e x y s f t → promise.SplitFirst ok' e' x' y' s f t → (ok ≡ ok') × ((e ≡ e') × (x ≡ x') × (y ≡ y'))
      split_first_pinned o o' =
          pinned_outcome o o'
          (λ p p'. (let rest = places_pinned p.1 p'.1 in (p.0 ∙ sym p'.0, rest.0, rest.1)))
          three_pinned

  module _ {b b' : Bool} where
    pub is_empty_pinned : promise.IsEmpty ok b s f t → promise.IsEmpty ok' b' s f t → (ok ≡ ok') × (b ≡ b')
    is_empty_pinned o o' = test_pinned (length (part f t s) ≡ 0) o o'

    pub starts_with_pinned : (needle : List ℕ) → promise.StartsWith ok b s f t needle → promise.StartsWith ok' b' s f t needle → (ok ≡ ok') × (b ≡ b')
    starts_with_pinned needle o o' = test_pinned (vstd.StartsWith (part f t s) needle) o o'

    pub ends_with_pinned : (needle : List ℕ) → promise.EndsWith ok b s f t needle → promise.EndsWith ok' b' s f t needle → (ok ≡ ok') × (b ≡ b')
    ends_with_pinned needle o o' = test_pinned (vstd.EndsWith (part f t s) needle) o o'

    pub contains_pinned : (v : ℕ) → promise.Contains ok b s f t v → promise.Contains ok' b' s f t v → (ok ≡ ok') × (b ≡ b')
    contains_pinned v o o' = test_pinned (Has v (part f t s)) o o'

    pub equal_pinned : (other : List ℕ) → promise.Equal ok b s f t other → promise.Equal ok' b' s f t other → (ok ≡ ok') × (b ≡ b')
    equal_pinned other o o' = test_pinned (vstd.SameElements (part f t s) other) o o'

  module _ {r r' : List ℕ} where
    pub set_pinned : {i v : ℕ} → promise.Set ok s r f t i v → promise.Set ok' s r' f t i v → (ok ≡ ok') × (r ≡ r')
    set_pinned o o' = pinned_outcome o o' updated_pinned (λ e e'. e ∙ sym e')

    pub reverse_pinned : promise.Reverse ok s r f t → promise.Reverse ok' s r' f t → (ok ≡ ok') × (r ≡ r')
    reverse_pinned o o' = pinned_outcome o o' turned (λ e e'. e ∙ sym e')
      where
        turned : vstd.Reversed (part f t s) (part f t r) × vstd.PartReplaced s r f t (part f t r) → vstd.Reversed (part f t s) (part f t r') × vstd.PartReplaced s r' f t (part f t r') → r ≡ r'
        turned p p' = replaced_pinned (rw (reversed_pinned p.0 p'.0) at p.1) p'.1

    pub copy_from_pinned : {other : List ℕ} → promise.CopyFrom ok s r f t other → promise.CopyFrom ok' s r' f t other → (ok ≡ ok') × (r ≡ r')
    copy_from_pinned o o' = pinned_outcome o o' replaced_pinned (λ e e'. e ∙ sym e')

    pub copy_within_pinned : {at : ℕ} → promise.CopyWithin ok s r f t at → promise.CopyWithin ok' s r' f t at → (ok ≡ ok') × (r ≡ r')
    copy_within_pinned o o' = pinned_outcome o o' copied_pinned (λ e e'. e ∙ sym e')
