-- What the exports promise of a part keeps vstd's clause of it, item by item.
use mathlib.Core.Path.{◌≡◌, sym, ap, ◌∙◌}
use mathlib.Core.Bool.{Bool, true, false}
use mathlib.Core.List.{List, ◌∷◌}
use Prim.Native.Nat.{ℕ, ◌+◌, ◌-◌, ◌≤◌, ◌<◌, min}
use native.Mathlib.Decide.{dec_lt}
use native.Mathlib.Omega.{arith}
use lib.ListN.{length, take, drop}
use lib.Seq.{take_all}
use Rattle.theory_answers.specs.Says.{Says}
use Rattle.theory_lists.specs.Part.{part, Within, Has}
use Rattle.theory_lists.specs.Pieces.{pieces}
use Rattle.theory_answers.proofs.Says.{false_where, ok_where, refused_where}
use Rattle.theory_lists.proofs.Part.{length_part, part_none, take_part, drop_part}
use Rattle.theory_lists.proofs.Pieces.{pieces_next}
use Rattle.vstd_slices.specs.Slices as vstd
use Rattle.vstd_slices.specs.Promises as promise
use Rattle.vstd_slices.proofs.Chunks.{pieces_chunks}

module _ {f t : ℕ} {s : List ℕ} (w : Within f t s) where
  -- ---- elements

  pub len_kept : {ok : Bool} {n : ℕ} → promise.Len ok n s f t → (ok ≡ true) × (n ≡ length (part f t s))
  len_kept o = ok_where o w

  pub is_empty_kept : {ok b : Bool} → promise.IsEmpty ok b s f t → (ok ≡ true) × Says b (length (part f t s) ≡ 0)
  is_empty_kept o = ok_where o w

  pub get_kept : {ok : Bool} {x i : ℕ} → promise.Get ok x s f t i → vstd.Got ok x (part f t s) i
  get_kept {ok} {x} {i} o = by ok o
    where
      by : (b : Bool) → promise.Get b x s f t i → vstd.Got b x (part f t s) i
      by true o = (o.asked.1, o.given)
      by false o = λ l. o.asked (w, l)

  module _ {ok : Bool} {x y : ℕ} where
    some_unless_empty : ((0 < length (part f t s)) → (ok ≡ true) × (x ≡ y)) → ((0 < length (part f t s) → ⊥) → ok ≡ false) → vstd.SomeUnlessEmpty ok x (part f t s) y
    some_unless_empty some none = record { none = λ e. none (λ l. omega arith); present = λ n. some (omega arith) }

  pub first_kept : {ok : Bool} {x : ℕ} → promise.First ok x s f t → vstd.First ok x (part f t s)
  first_kept o = some_unless_empty (λ l. ok_where o (w, l)) (λ n. (refused_where o (λ p. n p.1)).0)

  pub last_kept : {ok : Bool} {x : ℕ} → promise.Last ok x s f t → vstd.Last ok x (part f t s)
  last_kept o = some_unless_empty (λ l. ok_where o (w, l)) (λ n. (refused_where o (λ p. n p.1)).0)

  -- ---- places

  pub sub_range_kept : {ok : Bool} {x y a e : ℕ} → promise.SubRange ok x y s f t a e → Within a e (part f t s) → (ok ≡ true) × vstd.Subrange (part f t s) a e (part x y s)
  sub_range_kept o v = let g = ok_where o (w, v) in (g.0, g.1.subrange)

  pub split_at_kept : {ok : Bool} {x m y mid : ℕ} → promise.SplitAt ok x m y s f t mid → vstd.SplitAt ok (part x m s) (part m y s) (part f t s) mid
  split_at_kept o =
      record {
        inside = λ l. (let g = ok_where o (w, l) in (g.0, g.1.0.subrange, g.1.1.subrange));
        outside = λ l. (refused_where o (λ p. omega (arith, p.1))).0;
      }

  pub split_first_kept : {ok : Bool} {first x y : ℕ} → promise.SplitFirst ok first x y s f t → vstd.SplitFirst ok first (part x y s) (part f t s)
  split_first_kept o =
      record {
        none = λ e. (refused_where o (λ p. omega (arith, p.1))).0;
        present = λ l. (let g = ok_where o (w, l) in (g.0, g.1.0, g.1.1.subrange));
      }

  -- the piece that is answered is the first of vstd's chunks, and the others are those of what is left
  pub next_piece_kept : {ok : Bool} {x y n : ℕ} → promise.NextPiece ok x y s f t n → 0 < length (part f t s) → 0 < n → (ok ≡ true) × vstd.Chunks (part f t s) n (part x y s ∷ pieces n (part y t s))
  next_piece_kept {ok} {x} {y} {n} o l h =
      let g = ok_where o (w, l, h) in
      let all = length_part w in
      let b : x ≡ f = omega (arith, g.1.begins) in
      (g.0, rw (b, pieces_of all g.1.ends) (pieces_chunks n h (part f t s)))
    where
      -- what is taken and what is left end at y, also where n is more than there is
      front : length (part f t s) ≡ t - f → y ≡ f + min n (length (part f t s)) → Dec (t - f < n) → (take n (part f t s) ≡ part f y s) × (drop n (part f t s) ≡ part y t s)
      front all e (yes m) =
          let u : y ≡ t = omega (arith, all, e, w.ordered) in
          let none : t - (f + n) ≡ 0 = omega arith in
          (rw u (take_all n (part f t s) (omega (arith, all))), rw u (drop_part n f t s ∙ ap (λ (k : ℕ). take k (drop (f + n) s)) none ∙ sym (part_none t s)))
      front all e (no m) =
          let u : y ≡ f + n = omega (arith, all, e) in
          (rw u (take_part n f t s (omega (arith, w.ordered))), rw u (drop_part n f t s))

      pieces_of : length (part f t s) ≡ t - f → y ≡ f + min n (length (part f t s)) → part f y s ∷ pieces n (part y t s) ≡ pieces n (part f t s)
      pieces_of all e = let p = front all e (dec_lt (t - f) n) in sym (rw (← p.0, ← p.1) (pieces_next n h (part f t s) l))

  -- ---- tests

  pub starts_with_kept : {ok b : Bool} (needle : List ℕ) → promise.StartsWith ok b s f t needle → (ok ≡ true) × Says b (vstd.StartsWith (part f t s) needle)
  starts_with_kept needle o = ok_where o w

  pub ends_with_kept : {ok b : Bool} (needle : List ℕ) → promise.EndsWith ok b s f t needle → (ok ≡ true) × Says b (vstd.EndsWith (part f t s) needle)
  ends_with_kept needle o = ok_where o w

  -- what vstd says where the equality of elements may not be lawful: a longer needle is not there
  pub starts_with_longer_kept : {ok : Bool} (b : Bool) (needle : List ℕ) → promise.StartsWith ok b s f t needle → vstd.FalseWhereLonger b (part f t s) needle
  starts_with_longer_kept b needle o = λ l. false_where b (ok_where o w).1 (λ h. omega (arith, h.fits))

  pub ends_with_longer_kept : {ok : Bool} (b : Bool) (needle : List ℕ) → promise.EndsWith ok b s f t needle → vstd.FalseWhereLonger b (part f t s) needle
  ends_with_longer_kept b needle o = λ l. false_where b (ok_where o w).1 (λ h. omega (arith, h.fits))

  pub contains_kept : {ok b : Bool} (v : ℕ) → promise.Contains ok b s f t v → (ok ≡ true) × Says b (Has v (part f t s))
  contains_kept v o = ok_where o w

  pub equal_kept : {ok b : Bool} (other : List ℕ) → promise.Equal ok b s f t other → (ok ≡ true) × Says b (vstd.SameElements (part f t s) other)
  equal_kept other o = ok_where o w

  -- ---- what is written

  module _ {ok : Bool} {s' : List ℕ} where
    pub set_kept : {i v : ℕ} → promise.Set ok s s' f t i v → i < length (part f t s) → (ok ≡ true) × vstd.Updated s (f + i) v s'
    set_kept o l = ok_where o (w, l)

    pub reverse_kept : promise.Reverse ok s s' f t → (ok ≡ true) × (vstd.Reversed (part f t s) (part f t s') × vstd.PartReplaced s s' f t (part f t s'))
    reverse_kept o = ok_where o w

    pub copy_from_kept : {other : List ℕ} → promise.CopyFrom ok s s' f t other → length other ≡ length (part f t s) → (ok ≡ true) × vstd.PartReplaced s s' f t other
    copy_from_kept o e = ok_where o (w, e)

    pub copy_within_kept : {at : ℕ} → promise.CopyWithin ok s s' f t at → at + (t - f) ≤ length s → (ok ≡ true) × vstd.CopiedWithin s f t at s'
    copy_within_kept o l = ok_where o (w, l)
