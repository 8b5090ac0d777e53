-- The other way round: by index, and by ends that change places.
use mathlib.Core.Path.{◌≡◌, refl, sym, ap, ◌∙◌}
use mathlib.Core.List.{List, [], ◌∷◌, ◌++◌, reverse, reverse-cons, reverse-append, append_assoc}
use Prim.Native.Nat.{ℕ, zero, suc, ◌+◌, ◌-◌, ◌≤◌, ◌<◌}
use native.Mathlib.Decide.{dec_lt}
use native.Mathlib.Omega.{arith}
use lib.ListN.{length, get_or, length-append, length-reverse, get_or-append}
use lib.Seq.{get_or_at}
use Rattle.theory_lists.specs.Part.{part, Within}
use Rattle.theory_lists.specs.Written.{written}
use Rattle.theory_lists.proofs.Part.{length_part, part_append}
use Rattle.theory_lists.proofs.Written.{length_written, written_same, written_twice_up, written_twice_down, part_after_written, part_before_written}

pub get_d_reverse : (s : List ℕ) (k : ℕ) → k < length s → get_or (reverse s) k 0 ≡ get_or s (length s - 1 - k) 0
get_d_reverse [] k h = absurd (omega arith)
get_d_reverse (x ∷ xs) k h = rw reverse-cons (go (get_d_reverse xs k) (dec_lt k (length xs)))
  where
    go : (k < length xs → get_or (reverse xs) k 0 ≡ get_or xs (length xs - 1 - k) 0) → Dec (k < length xs) → get_or (reverse xs ++ (x ∷ [])) k 0 ≡ get_or (x ∷ xs) (suc (length xs) - 1 - k) 0
    go before (yes l) =
        let e : suc (length xs - 1 - k) ≡ suc (length xs) - 1 - k = omega arith in
        get_or-append (reverse xs) (x ∷ []) 0 k (omega (arith, length-reverse xs)) ∙ before l ∙ ap (λ (n : ℕ). get_or (x ∷ xs) n 0) e
    go before (no f) =
        let e : zero ≡ suc (length xs) - 1 - k = omega arith in
        get_or_at (reverse xs) x [] 0 k (length-reverse xs ∙ omega arith) ∙ ap (λ (n : ℕ). get_or (x ∷ xs) n 0) e

-- s with the part from f to t the other way round
unfoldable pub reversed : ℕ → ℕ → List ℕ → List ℕ
reversed f t s = written s f (reverse (part f t s))

-- at most one element stays
reverse_few : (x : List ℕ) → length x < 2 → reverse x ≡ x
reverse_few [] h = refl
reverse_few (x ∷ []) h = refl
reverse_few (x ∷ y ∷ xs) h = absurd (omega arith)

pub reversed_few : (f t : ℕ) (s : List ℕ) → Within f t s → t - f < 2 → reversed f t s ≡ s
unfolding reversed
reversed_few f t s w h = ap (written s f) (reverse_few (part f t s) (omega (arith, length_part w))) ∙ written_same w

-- n elements at each end of the part change places, each the other way round
unfoldable pub exchanged : ℕ → ℕ → ℕ → List ℕ → List ℕ
exchanged f t n s = written (written s f (reverse (part (t - n) t s))) (t - n) (reverse (part f (f + n) s))

-- and what lies between is still to be reversed
module _ (f t n : ℕ) (s : List ℕ) (room : f + n + n ≤ t) (ends : t ≤ length s) where
  abbrev front : List ℕ
  front = part f (f + n) s

  abbrev back : List ℕ
  back = part (t - n) t s

  abbrev middle : List ℕ
  middle = part (f + n) (t - n) s

  length_turned : (a e : ℕ) → a ≤ e → e ≤ length s → length (reverse (part a e s)) ≡ e - a
  length_turned a e h l = length-reverse (part a e s) ∙ length_part (record { ordered = h; ends = l })

  length_front : length (reverse front) ≡ n
  length_front = length_turned f (f + n) (omega arith) (omega arith) ∙ omega arith

  length_back : length (reverse back) ≡ n
  length_back = length_turned (t - n) t (omega arith) (omega arith) ∙ omega arith

  length_middle : f + n + length (reverse middle) ≡ t - n
  length_middle = omega (arith, length_turned (f + n) (t - n) (omega arith) (omega arith))

  once : length (written s f (reverse back)) ≡ length s
  once = length_written s f (reverse back) (omega (arith, length_back))

  middle_stays : part (f + n) (t - n) (exchanged f t n s) ≡ middle
  unfolding exchanged
  middle_stays =
      part_before_written (written s f (reverse back)) (t - n) (reverse front) (omega (arith, length_front, once)) (f + n) (t - n) (omega arith) (omega arith)
      ∙ part_after_written s f (reverse back) (omega (arith, length_back)) (f + n) (t - n) (omega (arith, length_back))

  turned_whole : reverse back ++ (reverse middle ++ reverse front) ≡ reverse (part f t s)
  turned_whole =
      sym (append_assoc (reverse back) (reverse middle) (reverse front))
      ∙ ap (λ (r : List ℕ). r ++ reverse front) (sym (reverse-append middle back))
      ∙ sym (reverse-append front (middle ++ back))
      ∙ ap reverse
      (ap (λ (r : List ℕ). front ++ r) (part_append (f + n) (t - n) t s (omega arith) (omega arith)) ∙ part_append f (f + n) t s (omega arith) (omega arith))

  pub reversed_inside : reversed (f + n) (t - n) (exchanged f t n s) ≡ reversed f t s
  unfolding reversed exchanged
  reversed_inside =
      ap (λ (r : List ℕ). written (exchanged f t n s) (f + n) (reverse r)) middle_stays
      ∙ ap (λ (k : ℕ). written (written (written s f (reverse back)) k (reverse front)) (f + n) (reverse middle)) (sym length_middle)
      ∙ written_twice_down (written s f (reverse back)) (f + n) (reverse middle) (reverse front) (omega (arith, once, length_front, length_middle))
      ∙ ap (λ (k : ℕ). written (written s f (reverse back)) k (reverse middle ++ reverse front)) (ap (λ (k : ℕ). f + k) (sym length_back))
      ∙ written_twice_up s f (reverse back) (reverse middle ++ reverse front)
      (omega (arith, length-append (reverse middle) (reverse front), length_front, length_back, length_middle))
      ∙ ap (written s f) turned_whole
