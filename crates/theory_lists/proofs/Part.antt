-- Parts: their ends, by index, and one after another.
use mathlib.Core.Path.{◌≡◌, sym, ap, ◌∙◌}
use mathlib.Core.Bool.{true, false, ◌&&◌}
use mathlib.Core.List.{List, [], ◌∷◌, ◌++◌}
use Prim.Native.Nat.{ℕ, zero, suc, ◌+◌, ◌-◌, ◌≤◌, ◌<◌}
use native.Mathlib.Nat.{sub_self, sub-zero, zero-sub, suc-sub-suc}
use native.Mathlib.Omega.{arith}
use lib.Dec.{leb}
use lib.ListN.{length, get_or, take, drop, length-drop}
use lib.Seq.{length-take-le, get_or-take, get_or-drop, take_all, take-nil, take-take, take-add, drop-drop, drop-cons}
use Rattle.theory_answers.specs.Says.{Says}
use Rattle.theory_answers.proofs.Says.{true_where, false_where, says_alike}
use Rattle.theory_answers.proofs.Tests.{says_at_most, says_both}
use Rattle.theory_lists.specs.Part.{part, Within, is_within, part_or_none}

pub says_within : (f t : ℕ) (s : List ℕ) → Says (is_within f t s) (Within f t s)
unfolding is_within
says_within f t s =
    says_alike (leb f t && leb t (length s)) (λ p. record { ordered = p.0; ends = p.1 }) (λ w. (w.ordered, w.ends))
    (says_both (leb f t) (leb t (length s)) (f ≤ t) (t ≤ length s) (says_at_most f t) (says_at_most t (length s)))

pub is_within_lem : {f t : ℕ} {s : List ℕ} → Within f t s → is_within f t s ≡ true
is_within_lem {f} {t} {s} w = true_where (is_within f t s) (says_within f t s) w

pub not_within : {f t : ℕ} {s : List ℕ} → (Within f t s → ⊥) → is_within f t s ≡ false
not_within {f} {t} {s} n = false_where (is_within f t s) (says_within f t s) n

pub part_or_none_lem : {f t : ℕ} {s : List ℕ} → Within f t s → part_or_none f t s ≡ part f t s
unfolding part_or_none
part_or_none_lem w = rw (is_within_lem w)

pub none_of_part : {f t : ℕ} {s : List ℕ} → (Within f t s → ⊥) → part_or_none f t s ≡ []
unfolding part_or_none
none_of_part n = rw (not_within n)

pub length_part : {f t : ℕ} {s : List ℕ} → Within f t s → length (part f t s) ≡ t - f
length_part {f} {t} {s} w = length-take-le (t - f) (drop f s) (omega (arith, length-drop f s))

pub get_d_part : (f t : ℕ) (s : List ℕ) (k : ℕ) → k < t - f → get_or (part f t s) k 0 ≡ get_or s (f + k) 0
get_d_part f t s k l = get_or-take (t - f) (drop f s) k 0 l ∙ get_or-drop f s k 0

-- from the place in s
pub part_at : (f t : ℕ) (s : List ℕ) (k p : ℕ) → f + k ≡ p → k < t - f → get_or s p 0 ≡ get_or (part f t s) k 0
part_at f t s k p e l = sym (get_d_part f t s k l ∙ ap (λ (n : ℕ). get_or s n 0) e)

pub part_none : (f : ℕ) (s : List ℕ) → part f f s ≡ []
part_none f s = ap (λ (n : ℕ). take n (drop f s)) (sub_self f)

pub part_whole : (s : List ℕ) → part 0 (length s) s ≡ s
part_whole s = take_all (length s - 0) s (omega arith)

-- up to the end
pub part_rest : (f : ℕ) (s : List ℕ) → part f (length s) s ≡ drop f s
part_rest f s = take_all (length s - f) (drop f s) (omega (arith, length-drop f s))

-- the front of what is left, and what is left of the front
pub drop_take : (a n : ℕ) (s : List ℕ) → drop a (take n s) ≡ take (n - a) (drop a s)
drop_take zero n s = ap (λ (k : ℕ). take k s) (sym (sub-zero n))
drop_take (suc a) zero s = sym (take_nil_or_none a s)
  where
    take_nil_or_none : (a : ℕ) (s : List ℕ) → take (0 - suc a) (drop (suc a) s) ≡ []
    take_nil_or_none a s = ap (λ (k : ℕ). take k (drop (suc a) s)) (zero-sub (suc a))
drop_take (suc a) (suc n) [] = sym (take-nil (suc n - suc a))
drop_take (suc a) (suc n) (x ∷ s) = drop_take a n s ∙ ap (λ (k : ℕ). take k (drop a s)) (sym (suc-sub-suc n a))

-- a part of a part
pub part_part : (f t : ℕ) (s : List ℕ) (a e : ℕ) → f + e ≤ t → part a e (part f t s) ≡ part (f + a) (f + e) s
part_part f t s a e l =
    let n : e - a ≡ f + e - (f + a) = omega arith in
    ap (take (e - a)) (drop_take a (t - f) (drop f s) ∙ ap (take (t - f - a)) (drop-drop a f s))
    ∙ take-take (e - a) (t - f - a) (drop (f + a) s) (omega arith)
    ∙ ap (λ (k : ℕ). take k (drop (f + a) s)) n

-- one part after another
pub part_append : (f m t : ℕ) (s : List ℕ) → f ≤ m → m ≤ t → part f m s ++ part m t s ≡ part f t s
part_append f m t s h l =
    let n : m - f + (t - m) ≡ t - f = omega arith in
    let d : f + (m - f) ≡ m = omega arith in
    ap (λ (k : ℕ). part f m s ++ take (t - m) (drop k s)) (sym d)
    ∙ ap (λ (r : List ℕ). part f m s ++ take (t - m) r) (sym (drop-drop (m - f) f s))
    ∙ sym (take-add (m - f) (t - m) (drop f s))
    ∙ ap (λ (k : ℕ). take k (drop f s)) n

-- the first element, and the rest
pub part_cons : (f t : ℕ) (s : List ℕ) → f < t → t ≤ length s → part f t s ≡ get_or s f 0 ∷ part (f + 1) t s
part_cons f t s h l =
    let n : t - f ≡ suc (t - (f + 1)) = omega arith in
    let d : suc f ≡ f + 1 = omega arith in
    ap (λ (k : ℕ). take k (drop f s)) n
    ∙ ap (take (suc (t - (f + 1)))) (drop-cons s f 0 (omega arith))
    ∙ ap (λ (k : ℕ). get_or s f 0 ∷ take (t - (f + 1)) (drop k s)) d

-- the front of a part, and what is left of it
pub take_part : (n f t : ℕ) (s : List ℕ) → f + n ≤ t → take n (part f t s) ≡ part f (f + n) s
take_part n f t s h =
    let e : n ≡ f + n - f = omega arith in
    take-take n (t - f) (drop f s) (omega arith) ∙ ap (λ (k : ℕ). take k (drop f s)) e

pub drop_part : (n f t : ℕ) (s : List ℕ) → drop n (part f t s) ≡ part (f + n) t s
drop_part n f t s =
    let e : t - f - n ≡ t - (f + n) = omega arith in
    drop_take n (t - f) (drop f s) ∙ ap (take (t - f - n)) (drop-drop n f s) ∙ ap (λ (k : ℕ). take k (drop (f + n) s)) e
