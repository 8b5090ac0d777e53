-- The table's rule, by one computed test of 256 bytes in nine states; and runs of bytes.
use mathlib.Core.Path.{◌≡◌, refl, sym, ap, ◌∙◌, subst}
use mathlib.Core.Bool.{cond, Bool, true, ◌&&◌}
use mathlib.Core.List.{List, [], ◌∷◌, ◌++◌}
use Prim.Native.Nat.{ℕ, ◌+◌, ◌-◌, ◌*◌, ◌/◌, ◌%◌, ◌^◌, ◌<◌, ◌≤◌}
use native.Mathlib.Omega.{arith}
use native.Mathlib.Nat.{zero-add, add-sub_cancel_left}
use lib.Dec.{eqb, ltb}
use lib.ListN.{length, get_or, take, drop}
use lib.Seq.{take-add, drop-drop, drop-cons}
use borrow.Author.Tests.{eqb-true, ltb-true}
use Rattle.theory_whole.proofs.Cases.{by_test, both_are}
use Rattle.theory_lists.specs.Bounds.{between}
use Rattle.theory_lists.specs.Part.{part}
use Rattle.theory_text.specs.Table.{After, more, wrong, after}
use Rattle.theory_text.specs.Reading.{ReadFrom}
use Rattle.theory_text.proofs.Pieces.{read_from}
use Rattle.theory_text.specs.Automaton.{step, steps}
use Rattle.theory_text.specs.Ascii.{Ascii}
use Rattle.theory_text.proofs.Ascii.{ascii_valid}
use Rattle.theory_text.proofs.Automaton.{steps_append, valid_steps, steps_valid}
use Rattle.text_quick.specs.Shift.{states, state, Good, Moves, table}
use Rattle.text_quick.proofs.Same.{same, are_same, every, each}

-- the six bits of entry x for state q
abbrev bits : ℕ → ℕ → ℕ
bits x q = x / 2 ^ (6 * q) % 64

right : ℕ → ℕ → Bool
right b q = let y = bits (get_or table b 0) q in eqb y (6 * (y / 6)) && (ltb (y / 6) 9 && same (get_or states (y / 6) wrong) (step (get_or states q wrong) b))

row_right : ℕ → Bool
row_right b = every (right b) 0 9

all_right : every row_right 0 256 ≡ true
unfolding right row_right table after between
all_right = refl

module _ (b q : ℕ) (hb : b < 256) (hq : q < 9) where
  abbrev entry : ℕ
  entry = bits (get_or table b 0) q

  rule : (entry ≡ 6 * (entry / 6)) × ((entry / 6 < 9) × (get_or states (entry / 6) wrong ≡ step (get_or states q wrong) b))
  unfolding right row_right
  rule =
      let t : right b q ≡ true = each (right b) 0 9 (each row_right 0 256 all_right b (omega arith) (omega arith)) q (omega arith) (omega arith) in
      let p = both_are (eqb entry (6 * (entry / 6))) (ltb (entry / 6) 9 && same (get_or states (entry / 6) wrong) (step (get_or states q wrong) b)) t in
      let r = both_are (ltb (entry / 6) 9) (same (get_or states (entry / 6) wrong) (step (get_or states q wrong) b)) p.1 in
      (eqb-true entry (6 * (entry / 6)) p.0, (ltb-true (entry / 6) 9 r.0, are_same (get_or states (entry / 6) wrong) (step (get_or states q wrong) b) r.1))

pub next_at : (l : List ℕ) (b x : ℕ) → l ≡ table → b < 256 → Good x → Good (get_or l b 0 / 2 ^ (x % 64)) × (state (get_or l b 0 / 2 ^ (x % 64)) ≡ step (state x) b)
unfolding state
next_at l b x e hb g =
    let q = x % 64 / 6 in
    let y : get_or l b 0 / 2 ^ (x % 64) ≡ get_or table b 0 / 2 ^ (6 * (x % 64 / 6)) = rw (← g.sixfold, e) in
    let r = rule b q hb g.known in
    rw y (record { sixfold = r.0; known = r.1.0 }, r.1.1)

-- ---- runs of bytes
pub good_zero : Good 0
good_zero = record { sixfold = refl; known = omega arith }

module _ (s : List ℕ) (i : ℕ) where
  pub moves_none : (x : ℕ) → Good x → Moves s i 0 x x
  moves_none x g = record { good = g; moved = refl }

  one_byte : i < length s → take 1 (drop i s) ≡ get_or s i 0 ∷ []
  one_byte h = ap (take 1) (drop-cons s i 0 h)

  pub moves_join : (n m x y z : ℕ) → Moves s i n x y → Moves s (i + n) m y z → Moves s i (n + m) x z
  moves_join n m x y z f g =
      record {
        good = g.good;
        moved = g.moved ∙ ap (λ (a : After). steps a (take m (drop (i + n) s))) f.moved
            ∙ sym (steps_append (state x) (take n (drop i s)) (take m (drop (i + n) s)))
            ∙ ap (steps (state x)) (ap (λ (l : List ℕ). take n (drop i s) ++ take m l) (sym (drop-drop n i s)) ∙ sym (take-add n m (drop i s)));
      }

  pub moves_one : (x y : ℕ) → i < length s → Good y → state y ≡ step (state x) (get_or s i 0) → Moves s i 1 x y
  moves_one x y h g e = record { good = g; moved = e ∙ ap (steps (state x)) (sym (one_byte h)) }

  -- ASCII between two scalars
  pub moves_ascii : (n x : ℕ) → x % 64 ≡ 0 → Ascii (part i (i + n) s) → i + n ≤ length s → Moves s i n x 0
  unfolding state
  moves_ascii n x z a h =
      let f : state x ≡ more [] = ap (λ (k : ℕ). get_or states (k / 6) wrong) z in
      let v : Ascii (take n (drop i s)) = subst (λ (k : ℕ). Ascii (take k (drop i s))) (add-sub_cancel_left i n) a in
      record { good = good_zero; moved = sym (ap (λ (q : After). steps q (take n (drop i s))) f ∙ valid_steps (take n (drop i s)) (ascii_valid (take n (drop i s)) v)) }

pub zero_idle : (x : ℕ) → x % 64 ≡ 0 → state x ≡ more []
unfolding state
zero_idle x z = ap (λ (k : ℕ). get_or states (k / 6) wrong) z

-- ---- a place between two scalars
pub moves_read : (s : List ℕ) (i x : ℕ) → i ≤ length s → Moves s 0 i 0 x → x % 64 ≡ 0 → ReadFrom s i
moves_read s i x h m z = read_from s i (steps_valid (take i s) (sym (rw (zero_idle 0 refl) at m.moved) ∙ zero_idle x z)) h

pub later_read : (s : List ℕ) (i x place r : ℕ) → i ≤ length s → Moves s 0 i 0 x → ReadFrom s place → r ≡ cond (eqb (x % 64) 0) i place → ReadFrom s r
later_read s i x place r h m p e = rw e (by_test (eqb (x % 64) 0) (λ t. rw t (moves_read s i x h m (eqb-true (x % 64) 0 t))) (λ t. rw t p))

pub read_none : (s : List ℕ) → ReadFrom s 0
read_none s = record { inside = omega arith; same = refl }

-- by places
pub moves_next : (s : List ℕ) (from i x y z : ℕ) → from ≤ i → i < length s → Moves s from (i - from) x y → Good z → state z ≡ step (state y) (get_or s i 0) → Moves s from (i + 1 - from) x z
moves_next s from i x y z l h m g e =
    let p : from + (i - from) ≡ i = omega arith in
    let q : i - from + 1 ≡ i + 1 - from = omega arith in
    subst (λ (n : ℕ). Moves s from n x z) q (moves_join s from (i - from) 1 x y z m (subst (λ (k : ℕ). Moves s k 1 y z) (sym p) (moves_one s i y z h g e)))

-- four quarters are a block
pub moves_quarters : (s : List ℕ) (i x x1 x2 x3 y : ℕ) → Moves s i 16 x x1 → Moves s (i + 16) 16 x1 x2 → Moves s (i + 32) 16 x2 x3 → Moves s (i + 48) 16 x3 y → Moves s i 64 x y
moves_quarters s i x x1 x2 x3 y a b c d =
    moves_join s i 48 16 x x3 y (moves_join s i 32 16 x x2 x3 (moves_join s i 16 16 x x1 x2 a b) c) d

pub moves_on : (s : List ℕ) (i n x y z : ℕ) → Moves s 0 i x y → Moves s i n y z → Moves s 0 (i + n) x z
moves_on s i n x y z f g = moves_join s 0 i n x y z f (subst (λ (k : ℕ). Moves s k n y z) (sym (zero-add i)) g)

pub moves_whole : (s : List ℕ) (i x y : ℕ) → i ≤ length s → Moves s 0 i 0 x → Moves s i (length s - i) x y → Moves s 0 (length s) 0 y
moves_whole s i x y h f g =
    let e : i + (length s - i) ≡ length s = omega arith in
    subst (λ (n : ℕ). Moves s 0 n 0 y) e (moves_on s i (length s - i) 0 x y f g)
