-- Writing figures from the last to the first.
use mathlib.Core.Path.{◌≡◌, sym, ap, subst, ◌∙◌}
use mathlib.Core.List.{List, [], ◌∷◌, map}
use Prim.Native.Nat.{ℕ, suc, ◌+◌, ◌-◌, ◌*◌, ◌/◌, ◌%◌, ◌^◌, ◌≤◌, ◌<◌}
use native.Mathlib.Nat.{pow-zero, pow-suc, div-one, div-div-eq-div-mul, div-lt_iff_lt-mul, add-mul-div_left, mod-eq_of_lt, one-le-pow}
use native.Mathlib.Omega.{arith}
use lib.ListN.{length, set}
use Rattle.theory_lists.specs.Written.{written}
use Rattle.theory_lists.proofs.Written.{length_written, written_none, written_one, written_twice_down}
use Rattle.theory_digits.proofs.Digits.{lowest_of}
use Rattle.theory_digits.proofs.High.{digits_high_push_highest}
use Rattle.theory_decimal.specs.Written.{figure, figures}
use Rattle.theory_decimal.proofs.Figures.{length_figures}

-- d is s with the lowest figures of n from `place` up to `last`, and `left` is what n is without them
pub record Put (s : List ℕ) (last n : ℕ) (d : List ℕ) (place left : ℕ) : Type 0 where
  pub done : ℕ
  pub stands : place + done ≡ last
  pub quotient : left ≡ n / 10 ^ done
  pub text : d ≡ written s place (figures done n)

pub put_none : (s : List ℕ) (last n : ℕ) → Put s last n s last n
unfolding Rattle.theory_digits.specs.Digits.digits
put_none s last n = record { done = 0; stands = omega arith; quotient = sym (rw pow-zero (div-one n)); text = sym (written_none s last) }

-- one store before what stands
store_before : (s : List ℕ) (place x : ℕ) (new : List ℕ) → place + 1 + length new ≤ length s → set (written s (place + 1) new) place x ≡ written s place (x ∷ new)
store_before s place x new fits =
    let l = length_written s (place + 1) new fits in
    written_one (written s (place + 1) new) place x (omega arith) ∙ written_twice_down s place (x ∷ []) new fits

module _ (s : List ℕ) (last n : ℕ) (room : last ≤ length s) (d : List ℕ) (place left : ℕ) (so : Put s last n d (place + 1) left) where
  pub put_one : Put s last n (set d place (figure (left % 10))) place (left / 10)
  put_one =
      let k = so.done in
      let l = length_figures k n in
      record {
        done = suc k;
        stands = omega (arith, so.stands);
        quotient = ap (λ (m : ℕ). m / 10) so.quotient ∙ div-div-eq-div-mul n (10 ^ k) 10 ∙ ap (λ (p : ℕ). n / p) (sym (pow-suc 10 k));
        text =
            ap (λ (r : List ℕ). set r place (figure (left % 10))) so.text
            ∙ store_before s place (figure (left % 10)) (figures k n) (omega (arith, so.stands))
            ∙ ap (λ (m : ℕ). written s place (figure (m % 10) ∷ figures k n)) so.quotient
            ∙ ap (λ (ds : List ℕ). written s place (map figure ds)) (sym (digits_high_push_highest 10 k n));
      }

second_lowest : (m : ℕ) → m / 10 % 10 ≡ m % 100 / 10
second_lowest m =
    let whole : m ≡ m % 100 + 10 * (10 * (m / 100)) = omega arith in
    let small : m % 100 / 10 < 10 = omega arith in
    let tenth : m / 10 ≡ m % 100 / 10 + 10 * (m / 100) = ap (λ (k : ℕ). k / 10) whole ∙ add-mul-div_left (m % 100) (10 * (m / 100)) (omega arith) in
    ap (λ (k : ℕ). k % 10) tenth ∙ lowest_of (m / 100) small

-- two of them, as code writes them: from the two lowest digits at once
pub put_two : (s : List ℕ) (last n : ℕ) → last ≤ length s → (d : List ℕ) (place left : ℕ) → 2 ≤ place → Put s last n d place left
    → Put s last n (set (set d (place - 2 + 1) (figure (left % 100 % 10))) (place - 2) (figure (left % 100 / 10))) (place - 2) (left / 100)
put_two s last n room d place left h so =
    let e : place ≡ place - 2 + 1 + 1 = omega arith in
    let low : left % 10 ≡ left % 100 % 10 = omega arith in
    let rest : left / 10 / 10 ≡ left / 100 = omega arith in
    let one = put_one s last n room d (place - 2 + 1) left (subst (λ (k : ℕ). Put s last n d k left) e so) in
    let two = put_one s last n room (set d (place - 2 + 1) (figure (left % 10))) (place - 2) (left / 10) one in
    rw (low, second_lowest left, rest) at two

module _ (s : List ℕ) (at count n : ℕ) (room : at + count ≤ length s) (d : List ℕ) (place left : ℕ) (so : Put s (at + count) n d place left) where
  pub put_all : place ≡ at → d ≡ written s at (figures count n)
  put_all p =
      let e : so.done ≡ count = omega (arith, so.stands) in
      so.text ∙ rw (p, e)

  -- what is left for the first figure is a digit
  module _ (below : n < 10 ^ count) (p : place ≡ at + 1) where
    pub left_is_digit : left < 10
    left_is_digit =
        let e : count ≡ suc so.done = omega (arith, so.stands) in
        let some : 1 ≤ 10 ^ so.done = one-le-pow so.done 10 (omega arith) in
        let g : n < 10 ^ suc so.done = (rw e at below) in
        let q : n < 10 * 10 ^ so.done = omega (arith, g, pow-suc 10 so.done) in
        let l = (div-lt_iff_lt-mul {k = 10 ^ so.done} {x = n} {y = 10} some).1 q in
        omega (arith, l, so.quotient)

    pub put_first : set d at (figure left) ≡ written s at (figures count n)
    put_first =
        let one = put_one s (at + count) n room d at left (subst (λ (k : ℕ). Put s (at + count) n d k left) p so) in
        let e : one.done ≡ count = omega (arith, one.stands) in
        ap (λ (m : ℕ). set d at (figure m)) (sym (mod-eq_of_lt left_is_digit)) ∙ one.text ∙ rw e
