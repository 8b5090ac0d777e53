-- Signed kinds, whose numbers reach from half the size below 0 up to the one before half the size: what signed functions cite, over any width.
use mathlib.Core.Path.{◌≡◌, refl, sym, ap, ◌∙◌}
use mathlib.Core.Bool.{Bool, true, false, not, ◌&&◌, beq}
use Prim.Native.Nat.{ℕ, zero, suc, ◌+◌, ◌/◌, ◌^◌, ◌≤◌, ◌<◌}
use native.Mathlib.Nat.{zero-mul, div-le_self}
use native.Mathlib.Omega.{arith}
use lib.Pow.{pow_pos}
use lib.IntN.{ℤ, pos, negsuc, neg_ℤ, nat_abs, ◌+ℤ◌, ◌-ℤ◌, ◌*ℤ◌}
use lib.Dec.{ltb}
use lib.Signed.{le_z, lt_z, quot_z, rem_z}
use Rattle.std.specs.Prelude.{Some, None}
use Rattle.theory_whole.specs.Kind.{Kind, unsigned, signed, least}
use Rattle.theory_whole.specs.Division.{ediv, emod}
use Rattle.theory_whole.specs.Order.{eq_z}
use Rattle.theory_whole.specs.Fit.{fits, wrap, refuse, divided}
use Rattle.theory_answers.specs.Says.{Says}
use Rattle.theory_answers.proofs.Says.{pinned_says}
use Rattle.theory_answers.proofs.Tests.{says_less}
use Rattle.theory_answers.proofs.Answer.{some_answer, no_answer}
use Rattle.theory_whole.proofs.Cases.{by_test, never, both_are}
use Rattle.theory_whole.proofs.Halves.{magnitude, up, down, by_halves, same_halves, sum, difference, up_neg, down_neg, lt_yes, lt_no, is_lt, not_lt}
use Rattle.theory_whole.proofs.Alike.{Alike, alike_itself, alike_then, alike_neg, alike_add}
use Rattle.theory_whole.proofs.Fits.{In, real_unsigned, real_signed, in_fits, out_not_fits, fits_in}
use Rattle.theory_whole.proofs.Wrap.{wrap_in, wrap_is, wrap_same, wrap_alike, wrap_op, wrap_again, wrapped_alike}
use Rattle.theory_whole.proofs.Refuse.{accepts, divided_so, divided_not, divided_by_zero}
use Rattle.theory_whole.proofs.Overflow.{Told, Near, told_below, told_above, sum_below, no_overflow, overflow}
use Rattle.theory_whole.proofs.Signs.{negative, neither, both_other, sum_told_by_signs, difference_told_by_signs}
use Rattle.theory_whole.proofs.ByQuotient.{quotient_is_factor, quotient_is_other}
use Rattle.theory_whole.proofs.Divisions.{agree, one_more, one_less}
use Rattle.theory_whole.proofs.Quotients.{two_halves, quotients_in, minus_one_in, least_by_minus_one, quotients_alike, remainder_in}
use Rattle.theory_whole.proofs.Unsigned.{in_unsigned}
use Rattle.theory_whole.proofs.Orders.{equal_yes, is_equal_lem, not_less_is}

-- where the first test is known to fail
one_test : {k : Kind} {z r : ℤ} {t u : Bool} → t ≡ false → Told k z r (not (beq t u)) → Told k z r u
one_test {k} {z} {r} {t} {u} n told = record { wraps = told.wraps; tells = by u ∙ (rw n at told.tells) }
  where
    by : (u : Bool) → u ≡ not (beq false u)
    by true = refl
    by false = refl

zero_product : (a b : ℤ) → a ≡ pos 0 → a *ℤ b ≡ pos 0
zero_product a (pos b) e = rw (e, zero-mul)
zero_product a (negsuc b) e = rw (e, zero-mul)

not_zero_magnitude : (a : ℤ) → eq_z a (pos 0) ≡ false → 0 < nat_abs a
not_zero_magnitude (pos zero) e = never refl e
not_zero_magnitude (pos (suc a)) e = omega arith
not_zero_magnitude (negsuc a) e = omega arith

-- a number at most another is not above it
pub at_least : (x y : ℤ) {t : Bool} → t ≡ le_z x y → (t ≡ true → lt_z y x ≡ false) × (t ≡ false → lt_z y x ≡ true)
at_least x y {t} e =
    let n : t ≡ not (lt_z y x) = e ∙ sym (not_less_is x y) in
    (λ h. if_so (lt_z y x) (sym n ∙ h), λ h. if_not (lt_z y x) (sym n ∙ h))
  where
    if_so : (s : Bool) → not s ≡ true → s ≡ false
    if_so true q = never q refl
    if_so false q = refl

    if_not : (s : Bool) → not s ≡ false → s ≡ true
    if_not true q = refl
    if_not false q = never refl q

module _ (w : ℕ) where
  abbrev U : Kind
  U = unsigned w

  abbrev S : Kind
  S = signed w

  inside : {z : ℤ} → fits S z ≡ true → In S z
  inside {z} f = fits_in (real_signed w) z f

  -- ---- through the bits: x and y are the bits of a and of b, t is the unsigned operation on them, r is t as signed
  bits_alike : {a : ℤ} {x : ℕ} → pos x ≡ wrap U a → Alike (2 ^ w) (pos x) a
  bits_alike p = wrapped_alike (real_signed w) (real_unsigned w) refl p

  module _ {a b : ℤ} {x y : ℕ} (op : ℤ → ℤ → ℤ) (keeps : Alike (2 ^ w) (pos x) a → Alike (2 ^ w) (pos y) b → Alike (2 ^ w) (op (pos x) (pos y)) (op a b)) where
    through : {t : ℕ} {r : ℤ} → Alike (2 ^ w) (pos x) a → Alike (2 ^ w) (pos y) b → pos t ≡ wrap U (op (pos x) (pos y)) → r ≡ wrap S (pos t) → r ≡ wrap S (op a b)
    through {t} {r} p q s u = wrap_op (real_signed w) op keeps r p q (wrap_again (real_signed w) (real_unsigned w) refl (op (pos x) (pos y)) s u)

    pub by_bits : {t : ℕ} {r : ℤ} → pos x ≡ wrap U a → pos y ≡ wrap U b → pos t ≡ wrap U (op (pos x) (pos y)) → r ≡ wrap S (pos t) → r ≡ wrap S (op a b)
    by_bits p q = through (bits_alike p) (bits_alike q)

  module _ {a : ℤ} {x : ℕ} (y : ℕ) (op : ℤ → ℤ → ℤ) (keeps : Alike (2 ^ w) (pos x) a → Alike (2 ^ w) (pos y) (pos y) → Alike (2 ^ w) (op (pos x) (pos y)) (op a (pos y))) where
    pub by_bits_unsigned : {t : ℕ} {r : ℤ} → pos x ≡ wrap U a → pos t ≡ wrap U (op (pos x) (pos y)) → r ≡ wrap S (pos t) → r ≡ wrap S (op a (pos y))
    by_bits_unsigned p = through op keeps (bits_alike p) (alike_itself (pos y))

  -- an unsigned sum with a signed number
  pub sum_with_signed : (a : ℕ) (b : ℤ) {x : ℕ} {r : ℤ} → pos x ≡ wrap U b → r ≡ wrap U (pos a +ℤ pos x) → r ≡ wrap U (pos a +ℤ b)
  sum_with_signed a b {x} {r} q = wrap_op (real_unsigned w) ◌+ℤ◌ (alike_add (pow_pos w)) r (alike_itself (pos a)) (bits_alike q)

  -- ---- sums and differences told by what they wrap to: s and t are the tests that code makes

  near_sum : {k : Kind} → k.size ≡ 2 ^ w → {a : ℤ} → In k a → (b : ℤ) → up b < 2 ^ w → down b < 2 ^ w → Near k a (a +ℤ b)
  near_sum same {a} i b u d =
      let s = sum a b in
      record { first = i.above; last = omega (arith, i.below); from_below = omega arith; from_above = omega arith }

  smaller : (b : ℤ) → In S b → (up b < 2 ^ w) × (down b < 2 ^ w)
  smaller (pos n) i = (omega (arith, i.below, pow_pos w), omega (arith, pow_pos w))
  smaller (negsuc n) i = (omega (arith, pow_pos w), omega (arith, i.above, pow_pos w))

  pub mixed_sum_told : (a r : ℕ) (b : ℤ) {s t u : Bool} → a < 2 ^ w → fits S b ≡ true → pos r ≡ wrap U (pos a +ℤ b)
      → s ≡ lt_z b (pos 0) → t ≡ u → Says u (r < a) → Told U (pos a +ℤ b) (pos r) (not (beq s t))
  mixed_sum_told a r b {s} {t} {u} h f e p q v =
      let m = smaller b (inside f) in
      rw (p, q ∙ pinned_says u (ltb r a) (r < a) v (says_less r a), ← sum_below (pos a) b)
      (told_below (real_unsigned w) (pos a) (pos a +ℤ b) (pos r) e (near_sum refl (in_unsigned w h) b m.0 m.1))

  module _ (a : ℤ) {r : ℤ} (f : fits S a ≡ true) where
    pub unsigned_sum_told : {b : ℕ} {t : Bool} → b < 2 ^ w → r ≡ wrap S (a +ℤ pos b) → t ≡ lt_z r a → Told S (a +ℤ pos b) r t
    unsigned_sum_told {b} h e p =
        let s = sum a (pos b) in
        rw p
        (one_test (not_lt (a +ℤ pos b) a (omega arith))
        (told_below (real_signed w) a (a +ℤ pos b) r e (near_sum refl (inside f) (pos b) h (pow_pos w))))

    pub unsigned_difference_told : {b : ℕ} {t : Bool} → b < 2 ^ w → r ≡ wrap S (a -ℤ pos b) → t ≡ lt_z a r → Told S (a -ℤ pos b) r t
    unsigned_difference_told {b} h e p =
        let i = inside f in
        let s = difference a (pos b) in
        let n = sum a (pos 1) in
        rw p
        (one_test (not_lt a (a -ℤ pos b) (omega arith))
        (told_above (real_signed w) a (a -ℤ pos b) r e
        (record { first = omega (arith, i.above); last = omega (arith, i.below); from_below = omega arith; from_above = omega (arith, pow_pos w) })))

    -- a difference is below 0 where the first number is below the second
    pub difference_told : (b : ℤ) {s t : Bool} → fits S b ≡ true → r ≡ wrap S (a -ℤ b) → s ≡ lt_z a b → t ≡ lt_z r (pos 0) → Told S (a -ℤ b) r (not (beq s t))
    difference_told b g e p q =
        let i = inside f in
        let j = inside g in
        let d = difference a b in
        let below : lt_z (a -ℤ b) (pos 0) ≡ lt_z a b =
        by_test (lt_z a b)
        (λ x. let l = lt_yes a b x in rw x (is_lt (a -ℤ b) (pos 0) (omega arith)))
        (λ x. let l = lt_no a b x in rw x (not_lt (a -ℤ b) (pos 0) (omega arith))) in
        rw (p, q, ← below)
        (told_below (real_signed w) (pos 0) (a -ℤ b) r e
        (record { first = omega arith; last = omega (arith, pow_pos w); from_below = omega (arith, i.above, j.below); from_above = omega (arith, i.below, j.above) }))

    pub sum_told : (b : ℤ) {s t u : Bool} → 0 < w → fits S b ≡ true → r ≡ wrap S (a +ℤ b) → s ≡ negative a → t ≡ negative b → u ≡ negative r
        → Told S (a +ℤ b) r (neither s t u)
    sum_told b some g e p q v = rw (p, q, v) (sum_told_by_signs (real_signed w) (sym (two_halves w some)) a r (inside f) b (inside g) e)

    pub difference_told_by : (b : ℤ) {s t u : Bool} → 0 < w → fits S b ≡ true → r ≡ wrap S (a -ℤ b) → s ≡ negative a → t ≡ negative b → u ≡ negative r
        → Told S (a -ℤ b) r (both_other s t u)
    difference_told_by b some g e p q v = rw (p, q, v) (difference_told_by_signs (real_signed w) (sym (two_halves w some)) a r (inside f) b (inside g) e)

  pub fits_as_told : {z r : ℤ} {d : Bool} → Told S z r d → d ≡ false → Some r ≡ refuse S z
  fits_as_told told n = some_answer _ _ (no_overflow (real_signed w) told n)

  pub refused_as_told : {z r : ℤ} {d : Bool} → Told S z r d → d ≡ true → None ≡ refuse S z
  refused_as_told told y = no_answer (pos 0) _ (overflow (real_signed w) told y)

  pub unsigned_fits_as_told : {z r : ℤ} {d : Bool} → Told U z r d → d ≡ false → Some r ≡ refuse U z
  unsigned_fits_as_told told n = some_answer _ _ (no_overflow (real_unsigned w) told n)

  pub unsigned_refused_as_told : {z r : ℤ} {d : Bool} → Told U z r d → d ≡ true → None ≡ refuse U z
  unsigned_refused_as_told told y = no_answer (pos 0) _ (overflow (real_unsigned w) told y)

  -- ---- sign and magnitude: x are the bits of a, zero is 0
  module _ {zero x m : ℕ} (z : zero ≡ 0) (d : pos m ≡ wrap U (pos zero -ℤ pos x)) where
    opposite : {a : ℤ} → Alike (2 ^ w) (pos x) a → pos m ≡ wrap U (neg_ℤ a)
    opposite {a} b =
        let s = difference (pos zero) (pos x) in
        let e : pos zero -ℤ pos x ≡ neg_ℤ (pos x) = by_halves (pos zero -ℤ pos x) (neg_ℤ (pos x)) (omega (arith, up_neg (pos x), down_neg (pos x))) in
        wrap_is (real_unsigned w) (neg_ℤ a) (pos m) (rw d (wrap_in (real_unsigned w) (pos zero -ℤ pos x)))
        (alike_then (pow_pos w) (rw (d, e) (wrap_alike (real_unsigned w) (neg_ℤ (pos x)))) (alike_neg b))

    pub negative_magnitude : (a : ℤ) → fits S a ≡ true → lt_z a (pos 0) ≡ true → pos x ≡ wrap U a → m ≡ nat_abs a
    negative_magnitude a f n p =
        let i = inside f in
        let l = lt_yes a (pos 0) n in
        let u = up_neg a in
        let v = down_neg a in
        let j : In U (neg_ℤ a) = record { above = omega (arith, only a l); below = omega (arith, i.above, only a l, pow_pos w) } in
        let e = same_halves (opposite (bits_alike p) ∙ sym (wrap_same (real_unsigned w) (neg_ℤ a) j)) in
        omega (arith, magnitude a, only a l)
      where
        only : (a : ℤ) → up a + 0 < 0 + down a → up a ≡ 0
        only (pos n) l = let none : ⊥ = omega arith in absurd none
        only (negsuc n) l = refl

    -- what a negated magnitude wraps to is above 0 where it does not fit
    pub negated_told : {r : ℤ} → 0 < w → x < 2 ^ w → r ≡ wrap S (pos m) → Told S (neg_ℤ (pos x)) r (lt_z (pos 0) r)
    negated_told {r} some h q =
        let u = up_neg (pos x) in
        let v = down_neg (pos x) in
        one_test (not_lt (pos 0) (neg_ℤ (pos x)) (omega arith))
        (told_above (real_signed w) (pos 0) (neg_ℤ (pos x)) r (wrap_again (real_signed w) (real_unsigned w) refl (neg_ℤ (pos x)) (opposite (alike_itself (pos x))) q)
        (record { first = omega arith; last = omega (arith, two_halves w some, pow_pos w); from_below = omega arith; from_above = omega arith }))

  pub natural_magnitude : (x : ℕ) (a : ℤ) → fits S a ≡ true → lt_z a (pos 0) ≡ false → pos x ≡ wrap U a → x ≡ nat_abs a
  natural_magnitude x a f n p =
      let i = inside f in
      let l = lt_no a (pos 0) n in
      let e = same_halves (p ∙ sym (wrap_same (real_unsigned w) a (record { above = omega arith; below = omega (arith, i.below) }))) in
      omega (arith, magnitude a, only a l)
    where
      only : (a : ℤ) → 0 + down a ≤ up a + 0 → down a ≡ 0
      only (pos n) l = refl
      only (negsuc n) l = let none : ⊥ = omega arith in absurd none

  pub natural_told : (m : ℕ) {r : ℤ} → m < 2 ^ w → r ≡ wrap S (pos m) → Told S (pos m) r (lt_z r (pos 0))
  natural_told m {r} h e =
      one_test (not_lt (pos m) (pos 0) (omega arith))
      (told_below (real_signed w) (pos 0) (pos m) r e (record { first = omega arith; last = omega (arith, pow_pos w); from_below = omega arith; from_above = omega arith }))

  -- ---- a shift to the right is no farther from 0, or it is -1
  pub wraps_shifted : (a : ℤ) (m : ℕ) → fits S a ≡ true → ediv a (pos m) ≡ wrap S (ediv a (pos m))
  unfolding ediv
  wraps_shifted a m f = wrap_same (real_signed w) (ediv a (pos m)) (to a (inside f))
    where
      to : (a : ℤ) → In S a → In S (ediv a (pos m))
      to (pos n) i = let l = div-le_self n m in record { above = omega arith; below = omega (arith, i.below) }
      to (negsuc n) i = let l = div-le_self n m in record { above = omega (arith, i.above); below = omega (arith, pow_pos w) }

  -- ---- whether a quotient has a value
  abbrev pub Valued : ℤ → ℤ → Bool
  Valued a b = not (eq_z b (pos 0)) && fits S (quot_z a b)

  pub valued_by_zero : (a b : ℤ) → true ≡ eq_z b (pos 0) → false ≡ Valued a b
  valued_by_zero a b e = rw (← e) refl

  module _ (a b : ℤ) (some : 0 < w) (f : fits S a ≡ true) where
    pub valued_by_other : fits S b ≡ true → false ≡ eq_z b (pos 0) → false ≡ eq_z b (negsuc 0) → true ≡ Valued a b
    valued_by_other g n m =
        let i = (quotients_in w some (inside f) (inside g) (λ e. never (is_equal_lem b (negsuc 0) e) (sym m))).0 in
        rw (← n, in_fits (real_signed w) (quot_z a b) i) refl

    pub valued_by_minus_one : {t : Bool} → true ≡ eq_z b (negsuc 0) → t ≡ not (eq_z a (least S)) → t ≡ Valued a b
    valued_by_minus_one {t} e s =
        rw (equal_yes b (negsuc 0) (sym e))
        (by_test (eq_z a (least S))
        (λ x. let d : down a ≡ 2 ^ w / 2 = is_least (equal_yes a (least S) x) in
        s ∙ rw (x, out_not_fits (real_signed w) (quot_z a (negsuc 0)) (least_by_minus_one w some a d)) refl)
        (λ x. s ∙ rw (x, in_fits (real_signed w) (quot_z a (negsuc 0)) (minus_one_in w some (inside f) (λ d. never (is_equal_lem a (least S) (least_is d)) x))) refl))
      where
        is_least : a ≡ least S → down a ≡ 2 ^ w / 2
        is_least e = ap down e ∙ down_neg (pos (2 ^ w / 2))

        least_is : down a ≡ 2 ^ w / 2 → a ≡ least S
        least_is d = let u = up_neg (pos (2 ^ w / 2)) in let v = down_neg (pos (2 ^ w / 2)) in by_halves a (least S) (only a d)
          where
            only : (a : ℤ) → down a ≡ 2 ^ w / 2 → up a + down (least S) ≡ up (least S) + down a
            only (pos n) d = let none : ⊥ = omega (arith, two_halves w some, pow_pos w) in absurd none
            only (negsuc n) d = omega (arith, up_neg (pos (2 ^ w / 2)), down_neg (pos (2 ^ w / 2)))

  -- ---- divisions: t is whether the quotient has a value
  pub record Divisible (a b : ℤ) : Type 0 where
    pub not_zero : eq_z b (pos 0) ≡ false
    pub quotient : fits S (quot_z a b) ≡ true

  module _ (a b : ℤ) {t : Bool} (e : t ≡ Valued a b) where
    pub divisible : t ≡ true → Divisible a b
    divisible y =
        let p = both_are (not (eq_z b (pos 0))) (fits S (quot_z a b)) (sym e ∙ y) in
        record { not_zero = negated (eq_z b (pos 0)) p.0; quotient = p.1 }
      where
        negated : (s : Bool) → not s ≡ true → s ≡ false
        negated true q = never q refl
        negated false q = refl

    module _ (n : t ≡ false) (q v : ℤ) (alike : fits S q ≡ fits S (quot_z a b)) where
      refused_with : None ≡ divided S b q v
      refused_with =
          sym (by_test (eq_z b (pos 0))
          (λ z. divided_by_zero S b q v z)
          (λ z. divided_not S b q v (alike ∙ not_and (eq_z b (pos 0)) z (sym e ∙ n))))
        where
          not_and : (s : Bool) → s ≡ false → not s && fits S (quot_z a b) ≡ false → fits S (quot_z a b) ≡ false
          not_and s z q = rw z at q

    pub truncated_refused : t ≡ false → (v : ℤ) → None ≡ divided S b (quot_z a b) v
    truncated_refused n v = refused_with n (quot_z a b) v refl

    pub euclidean_refused : 0 < w → fits S a ≡ true → fits S b ≡ true → t ≡ false → (v : ℤ) → None ≡ divided S b (ediv a b) v
    euclidean_refused some f g n v = refused_with n (ediv a b) v (quotients_alike w some a b (inside f) (inside g))

  module _ {a b : ℤ} (d : Divisible a b) where
    some_divisor : 0 < nat_abs b
    some_divisor = not_zero_magnitude b d.not_zero

    answers : (q v : ℤ) {r : ℤ} → fits S q ≡ true → r ≡ v → Some r ≡ divided S b q v
    answers q v i e = ap Some e ∙ sym (divided_so S b q v d.not_zero i)

    pub truncated_answers : (v : ℤ) {r : ℤ} → r ≡ v → Some r ≡ divided S b (quot_z a b) v
    truncated_answers v = answers (quot_z a b) v d.quotient

    -- the Euclidean pair, from q and m, the language's own quotient and remainder
    module _ (some : 0 < w) (f : fits S a ≡ true) (g : fits S b ≡ true) {q m : ℤ} (p : q ≡ quot_z a b) (o : m ≡ rem_z a b) where
      euclidean_fits : fits S (ediv a b) ≡ true
      euclidean_fits = quotients_alike w some a b (inside f) (inside g) ∙ d.quotient

      euclidean_remainder_fits : fits S (emod a b) ≡ true
      euclidean_remainder_fits = in_fits (real_signed w) (emod a b) (remainder_in w some a some_divisor (inside g))

      module _ {t : Bool} (e : t ≡ le_z (pos 0) m) where
        not_negative : t ≡ true → lt_z (rem_z a b) (pos 0) ≡ false
        not_negative y = rw o at ((at_least (pos 0) m e).0 y)

        is_negative : t ≡ false → lt_z (rem_z a b) (pos 0) ≡ true
        is_negative n = rw o at ((at_least (pos 0) m e).1 n)

        pub quotient_same : t ≡ true → Some q ≡ divided S b (ediv a b) (ediv a b)
        quotient_same y = answers (ediv a b) (ediv a b) euclidean_fits (p ∙ (agree a b some_divisor (not_negative y)).0)

        pub remainder_same : t ≡ true → Some m ≡ divided S b (ediv a b) (emod a b)
        remainder_same y = answers (ediv a b) (emod a b) euclidean_fits (o ∙ (agree a b some_divisor (not_negative y)).1)

        -- mended: by a negative divisor, and by a positive one
        module _ (n : t ≡ false) where
          more : lt_z b (pos 0) ≡ true → (q +ℤ pos 1 ≡ ediv a b) × (m -ℤ b ≡ emod a b)
          more s = let h = one_more a b some_divisor (is_negative n) s in (ap (λ (x : ℤ). x +ℤ pos 1) p ∙ h.0, ap (λ (x : ℤ). x -ℤ b) o ∙ h.1)

          less : lt_z b (pos 0) ≡ false → (q -ℤ pos 1 ≡ ediv a b) × (m +ℤ b ≡ emod a b)
          less s = let h = one_less a b some_divisor (is_negative n) s in (ap (λ (x : ℤ). x -ℤ pos 1) p ∙ h.0, ap (λ (x : ℤ). x +ℤ b) o ∙ h.1)

          pub one_more_fits : lt_z b (pos 0) ≡ true → fits S (q +ℤ pos 1) ≡ true
          one_more_fits s = rw (more s).0 euclidean_fits

          pub one_less_fits : lt_z b (pos 0) ≡ false → fits S (q -ℤ pos 1) ≡ true
          one_less_fits s = rw (less s).0 euclidean_fits

          pub without_divisor_fits : lt_z b (pos 0) ≡ true → fits S (m -ℤ b) ≡ true
          without_divisor_fits s = rw (more s).1 euclidean_remainder_fits

          pub with_divisor_fits : lt_z b (pos 0) ≡ false → fits S (m +ℤ b) ≡ true
          with_divisor_fits s = rw (less s).1 euclidean_remainder_fits

          pub one_more_answers : {r : ℤ} → lt_z b (pos 0) ≡ true → r ≡ q +ℤ pos 1 → Some r ≡ divided S b (ediv a b) (ediv a b)
          one_more_answers s e = answers (ediv a b) (ediv a b) euclidean_fits (e ∙ (more s).0)

          pub one_less_answers : {r : ℤ} → lt_z b (pos 0) ≡ false → r ≡ q -ℤ pos 1 → Some r ≡ divided S b (ediv a b) (ediv a b)
          one_less_answers s e = answers (ediv a b) (ediv a b) euclidean_fits (e ∙ (less s).0)

          pub without_divisor_answers : {r : ℤ} → lt_z b (pos 0) ≡ true → r ≡ m -ℤ b → Some r ≡ divided S b (ediv a b) (emod a b)
          without_divisor_answers s e = answers (ediv a b) (emod a b) euclidean_fits (e ∙ (more s).1)

          pub with_divisor_answers : {r : ℤ} → lt_z b (pos 0) ≡ false → r ≡ m +ℤ b → Some r ≡ divided S b (ediv a b) (emod a b)
          with_divisor_answers s e = answers (ediv a b) (emod a b) euclidean_fits (e ∙ (less s).1)

  -- ---- products, told by dividing again what they wrap to
  pub product_by_zero : (a b : ℤ) {r : ℤ} → true ≡ eq_z a (pos 0) → r ≡ pos 0 → Some r ≡ refuse S (a *ℤ b)
  product_by_zero a b {r} e z =
      let n = zero_product a b (equal_yes a (pos 0) (sym e)) in
      some_answer _ _ (accepts (real_signed w) (a *ℤ b) r (rw n (record { above = omega arith; below = omega (arith, pow_pos w) })) (z ∙ sym n))

  module _ (a b : ℤ) {p : ℤ} (f : fits S a ≡ true) (g : fits S b ≡ true) (e : p ≡ wrap S (a *ℤ b)) (n : false ≡ eq_z a (pos 0)) where
    -- d is the quotient as code has it, and t whether it has a value
    pub product_divides : (d : ℤ) → d ≡ quot_z p a → true ≡ eq_z d b → Some p ≡ refuse S (a *ℤ b)
    product_divides d q y = some_answer _ _ (quotient_is_factor w a b p (inside f) (not_zero_magnitude a (sym n)) e (sym q ∙ equal_yes d b (sym y)))

    is_no_product : (quot_z p a ≡ b → ⊥) → None ≡ refuse S (a *ℤ b)
    is_no_product o = no_answer (pos 0) _ (quotient_is_other w a b p (inside f) (not_zero_magnitude a (sym n)) e o)

    pub product_divides_not : (d : ℤ) → d ≡ quot_z p a → false ≡ eq_z d b → None ≡ refuse S (a *ℤ b)
    product_divides_not d q y = is_no_product (λ o. never (is_equal_lem d b (q ∙ o)) (sym y))

    -- b fits, so a quotient that is b has a value
    pub product_has_no_quotient : {t : Bool} → t ≡ Valued p a → t ≡ false → None ≡ refuse S (a *ℤ b)
    product_has_no_quotient v y = is_no_product (λ o. never (v ∙ rw (← n, o, g) refl) y)
