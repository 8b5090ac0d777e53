-- One scalar: what is read was written, and what is written is read.
use mathlib.Core.Path.{◌≡◌, refl, sym, ap, ◌∙◌}
use mathlib.Core.List.{List, [], ◌∷◌, ◌++◌}
use Prim.Native.Nat.{ℕ, suc, ◌+◌, ◌*◌, ◌-◌, ◌/◌, ◌%◌, ◌<◌, ◌≤◌}
use native.Mathlib.Omega.{arith}
use lib.Arith.{digits_div, digits_mod}
use lib.ListN.{length, drop}
use Rattle.theory_text.specs.Scalar.{Scalar, formed}
use Rattle.theory_text.specs.Table.{Range, ◌to◌, After, more, wrong, after, matches, followed, first}
use Rattle.theory_text.specs.Reading.{decoded}
use Rattle.theory_text.proofs.Tests.{by_cond}
use Rattle.theory_text.proofs.Sizes.{Sized, in_one, in_two, in_three, in_four}
use Rattle.theory_text.proofs.Rows.{any, Row, row_00, row_c2, row_e0, row_e1, row_ed, row_ee, row_f0, row_f1, row_f4, row, row_is}
use Rattle.theory_text.proofs.Matches.{Matched, matched, matches_so, one_matched, two_matched, three_matched}
use Rattle.theory_whole.proofs.Cases.{by_test}
use lib.Dec.{ltb}
use borrow.Author.Tests.{ltb-true, ltb-false}

-- the first n bytes of bs are the form of their value
pub record Reads (n : ℕ) (bs : List ℕ) : Type 0 where
  pub scalar : Scalar (decoded n bs)
  pub size : Sized (decoded n bs) n
  pub whole : formed n (decoded n bs) ++ drop n bs ≡ bs

-- ---- the form of digits is the digits behind their marks
formed_two : (x y : ℕ) → y < 64 → formed 2 (x * 64 + y) ≡ (0xc0 + x) ∷ (0x80 + y) ∷ []
formed_two x y h = simp (digits_div x h, digits_mod x h)

formed_three : (x y z : ℕ) → y < 64 → z < 64 → formed 3 ((x * 64 + y) * 64 + z) ≡ (0xe0 + x) ∷ (0x80 + y) ∷ (0x80 + z) ∷ []
formed_three x y z h k = simp (digits_div (x * 64 + y) k, digits_mod (x * 64 + y) k, digits_div x h, digits_mod x h)

formed_four : (x y z w : ℕ) → y < 64 → z < 64 → w < 64 → formed 4 (((x * 64 + y) * 64 + z) * 64 + w) ≡ (0xf0 + x) ∷ (0x80 + y) ∷ (0x80 + z) ∷ (0x80 + w) ∷ []
formed_four x y z w h k m =
    simp (
      digits_div ((x * 64 + y) * 64 + z) m,
      digits_mod ((x * 64 + y) * 64 + z) m,
      digits_div (x * 64 + y) k,
      digits_mod (x * 64 + y) k,
      digits_div x h,
      digits_mod x h,
    )

-- ---- what is read was written
module _ (b0 b1 b2 b3 : ℕ) (bs : List ℕ) where
  abbrev Follows : ℕ → Type 0
  Follows b = (0x80 ≤ b) × (b ≤ 0xbf)

  pub one_read : b0 < 0x80 → Reads 1 (b0 ∷ bs)
  one_read h = record { scalar = (omega arith, λ s. omega arith); size = in_one h; whole = refl }

  pub two_read : 0xc2 ≤ b0 → b0 < 0xe0 → Follows b1 → Reads 2 (b0 ∷ b1 ∷ bs)
  two_read l h f =
      let x : b0 ≡ 0xc0 + b0 % 32 = omega arith in
      let y : b1 ≡ 0x80 + b1 % 64 = omega arith in
      record {
        scalar = (omega arith, λ s. omega arith);
        size = in_two (omega arith) (omega arith);
        whole = ap (λ (l : List ℕ). l ++ bs) (formed_two (b0 % 32) (b1 % 64) (omega arith)) ∙ sym (λ i. x i ∷ y i ∷ bs);
      }

  pub three_read : 0xe0 ≤ b0 → b0 < 0xf0 → Follows b1 → Follows b2 → 0x20 ≤ (b0 - 0xe0) * 64 + (b1 - 0x80)
      → (0x360 ≤ (b0 - 0xe0) * 64 + (b1 - 0x80) → (b0 - 0xe0) * 64 + (b1 - 0x80) < 0x380 → ⊥) → Reads 3 (b0 ∷ b1 ∷ b2 ∷ bs)
  three_read l h f g m n =
      let x : b0 ≡ 0xe0 + b0 % 16 = omega arith in
      let y : b1 ≡ 0x80 + b1 % 64 = omega arith in
      let z : b2 ≡ 0x80 + b2 % 64 = omega arith in
      record {
        scalar = (omega arith, λ s. n (omega arith) (omega arith));
        size = in_three (omega arith) (omega arith);
        whole = ap (λ (l : List ℕ). l ++ bs) (formed_three (b0 % 16) (b1 % 64) (b2 % 64) (omega arith) (omega arith)) ∙ sym (λ i. x i ∷ y i ∷ z i ∷ bs);
      }

  pub four_read : 0xf0 ≤ b0 → b0 < 0xf8 → Follows b1 → Follows b2 → Follows b3 → 0x10 ≤ (b0 - 0xf0) * 64 + (b1 - 0x80)
      → (b0 - 0xf0) * 64 + (b1 - 0x80) < 0x110 → Reads 4 (b0 ∷ b1 ∷ b2 ∷ b3 ∷ bs)
  four_read l h f g k m n =
      let x : b0 ≡ 0xf0 + b0 % 8 = omega arith in
      let y : b1 ≡ 0x80 + b1 % 64 = omega arith in
      let z : b2 ≡ 0x80 + b2 % 64 = omega arith in
      let w : b3 ≡ 0x80 + b3 % 64 = omega arith in
      record {
        scalar = (omega arith, λ s. omega arith);
        size = in_four (omega arith);
        whole = ap (λ (l : List ℕ). l ++ bs) (formed_four (b0 % 8) (b1 % 64) (b2 % 64) (b3 % 64) (omega arith) (omega arith) (omega arith)) ∙ sym (λ i. x i ∷ y i ∷ z i ∷ w i ∷ bs);
      }

-- by the rows of the table
read_row : {b : ℕ} {rs : List Range} → Row b (more rs) → (bs : List ℕ) → Matched rs bs → Reads (suc (length rs)) (b ∷ bs)
read_row {b} (row_00 h) bs m = one_read b 0 0 0 bs h
read_row {b} (row_c2 l h) bs m = one_matched (λ x. Reads 2 (b ∷ x)) any (λ b1 bs p. two_read b b1 0 0 bs l h p) bs m
read_row {b} (row_e0 e) bs m = two_matched (λ x. Reads 3 (b ∷ x)) (0xa0 to 0xbf) any
    (λ b1 b2 bs p q. three_read b b1 b2 0 bs (omega arith) (omega arith) (omega arith) q (omega arith) (λ u v. omega arith)) bs m
read_row {b} (row_e1 l h) bs m = two_matched (λ x. Reads 3 (b ∷ x)) any any (λ b1 b2 bs p q. three_read b b1 b2 0 bs (omega arith) (omega arith) p q (omega arith) (λ u v. omega arith)) bs m
read_row {b} (row_ed e) bs m = two_matched (λ x. Reads 3 (b ∷ x)) (0x80 to 0x9f) any
    (λ b1 b2 bs p q. three_read b b1 b2 0 bs (omega arith) (omega arith) (omega arith) q (omega arith) (λ u v. omega arith)) bs m
read_row {b} (row_ee l h) bs m = two_matched (λ x. Reads 3 (b ∷ x)) any any (λ b1 b2 bs p q. three_read b b1 b2 0 bs (omega arith) (omega arith) p q (omega arith) (λ u v. omega arith)) bs m
read_row {b} (row_f0 e) bs m = three_matched (λ x. Reads 4 (b ∷ x)) (0x90 to 0xbf) any any
    (λ b1 b2 b3 bs p q r. four_read b b1 b2 b3 bs (omega arith) (omega arith) (omega arith) q r (omega arith) (omega arith)) bs m
read_row {b} (row_f1 l h) bs m = three_matched (λ x. Reads 4 (b ∷ x)) any any any (λ b1 b2 b3 bs p q r. four_read b b1 b2 b3 bs (omega arith) (omega arith) p q r (omega arith) (omega arith)) bs m
read_row {b} (row_f4 e) bs m = three_matched (λ x. Reads 4 (b ∷ x)) (0x80 to 0x8f) any any
    (λ b1 b2 b3 bs p q r. four_read b b1 b2 b3 bs (omega arith) (omega arith) (omega arith) q r (omega arith) (omega arith)) bs m

read_after : {b : ℕ} (a : After) → Row b a → (bs : List ℕ) → 0 < followed a bs → Reads (followed a bs) (b ∷ bs)
read_after wrong r bs p = absurd (omega arith)
read_after {b} (more rs) r bs p =
    by_cond (λ n. 0 < n → Reads n (b ∷ bs)) (matches rs bs) (λ e q. read_row r bs (matched rs bs e)) (λ e q. absurd (omega arith)) p

pub read : (bs : List ℕ) → 0 < first bs → Reads (first bs) bs
read [] p = absurd (omega arith)
read (b ∷ bs) p = read_after (after b) (row b) bs p

-- ---- what is written is read
no_surrogate : (c : ℕ) → Scalar c → 0xd800 ≤ c → 0xe000 ≤ c
no_surrogate c s l = let n : c < 0xe000 → ⊥ = λ h. s.1 (l, h) in omega arith

-- a first byte of a known row, and bytes of its ranges behind it
pub reads_as : {b : ℕ} {rs : List Range} → Row b (more rs) → (bs : List ℕ) → Matched rs bs → first (b ∷ bs) ≡ suc (length rs)
reads_as {b} {rs} r bs m = rw (row_is r, matches_so rs bs m)

follows_any : (c : ℕ) → (0x80 ≤ 0x80 + c % 64) × (0x80 + c % 64 ≤ 0xbf)
follows_any c = omega arith

pub written_first : {c n : ℕ} → Sized c n → Scalar c → (r : List ℕ) → first (formed n c ++ r) ≡ n
written_first (in_one h) s r = reads_as (row_00 h) r tt
written_first {c} (in_two l h) s r = reads_as (row_c2 (omega arith) (omega arith)) _ (follows_any c, tt)
written_first {c} (in_three l h) s r =
    by_test (ltb c 0x1000)
    (λ e. let k = ltb-true c 0x1000 e in reads_as (row_e0 (omega arith)) _ (omega arith, (follows_any c, tt)))
    (λ e. let k = ltb-false c 0x1000 e in
    by_test (ltb c 0xd000)
    (λ e. let m = ltb-true c 0xd000 e in reads_as (row_e1 (omega arith) (omega arith)) _ (follows_any (c / 64), (follows_any c, tt)))
    (λ e. let m = ltb-false c 0xd000 e in
    by_test (ltb c 0xd800)
    (λ e. let n = ltb-true c 0xd800 e in reads_as (row_ed (omega arith)) _ (omega arith, (follows_any c, tt)))
    (λ e. let n = ltb-false c 0xd800 e in
    let o : 0xe000 ≤ c = no_surrogate c s n in reads_as (row_ee (omega arith) (omega arith)) _ (follows_any (c / 64), (follows_any c, tt)))))
written_first {c} (in_four l) s r =
    by_test (ltb c 0x40000)
    (λ e. let k = ltb-true c 0x40000 e in reads_as (row_f0 (omega arith)) _ (omega arith, (follows_any (c / 64), (follows_any c, tt))))
    (λ e. let k = ltb-false c 0x40000 e in
    by_test (ltb c 0x100000)
    (λ e. let m = ltb-true c 0x100000 e in reads_as (row_f1 (omega arith) (omega arith)) _ (follows_any (c / 64 / 64), (follows_any (c / 64), (follows_any c, tt))))
    (λ e. let m = ltb-false c 0x100000 e in
    let o : c < 0x110000 = s.0 in reads_as (row_f4 (omega arith)) _ (omega arith, (follows_any (c / 64), (follows_any c, tt)))))

-- a digit behind its mark
unmarked : (k m d : ℕ) → d < m → (k * m + d) % m ≡ d
unmarked k m d h = digits_mod k h

pub written_value : {c n : ℕ} → Sized c n → Scalar c → (r : List ℕ) → decoded n (formed n c ++ r) ≡ c
written_value (in_one h) s r = refl
written_value {c} (in_two l h) s r = omega arith
written_value {c} (in_three l h) s r =
    let x : (0xe0 + c / 64 / 64) % 16 ≡ c / 64 / 64 = unmarked 14 16 _ (omega arith) in
    let y : (0x80 + c / 64 % 64) % 64 ≡ c / 64 % 64 = unmarked 2 64 _ (omega arith) in
    let z : (0x80 + c % 64) % 64 ≡ c % 64 = unmarked 2 64 _ (omega arith) in
    omega arith
written_value {c} (in_four l) s r =
    let o : c < 0x110000 = s.0 in
    let x : (0xf0 + c / 64 / 64 / 64) % 8 ≡ c / 64 / 64 / 64 = unmarked 30 8 _ (omega arith) in
    let y : (0x80 + c / 64 / 64 % 64) % 64 ≡ c / 64 / 64 % 64 = unmarked 2 64 _ (omega arith) in
    let z : (0x80 + c / 64 % 64) % 64 ≡ c / 64 % 64 = unmarked 2 64 _ (omega arith) in
    let w : (0x80 + c % 64) % 64 ≡ c % 64 = unmarked 2 64 _ (omega arith) in
    omega arith
