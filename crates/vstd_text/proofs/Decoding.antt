-- vstd's first scalar is ours.
use mathlib.Core.Path.{◌≡◌, refl, sym, ap, ◌∙◌, subst}
use mathlib.Core.Logic.{inl, inr}
use mathlib.Core.List.{List, [], ◌∷◌, ◌++◌}
use Prim.Native.Nat.{ℕ, ◌+◌, ◌*◌, ◌/◌, ◌%◌, ◌<◌, ◌≤◌}
use native.Mathlib.Omega.{arith}
use lib.ListN.{drop}
use Rattle.theory_text.specs.Scalar.{Scalar, len, formed, digit}
use Rattle.theory_text.specs.Text.{Begins}
use Rattle.theory_text.specs.Table.{first}
use Rattle.theory_text.specs.Reading.{decoded}
use Rattle.theory_text.proofs.Sizes.{len_some, Sized, in_one, in_two, in_three, in_four}
use Rattle.theory_text.proofs.Forms.{Reads, read, one_read, two_read, three_read, four_read, written_first, written_value}
use Rattle.theory_text.proofs.Ends.{first_begins, begins_first, begins_value}
use Rattle.vstd_text.specs.Decoding.{Continues, ValidLeadingAndContinuationBytesFirstCodepoint, decode_first_codepoint, length_of_first_codepoint}
use Rattle.vstd_text.specs.Decoding.{NotSurrogate, ValidFirstScalar, decode_first_scalar, length_of_first_scalar}
use Rattle.vstd_text.proofs.Operators.{codepoint_width_1_is, codepoint_width_2_is, codepoint_width_3_is, codepoint_width_4_is}
use Rattle.vstd_text.proofs.Ranges.{lead_one, one_lead, past_one, lead_two, two_lead, past_two, lead_three, three_lead, past_three, lead_four, four_lead}
use Rattle.vstd_text.proofs.Ranges.{continues, a_continuation}

-- how long the first codepoint is and what it is, by the first byte
module _ (b0 b1 b2 b3 : ℕ) (r : List ℕ) where
  long_one : b0 < 0x80 → (length_of_first_codepoint (b0 ∷ r) ≡ 1) × (decode_first_codepoint (b0 ∷ r) ≡ b0 % 128)
  unfolding length_of_first_codepoint decode_first_codepoint
  long_one h = let e = one_lead b0 h in (rw e, rw e (codepoint_width_1_is b0))

  long_two : 0xc0 ≤ b0 → b0 < 0xe0 → (length_of_first_codepoint (b0 ∷ b1 ∷ r) ≡ 2) × (decode_first_codepoint (b0 ∷ b1 ∷ r) ≡ b0 % 32 * 64 + b1 % 64)
  unfolding length_of_first_codepoint decode_first_codepoint
  long_two l h =
      let one = past_one b0 (omega arith) in
      let two = two_lead b0 l h in
      (rw (one, two), rw (one, two) (codepoint_width_2_is b0 b1))

  long_three : 0xe0 ≤ b0 → b0 < 0xf0
      → (length_of_first_codepoint (b0 ∷ b1 ∷ b2 ∷ r) ≡ 3) × (decode_first_codepoint (b0 ∷ b1 ∷ b2 ∷ r) ≡ (b0 % 16 * 64 + b1 % 64) * 64 + b2 % 64)
  unfolding length_of_first_codepoint decode_first_codepoint
  long_three l h =
      let one = past_one b0 (omega arith) in
      let two = past_two b0 l in
      let three = three_lead b0 l h in
      (rw (one, two, three), rw (one, two, three) (codepoint_width_3_is b0 b1 b2))

  long_four : 0xf0 ≤ b0
      → (length_of_first_codepoint (b0 ∷ b1 ∷ b2 ∷ b3 ∷ r) ≡ 4)
      × (decode_first_codepoint (b0 ∷ b1 ∷ b2 ∷ b3 ∷ r) ≡ ((b0 % 8 * 64 + b1 % 64) * 64 + b2 % 64) * 64 + b3 % 64)
  unfolding length_of_first_codepoint decode_first_codepoint
  long_four l =
      let one = past_one b0 (omega arith) in
      let two = past_two b0 (omega arith) in
      let three = past_three b0 l in
      (rw (one, two, three), rw (one, two, three) (codepoint_width_4_is b0 b1 b2 b3))

-- what vstd takes for the first scalar is read
vstd_reads : (bytes : List ℕ) → ValidFirstScalar bytes
    → Reads (length_of_first_codepoint bytes) bytes × (decode_first_codepoint bytes ≡ decoded (length_of_first_codepoint bytes) bytes)
vstd_reads bytes v = by bytes v v.shaped
  where
    by : (bytes : List ℕ) → ValidFirstScalar bytes → ValidLeadingAndContinuationBytesFirstCodepoint bytes
        → Reads (length_of_first_codepoint bytes) bytes × (decode_first_codepoint bytes ≡ decoded (length_of_first_codepoint bytes) bytes)
    by [] v (inl p) = absurd (omega arith)
    by [] v (inr (inl p)) = absurd (omega arith)
    by [] v (inr (inr (inl p))) = absurd (omega arith)
    by [] v (inr (inr (inr p))) = absurd (omega arith)
    by (b0 ∷ bs) v (inl p) =
        let q = lead_one b0 p.1 in
        let l = long_one b0 0 0 0 bs q in
        rw (l.0, l.1) (one_read b0 0 0 0 bs (omega arith), omega arith)
    by (b0 ∷ []) v (inr (inl p)) = absurd (omega arith)
    by (b0 ∷ b1 ∷ bs) v (inr (inl p)) =
        let q = lead_two b0 p.1.0 in
        let c = continues b1 p.1.1 in
        let l = long_two b0 b1 0 0 bs q.0 (omega arith) in
        let o = rw l.1 at (v.shortest.two l.0) in
        rw (l.0, l.1) (two_read b0 b1 0 0 bs (omega arith) (omega arith) c, refl)
    by (b0 ∷ []) v (inr (inr (inl p))) = absurd (omega arith)
    by (b0 ∷ b1 ∷ []) v (inr (inr (inl p))) = absurd (omega arith)
    by (b0 ∷ b1 ∷ b2 ∷ bs) v (inr (inr (inl p))) =
        let q = lead_three b0 p.1.0 in
        let c = continues b1 p.1.1.0 in
        let d = continues b2 p.1.1.1 in
        let l = long_three b0 b1 b2 0 bs q.0 (omega arith) in
        let o = rw l.1 at (v.shortest.three l.0) in
        let n = rw l.1 at v.scalar in
        let x : b0 ≡ 0xe0 + b0 % 16 = omega arith in
        let y : b1 ≡ 0x80 + b1 % 64 = omega arith in
        rw (l.0, l.1) (three_read b0 b1 b2 0 bs q.0 (omega arith) c d (omega arith) (λ p q. n (omega arith, omega arith)), refl)
    by (b0 ∷ []) v (inr (inr (inr p))) = absurd (omega arith)
    by (b0 ∷ b1 ∷ []) v (inr (inr (inr p))) = absurd (omega arith)
    by (b0 ∷ b1 ∷ b2 ∷ []) v (inr (inr (inr p))) = absurd (omega arith)
    by (b0 ∷ b1 ∷ b2 ∷ b3 ∷ bs) v (inr (inr (inr p))) =
        let q = lead_four b0 p.1.0 in
        let c = continues b1 p.1.1.0 in
        let d = continues b2 p.1.1.1.0 in
        let f = continues b3 p.1.1.1.1 in
        let l = long_four b0 b1 b2 b3 bs q.0 in
        let o = rw l.1 at (v.shortest.four l.0) in
        let x : b0 ≡ 0xf0 + b0 % 8 = omega arith in
        let y : b1 ≡ 0x80 + b1 % 64 = omega arith in
        rw (l.0, l.1) (four_read b0 b1 b2 b3 bs q.0 (omega arith) c d f (omega arith) (omega arith), refl)

-- and what is read is valid to vstd
digit_continues : (c : ℕ) → Continues (digit c)
digit_continues c = a_continuation (digit c) (omega arith) (omega arith)

scalar_not_surrogate : (c : ℕ) → Scalar c → NotSurrogate c
scalar_not_surrogate c s p = s.1 (omega arith, omega arith)

form_vstd : {c n : ℕ} → Sized c n → Scalar c → (r : List ℕ) → ValidFirstScalar (formed n c ++ r) × (length_of_first_codepoint (formed n c ++ r) ≡ n)
form_vstd {c} (in_one h) s r =
    let l = long_one c 0 0 0 r h in
    let q : c % 128 ≡ c = omega arith in (
      record {
        shaped = inl (omega arith, one_lead c h);
        shortest = rw (l.0, l.1) (record { two = λ x. absurd (omega arith); three = λ x. absurd (omega arith); four = λ x. absurd (omega arith) });
        scalar = rw (l.1, q) (scalar_not_surrogate c s);
      },
      l.0,
    )
form_vstd {c} (in_two a h) s r =
    let b0 = 0xc0 + c / 64 in
    let l = long_two b0 (digit c) 0 0 r (omega arith) (omega arith) in
    let q : b0 % 32 * 64 + digit c % 64 ≡ c = written_value (in_two a h) s r in (
      record {
        shaped = inr (inl (omega arith, (two_lead b0 (omega arith) (omega arith), digit_continues c)));
        shortest = rw (l.0, l.1, q) (record { two = λ x. omega arith; three = λ x. absurd (omega arith); four = λ x. absurd (omega arith) });
        scalar = rw (l.1, q) (scalar_not_surrogate c s);
      },
      l.0,
    )
form_vstd {c} (in_three a h) s r =
    let b0 = 0xe0 + c / 64 / 64 in
    let l = long_three b0 (digit (c / 64)) (digit c) 0 r (omega arith) (omega arith) in
    let q : (b0 % 16 * 64 + digit (c / 64) % 64) * 64 + digit c % 64 ≡ c = written_value (in_three a h) s r in (
      record {
        shaped = inr (inr (inl (omega arith, (three_lead b0 (omega arith) (omega arith), (digit_continues (c / 64), digit_continues c)))));
        shortest = rw (l.0, l.1, q) (record { two = λ x. absurd (omega arith); three = λ x. omega arith; four = λ x. absurd (omega arith) });
        scalar = rw (l.1, q) (scalar_not_surrogate c s);
      },
      l.0,
    )
form_vstd {c} (in_four a) s r =
    let b0 = 0xf0 + c / 64 / 64 / 64 in
    let m : c < 0x110000 = s.0 in
    let lead = four_lead b0 (omega arith) (omega arith) in
    let l = long_four b0 (digit (c / 64 / 64)) (digit (c / 64)) (digit c) r (omega arith) in
    let q : ((b0 % 8 * 64 + digit (c / 64 / 64) % 64) * 64 + digit (c / 64) % 64) * 64 + digit c % 64 ≡ c = written_value (in_four a) s r in (
      record {
        shaped = inr (inr (inr (omega arith, (lead, (digit_continues (c / 64 / 64), (digit_continues (c / 64), digit_continues c))))));
        shortest = rw (l.0, l.1, q) (record { two = λ x. absurd (omega arith); three = λ x. absurd (omega arith); four = λ x. (omega arith, omega arith) });
        scalar = rw (l.1, q) (scalar_not_surrogate c s);
      },
      l.0,
    )

reads_first : (n : ℕ) (bytes : List ℕ) → Reads n bytes → first bytes ≡ n
reads_first n bytes r = ap first (sym r.whole) ∙ written_first r.size r.scalar (drop n bytes)

-- `length_of_first_scalar`, `decode_first_scalar`, `valid_first_scalar`
pub length_of_first_scalar_same : (bytes : List ℕ) → ValidFirstScalar bytes → first bytes ≡ length_of_first_scalar bytes
length_of_first_scalar_same bytes v = reads_first (length_of_first_codepoint bytes) bytes (vstd_reads bytes v).0

pub decode_first_scalar_same : (bytes : List ℕ) → ValidFirstScalar bytes → decoded (first bytes) bytes ≡ decode_first_scalar bytes
decode_first_scalar_same bytes v = rw (length_of_first_scalar_same bytes v) (sym (vstd_reads bytes v).1)

sized_some : {c n : ℕ} → Sized c n → 0 < n
sized_some (in_one h) = omega arith
sized_some (in_two a h) = omega arith
sized_some (in_three a h) = omega arith
sized_some (in_four a) = omega arith

pub valid_first_some : (bytes : List ℕ) → ValidFirstScalar bytes → 0 < first bytes
valid_first_some bytes v = rw (length_of_first_scalar_same bytes v) (sized_some (vstd_reads bytes v).0.size)

pub some_valid_first : (bytes : List ℕ) → 0 < first bytes → ValidFirstScalar bytes
some_valid_first bytes p = let r = read bytes p in subst ValidFirstScalar r.whole (form_vstd r.size r.scalar (drop (first bytes) bytes)).0

-- the scalar that begins the bytes is vstd's first
module _ (bytes : List ℕ) where
  pub begins_valid : (c : ℕ) → Begins c bytes → ValidFirstScalar bytes × ((c ≡ decode_first_scalar bytes) × (len c ≡ length_of_first_scalar bytes))
  begins_valid c b =
      let e = begins_first bytes c b in
      let v = some_valid_first bytes (rw e (len_some c)) in
      (v, (sym (begins_value bytes c b) ∙ decode_first_scalar_same bytes v, sym e ∙ length_of_first_scalar_same bytes v))

  pub valid_begins : ValidFirstScalar bytes → Begins (decode_first_scalar bytes) bytes
  valid_begins v = subst (λ (c : ℕ). Begins c bytes) (decode_first_scalar_same bytes v) (first_begins bytes (valid_first_some bytes v))
