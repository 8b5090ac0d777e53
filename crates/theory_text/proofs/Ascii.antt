-- Bytes below 0x80 are their own text.
use mathlib.Core.Path.{◌≡◌, refl, sym, ap, ◌∙◌, subst}
use mathlib.Core.List.{List, [], ◌∷◌}
use Prim.Native.Nat.{ℕ, zero, suc, ◌+◌, ◌<◌, ◌≤◌}
use native.Mathlib.Omega.{arith}
use native.Mathlib.Nat.{add-zero}
use lib.ListN.{length, get_or, take, drop}
use lib.Seq.{drop-cons}
use lib.Dec.{leb}
use borrow.Author.Tests.{leb-true, le-leb, leb-false, lt-leb, lt-ltb}
use Rattle.theory_lists.specs.Bounds.{AllBelow}
use Rattle.theory_lists.specs.Search.{Until, holds_at}
use Rattle.theory_lists.specs.Part.{part, Within}
use Rattle.theory_lists.proofs.Below.{below_in_part, all_is_below}
use Rattle.theory_text.specs.Scalar.{Scalar, form}
use Rattle.theory_text.specs.Text.{Scalars, encode, Valid}
use Rattle.theory_text.specs.Table.{first}
use Rattle.theory_text.specs.Reading.{scalars, rest}
use Rattle.theory_text.specs.Ascii.{Ascii, AsciiRun}
use Rattle.theory_text.proofs.Sizes.{in_one, form_as}
use Rattle.theory_text.proofs.Rows.{row_00}
use Rattle.theory_text.proofs.Forms.{reads_as}
use Rattle.theory_text.proofs.Steps.{rest_next}
use Rattle.theory_text.proofs.Unique.{encode_scalars}
use Rattle.theory_text.proofs.Pieces.{valid_extend}

pub first_ascii : (b : ℕ) (bs : List ℕ) → b < 0x80 → first (b ∷ bs) ≡ 1
first_ascii b bs h = reads_as (row_00 h) bs tt

pub form_ascii : (c : ℕ) → c < 0x80 → form c ≡ c ∷ []
form_ascii c h = form_as (in_one h)

pub scalar_ascii : (c : ℕ) → c < 0x80 → Scalar c
scalar_ascii c h = (omega arith, λ s. omega arith)

pub ascii_scalars : (cs : List ℕ) → Ascii cs → Scalars cs
unfolding AllBelow
ascii_scalars [] a = tt
ascii_scalars (c ∷ cs) a = (scalar_ascii c a.0, ascii_scalars cs a.1)

pub ascii_encode : (cs : List ℕ) → Ascii cs → encode cs ≡ cs
unfolding AllBelow
ascii_encode [] a = refl
ascii_encode (c ∷ cs) a = rw (form_ascii c a.0, ascii_encode cs a.1)

pub ascii_valid : (s : List ℕ) → Ascii s → Valid s
ascii_valid s a = (s, ascii_scalars s a, ascii_encode s a)

pub scalars_ascii : (s : List ℕ) → Ascii s → scalars s ≡ s
scalars_ascii s a = ap scalars (sym (ascii_encode s a)) ∙ encode_scalars s (ascii_scalars s a)

-- ---- a run of them inside other bytes
module _ (s : List ℕ) where
  pub first_ascii_at : (at : ℕ) → at < length s → get_or s at 0 < 0x80 → first (drop at s) ≡ 1
  first_ascii_at at h l = ap first (drop-cons s at 0 h) ∙ first_ascii (get_or s at 0) (drop (suc at) s) l

  -- each of the n bytes from the place on
  abbrev Each : ℕ → ℕ → Type 0
  Each at n = (j : ℕ) → at ≤ j → j < at + n → get_or s j 0 < 0x80

  each : (at n : ℕ) → at + n ≤ length s → Ascii (part at (at + n) s) → Each at n
  each at n h a = below_in_part 0x80 s (record { ordered = omega arith; ends = h }) a

  rest_each : (at n : ℕ) → at + n ≤ length s → Each at n → rest (drop (at + n) s) ≡ rest (drop at s)
  rest_each at zero h a = rw add-zero
  rest_each at (suc n) h a =
      let k : at + n < length s = omega arith in
      let f : first (drop (at + n) s) ≡ 1 = first_ascii_at (at + n) k (a (at + n) (omega arith) (omega arith)) in
      let e : at + n + first (drop (at + n) s) ≡ at + suc n = omega arith in
      ap (λ (m : ℕ). rest (drop m s)) (sym e) ∙ rest_next s (at + n) (omega arith)
      ∙ rest_each at n (omega arith) (λ j l m. a j l (omega arith))

  valid_each : (at n : ℕ) → at + n ≤ length s → Each at n → Valid (take at s) → Valid (take (at + n) s)
  valid_each at zero h a v = rw add-zero v
  valid_each at (suc n) h a v =
      let k : at + n < length s = omega arith in
      let f : first (drop (at + n) s) ≡ 1 = first_ascii_at (at + n) k (a (at + n) (omega arith) (omega arith)) in
      let e : at + n + first (drop (at + n) s) ≡ at + suc n = omega arith in
      subst (λ (m : ℕ). Valid (take m s)) e (valid_extend s (at + n) (valid_each at n (omega arith) (λ j l m. a j l (omega arith)) v) (omega arith))

  pub rest_ascii : (at n : ℕ) → at + n ≤ length s → Ascii (part at (at + n) s) → rest (drop (at + n) s) ≡ rest (drop at s)
  rest_ascii at n h a = rest_each at n h (each at n h a)

  pub valid_ascii : (at n : ℕ) → at + n ≤ length s → Ascii (part at (at + n) s) → Valid (take at s) → Valid (take (at + n) s)
  valid_ascii at n h a v = valid_each at n h (each at n h a) v

  -- it ends at the first place of another byte, or at the end
  pub run_until : (f t : ℕ) → f ≤ length s → AsciiRun s f t → Until (holds_at (leb 0x80) s) f (length s) t
  run_until f t h r =
      let w : Within f t s = record { ordered = r.ordered; ends = r.inside h } in
      record {
        after = r.ordered;
        before = r.inside h;
        holds = λ l. le-leb 0x80 (get_or s t 0) (r.stops l);
        none = λ k m l. lt-leb 0x80 (get_or s k 0) (below_in_part 0x80 s w r.ascii k m l);
      }

  pub until_run : (f t : ℕ) → Until (holds_at (leb 0x80) s) f (length s) t → AsciiRun s f t
  until_run f t u =
      record {
        ordered = u.after;
        inside = λ h. u.before;
        ascii = all_is_below 0x80 s f t (λ k m l. lt-ltb (get_or s k 0) 0x80 (leb-false 0x80 (get_or s k 0) (u.none k m l)));
        stops = λ l. leb-true 0x80 (get_or s t 0) (u.holds l);
      }
