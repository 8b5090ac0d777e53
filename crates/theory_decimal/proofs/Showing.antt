-- What a writer of decimal text answers, from how many bytes there are and what it leaves.
use mathlib.Core.Path.{◌≡◌, refl, sym, ap, ◌∙◌}
use mathlib.Core.Bool.{Bool, true, false}
use mathlib.Core.List.{List, ◌∷◌, []}
use Prim.Native.Nat.{ℕ, ◌+◌, ◌≤◌, ◌<◌, ◌^◌}
use native.Mathlib.Omega.{arith}
use borrow.Author.Tests.{le-ltb}
use lib.ListN.{length, set, length-set}
use lib.IntN.{ℤ, pos, negsuc, nat_abs}
use lib.Signed.{lt_z}
use Rattle.std.specs.Prelude.{Option, Some, None}
use Rattle.std.specs.Option.{is_some, unwrap_or}
use Rattle.theory_answers.specs.Flag.{Flagged}
use Rattle.theory_answers.proofs.Says.{pinned_outcome}
use Rattle.theory_lists.specs.Written.{written}
use Rattle.theory_lists.proofs.Written.{length_written, written_one, written_twice_up}
use Rattle.theory_decimal.specs.Written.{places, figures, natural, with_sign, whole, Shows}
use Rattle.theory_decimal.proofs.Places.{places_hold}
use Rattle.theory_decimal.proofs.Figures.{length_figures}
use Rattle.theory_decimal.proofs.Plain.{length_natural}

module _ (s : List ℕ) (at : ℕ) (text : List ℕ) (count : ℕ) (l : length text ≡ count) where
  no_room : length s < at + count → Shows false 0 s at text s
  no_room h = record { asked = λ p. omega arith; given = (refl, refl) }

  room : at + count ≤ length s → (d : List ℕ) → d ≡ written s at text → Shows true count s at text d
  room h d e = record { asked = omega arith; given = (sym l, e) }

pub figures_hold : (n count : ℕ) → count ≡ places 10 n → n < 10 ^ count
figures_hold n count e = let p : 1 < 10 = omega arith in rw e (places_hold 10 p n)

module _ (s : List ℕ) (at n count : ℕ) (e : count ≡ places 10 n) where
  pub natural_no_room : length s < at + count → Shows false 0 s at (natural n) s
  natural_no_room = no_room s at (natural n) count (length_natural n ∙ sym e)

  pub natural_shown : at + count ≤ length s → (d : List ℕ) → d ≡ written s at (figures count n) → Shows true count s at (natural n) d
  unfolding natural
  natural_shown h d w = room s at (natural n) count (length_natural n ∙ sym e) h d (w ∙ rw e)

  -- with '-' in front
  length_with_sign : length (0x2d ∷ natural n) ≡ count + 1
  length_with_sign = omega (arith, length_natural n)

  pub with_sign_no_room : length s < at + (count + 1) → Shows false 0 s at (0x2d ∷ natural n) s
  with_sign_no_room = no_room s at (0x2d ∷ natural n) (count + 1) length_with_sign

  pub with_sign_shown : at + (count + 1) ≤ length s → (d : List ℕ) → d ≡ written (set s at 0x2d) (at + 1) (figures count n) → Shows true (count + 1) s at (0x2d ∷ natural n) d
  unfolding natural
  with_sign_shown h d w =
      room s at (0x2d ∷ natural n) (count + 1) length_with_sign h d
      (w ∙ ap (λ (r : List ℕ). written r (at + 1) (figures count n)) (written_one s at 0x2d (omega arith))
      ∙ written_twice_up s at (0x2d ∷ []) (figures count n) (omega (arith, length_figures count n)) ∙ rw e)

  pub with_sign_length : at + (count + 1) ≤ length s → (d : List ℕ) → d ≡ written (set s at 0x2d) (at + 1) (figures count n) → length d ≡ length s
  with_sign_length h d w =
      let l = length-set s at 0x2d in
      ap length w ∙ length_written (set s at 0x2d) (at + 1) (figures count n) (omega (arith, length_figures count n)) ∙ l

-- a signed number's text from its sign and its magnitude
pub whole_by_sign : (z : ℤ) → with_sign (lt_z z (pos 0)) (nat_abs z) ≡ whole z
unfolding whole
whole_by_sign (pos n) = rw (le-ltb n 0 (omega arith))
whole_by_sign (negsuc n) = refl

pub shown_by_sign : {ok : Bool} {bytes : ℕ} {s : List ℕ} (at : ℕ) {d : List ℕ} (t x : ℤ) (m : ℕ) → t ≡ x → m ≡ nat_abs t
    → Shows ok bytes s at (with_sign (lt_z t (pos 0)) m) d → Shows ok bytes s at (whole x) d
shown_by_sign at t x m z e h = rw (← z, ← whole_by_sign t, ← e) h

-- how many bytes, or none, as C has it
pub flagged_shows : (ok : Bool) (bytes : ℕ) (o : Option ℕ) (before : List ℕ) (at : ℕ) (text after : List ℕ)
    → Shows (is_some o) (unwrap_or o 0) before at text after → Flagged ok bytes 0 o → Shows ok bytes before at text after
flagged_shows ok bytes None before at text after s f = rw (f.0, f.1) s
flagged_shows ok bytes (Some n) before at text after s f = rw (f.0, f.1) s

-- two writers of the same text, at the same place of the same list, answer alike and leave the same
pub pinned_shows : {ok ok' : Bool} {bytes bytes' : ℕ} (before : List ℕ) (at : ℕ) (text : List ℕ) {after after' : List ℕ}
    → Shows ok bytes before at text after → Shows ok' bytes' before at text after' → (ok ≡ ok') × ((bytes ≡ bytes') × (after ≡ after'))
pinned_shows before at text w w' =
    pinned_outcome w w' (λ e e'. (e.0 ∙ sym e'.0, e.1 ∙ sym e'.1)) (λ e e'. (e.0 ∙ sym e'.0, e.1 ∙ sym e'.1))
