-- vstd's tests go element by element, ours by whole parts: they say the same.
use mathlib.Core.Path.{◌≡◌, sym, ap, ◌∙◌}
use mathlib.Core.Bool.{Bool}
use mathlib.Core.List.{List}
use Prim.Native.Nat.{ℕ, ◌-◌}
use native.Mathlib.Omega.{arith}
use lib.ListN.{length, get_or, take, drop, length-take, length-drop}
use lib.Seq.{ext_get_or, get_or-take, get_or-drop, length-take-le}
use Rattle.theory_answers.specs.Says.{Says}
use Rattle.theory_answers.proofs.Says.{says_alike}
use Rattle.vstd_slices.specs.Slices.{StartsWith, EndsWith, SameElements}

module _ (s needle : List ℕ) where
  starts : take (length needle) s ≡ needle → StartsWith s needle
  starts e =
      record {
        fits = omega (arith, ap length e, length-take (length needle) s);
        each = λ i l. ap (λ (r : List ℕ). get_or r i 0) (sym e) ∙ get_or-take (length needle) s i 0 l;
      }

  starts_back : StartsWith s needle → take (length needle) s ≡ needle
  starts_back h =
      let n : length (take (length needle) s) ≡ length needle = length-take-le (length needle) s h.fits in
      ext_get_or 0 (take (length needle) s) needle n (λ i l. get_or-take (length needle) s i 0 (omega arith) ∙ sym (h.each i (omega arith)))

  pub starts_with_says : (b : Bool) → Says b (take (length needle) s ≡ needle) → Says b (StartsWith s needle)
  starts_with_says b = says_alike b starts starts_back

  ends : drop (length s - length needle) s ≡ needle → EndsWith s needle
  ends e =
      record {
        fits = omega (arith, ap length e, length-drop (length s - length needle) s);
        each = λ i l. ap (λ (r : List ℕ). get_or r i 0) (sym e) ∙ get_or-drop (length s - length needle) s i 0;
      }

  ends_back : EndsWith s needle → drop (length s - length needle) s ≡ needle
  ends_back h =
      let n : length (drop (length s - length needle) s) ≡ length needle = omega (arith, length-drop (length s - length needle) s, h.fits) in
      ext_get_or 0 (drop (length s - length needle) s) needle n (λ i l. get_or-drop (length s - length needle) s i 0 ∙ sym (h.each i (omega arith)))

  pub ends_with_says : (b : Bool) → Says b (drop (length s - length needle) s ≡ needle) → Says b (EndsWith s needle)
  ends_with_says b = says_alike b ends ends_back

  pub equal_says : (b : Bool) → Says b (s ≡ needle) → Says b (SameElements s needle)
  equal_says b =
      says_alike b (λ e. record { len = ap length e; each = λ i l. ap (λ (r : List ℕ). get_or r i 0) e }) (λ h. ext_get_or 0 s needle h.len h.each)
