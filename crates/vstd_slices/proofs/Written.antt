-- What vstd says of a slice that was written to, element by element, is `written`, and it leaves one slice possible.
use mathlib.Core.Path.{◌≡◌, sym, ap, ◌∙◌}
use mathlib.Core.List.{List}
use Prim.Native.Nat.{ℕ, ◌+◌, ◌-◌, ◌≤◌, ◌<◌}
use native.Mathlib.Decide.{dec_lt}
use native.Mathlib.Omega.{arith}
use lib.ListN.{length, get_or}
use lib.Seq.{ext_get_or}
use Rattle.theory_lists.specs.Part.{part, Within}
use Rattle.theory_lists.specs.Written.{written}
use Rattle.theory_lists.proofs.Part.{length_part, get_d_part}
use Rattle.theory_lists.proofs.Written.{length_written, written_before, written_in, written_after}
use Rattle.vstd_slices.specs.Slices.{PartReplaced, CopiedWithin}

pub written_replaces : {f t : ℕ} {s : List ℕ} (new : List ℕ) → Within f t s → length new ≡ t - f → PartReplaced s (written s f new) f t new
written_replaces {f} {t} {s} new w e =
    let fits : f + length new ≤ length s = omega (arith, w.ordered, w.ends) in
    record {
      len = length_written s f new fits;
      before = written_before s f new fits;
      inside = record { len = e; index = λ k l. sym (written_in s f new fits k (omega arith)) };
      after = λ k l m. written_after s f new fits k (omega (arith, w.ordered));
    }

pub replaced_pinned : {f t : ℕ} {old final final' new : List ℕ} → PartReplaced old final f t new → PartReplaced old final' f t new → final ≡ final'
replaced_pinned {f} {t} {old} {final} {final'} {new} p q =
    ext_get_or 0 final final' (p.len ∙ sym q.len) (λ k l. go k (omega (arith, p.len)) (dec_lt k f) (dec_lt k t))
  where
    go : (k : ℕ) → k < length old → Dec (k < f) → Dec (k < t) → get_or final k 0 ≡ get_or final' k 0
    go k l (yes a) _ = p.before k a ∙ sym (q.before k a)
    go k l (no a) (yes b) =
        let e : f + (k - f) ≡ k = omega arith in
        rw e at (sym (p.inside.index (k - f) (omega arith)) ∙ q.inside.index (k - f) (omega arith))
    go k l (no a) (no b) = p.after k (omega arith) l ∙ sym (q.after k (omega arith) l)

pub copied_within : {f t : ℕ} {s : List ℕ} (at : ℕ) → Within f t s → at + (t - f) ≤ length s → CopiedWithin s f t at (written s at (part f t s))
copied_within {f} {t} {s} at w h =
    let m = length_part w in
    let fits : at + length (part f t s) ≤ length s = omega arith in
    record {
      len = length_written s at (part f t s) fits;
      copied = λ i l a b. inside fits i a b;
      before = written_before s at (part f t s) fits;
      after = λ i l a. written_after s at (part f t s) fits i (omega arith);
    }
  where
    inside : at + length (part f t s) ≤ length s → (i : ℕ) → at ≤ i → i < at + (t - f) → get_or (written s at (part f t s)) i 0 ≡ get_or s (f + (i - at)) 0
    inside fits i a b =
        let e : i ≡ at + (i - at) = omega arith in
        ap (λ (k : ℕ). get_or (written s at (part f t s)) k 0) e
        ∙ written_in s at (part f t s) fits (i - at) (omega (arith, length_part w))
        ∙ get_d_part f t s (i - at) (omega arith)

pub copied_pinned : {f t at : ℕ} {old final final' : List ℕ} → CopiedWithin old f t at final → CopiedWithin old f t at final' → final ≡ final'
copied_pinned {f} {t} {at} {old} {final} {final'} p q =
    ext_get_or 0 final final' (p.len ∙ sym q.len) (λ i l. go i (omega (arith, p.len)) (dec_lt i at) (dec_lt i (at + (t - f))))
  where
    go : (i : ℕ) → i < length old → Dec (i < at) → Dec (i < at + (t - f)) → get_or final i 0 ≡ get_or final' i 0
    go i l (yes a) _ = p.before i a ∙ sym (q.before i a)
    go i l (no a) (yes b) = p.copied i l (omega arith) b ∙ sym (q.copied i l (omega arith) b)
    go i l (no a) (no b) = p.after i l (omega arith) ∙ sym (q.after i l (omega arith))
