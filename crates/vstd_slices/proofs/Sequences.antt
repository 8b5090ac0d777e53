-- vstd's sequences, taken from lists: subranges are parts, updates and reversals are those of lists, and each is the only sequence with its elements.
use mathlib.Core.Path.{◌≡◌, sym, ap, ◌∙◌}
use mathlib.Core.List.{List, [], ◌∷◌, reverse}
use Prim.Native.Nat.{ℕ, ◌+◌, ◌-◌, ◌≤◌, ◌<◌}
use native.Mathlib.Decide.{dec_lt, ℕ_discrete}
use native.Mathlib.Omega.{arith}
use lib.ListN.{length, get_or, length-reverse}
use lib.Seq.{ext_get_or}
use Rattle.theory_lists.specs.Part.{part, Within}
use Rattle.theory_lists.specs.Written.{written}
use Rattle.theory_lists.proofs.Part.{length_part, get_d_part, part_part}
use Rattle.theory_lists.proofs.Written.{length_written, written_before, written_in, written_after}
use Rattle.theory_lists.proofs.Reverse.{get_d_reverse}
use Rattle.vstd_slices.specs.Slices.{Subrange, Updated, Reversed}

pub part_subrange : {f t : ℕ} {s : List ℕ} → Within f t s → Subrange s f t (part f t s)
part_subrange {f} {t} {s} w = record { len = length_part w; index = get_d_part f t s }

pub subrange_pinned : {s r r' : List ℕ} {f t : ℕ} → Subrange s f t r → Subrange s f t r' → r ≡ r'
subrange_pinned {s} {r} {r'} p q =
    ext_get_or 0 r r' (p.len ∙ sym q.len) (λ k l. p.index k (omega (arith, p.len)) ∙ sym (q.index k (omega (arith, p.len))))

-- a part of a part is a subrange of it
pub part_of_part : (f t a e : ℕ) (s : List ℕ) → Within f t s → a ≤ e → e ≤ t - f → Subrange (part f t s) a e (part (f + a) (f + e) s)
part_of_part f t a e s w h l =
    rw (← part_part f t s a e (omega (arith, w.ordered))) (part_subrange (record { ordered = h; ends = omega (arith, length_part w) }))

pub written_updated : (s : List ℕ) (i v : ℕ) → i < length s → Updated s i v (written s i (v ∷ []))
written_updated s i v h =
    let fits : i + length (v ∷ []) ≤ length s = omega arith in
    record {
      len = length_written s i (v ∷ []) fits;
      same = (let e : i ≡ i + 0 = omega arith in ap (λ (k : ℕ). get_or (written s i (v ∷ [])) k 0) e ∙ written_in s i (v ∷ []) fits 0 (omega arith));
      different = λ k l n. go fits k n (dec_lt k i);
    }
  where
    go : i + length (v ∷ []) ≤ length s → (k : ℕ) → (k ≡ i → ⊥) → Dec (k < i) → get_or (written s i (v ∷ [])) k 0 ≡ get_or s k 0
    go fits k n (yes l) = written_before s i (v ∷ []) fits k l
    go fits k n (no l) = written_after s i (v ∷ []) fits k (omega arith)

pub updated_pinned : {s r r' : List ℕ} {i v : ℕ} → Updated s i v r → Updated s i v r' → r ≡ r'
updated_pinned {s} {r} {r'} {i} {v} p q = ext_get_or 0 r r' (p.len ∙ sym q.len) (λ k l. go k (omega (arith, p.len)) (ℕ_discrete k i))
  where
    go : (k : ℕ) → k < length s → Dec (k ≡ i) → get_or r k 0 ≡ get_or r' k 0
    go k l (yes e) = rw e (p.same ∙ sym q.same)
    go k l (no n) = p.different k l n ∙ sym (q.different k l n)

pub reverse_reversed : (s : List ℕ) → Reversed s (reverse s)
reverse_reversed s = record { len = length-reverse s; index = get_d_reverse s }

pub reversed_pinned : {s r r' : List ℕ} → Reversed s r → Reversed s r' → r ≡ r'
reversed_pinned {s} {r} {r'} p q =
    ext_get_or 0 r r' (p.len ∙ sym q.len) (λ k l. p.index k (omega (arith, p.len)) ∙ sym (q.index k (omega (arith, p.len))))
