-- Pieces of a list are vstd's chunks, and nothing else is.
use mathlib.Core.Path.{◌≡◌, sym, ap, ◌∙◌}
use mathlib.Core.List.{List, []}
use Prim.Native.Nat.{ℕ, ◌+◌, ◌-◌, ◌*◌, ◌/◌, ◌<◌, min}
use native.Mathlib.Omega.{arith}
use lib.ListN.{length, get_or}
use lib.Seq.{ext_get_or}
use Rattle.theory_lists.specs.Pieces.{count, pieces}
use Rattle.theory_lists.proofs.Pieces.{pieces_many, piece_at, count_needed}
use Rattle.vstd_slices.specs.Slices.{Subrange, Chunks}
use Rattle.vstd_slices.proofs.Sequences.{part_subrange, subrange_pinned}

pub pieces_chunks : (n : ℕ) → 0 < n → (s : List ℕ) → Chunks s n (pieces n s)
unfolding count
pieces_chunks n h s =
    let e : length s + (n - 1) ≡ length s + n - 1 = omega arith in
    record {
      len = pieces_many n h s ∙ ap (λ (k : ℕ). k / n) e;
      each = λ i l. each i (rw (pieces_many n h s) at l);
    }
  where
    each : (i : ℕ) → i < count n (length s) → Subrange s (i * n) (min (i * n + n) (length s)) (get_or (pieces n s) i [])
    each i l =
        let m = count_needed n h (length s) i l in
        rw (piece_at n h s i l) (part_subrange (record { ordered = omega arith; ends = omega arith }))

pub chunks_pinned : {n : ℕ} {s : List ℕ} {r r' : List (List ℕ)} → Chunks s n r → Chunks s n r' → r ≡ r'
chunks_pinned {n} {s} {r} {r'} p q =
    ext_get_or [] r r' (p.len ∙ sym q.len) (λ i l. subrange_pinned (p.each i l) (q.each i (omega (arith, p.len, q.len))))
