-- vstd's clauses on slices, restated: a sequence is a list, by its length and its elements. Where vstd says `slice@`, s stands.
use Rattle.std.specs.Prelude.{◌≡◌, Bool, true, false, List, [], ◌++◌, ℕ, ◌+◌, ◌-◌, ◌*◌, ◌/◌, ◌≤◌, ◌<◌, min, length, get_or}

-- ---- sequences

-- r == s.subrange(from, to), which is also written s[from..to]
pub record Subrange (s : List ℕ) (from to : ℕ) (r : List ℕ) : Type 0 where
  pub len : length r ≡ to - from
  pub index : (k : ℕ) → k < to - from → get_or r k 0 ≡ get_or s (from + k) 0

-- r == s.update(i, v)
pub record Updated (s : List ℕ) (i v : ℕ) (r : List ℕ) : Type 0 where
  pub len : length r ≡ length s
  pub same : get_or r i 0 ≡ v
  pub different : (k : ℕ) → k < length s → (k ≡ i → ⊥) → get_or r k 0 ≡ get_or s k 0

-- r == s.reverse()
pub record Reversed (s r : List ℕ) : Type 0 where
  pub len : length r ≡ length s
  pub index : (k : ℕ) → k < length s → get_or r k 0 ≡ get_or s (length s - 1 - k) 0

-- ---- elements: `get`, `first`, `last`. some and x are the answer Some(x), or None where some is false

abbrev pub Got : Bool → ℕ → List ℕ → ℕ → Type 0
Got true x s i = (i < length s) × (x ≡ get_or s i 0)
Got false x s i = i < length s → ⊥

-- None for the empty sequence, and else Some(y)
pub record SomeUnlessEmpty (some : Bool) (x : ℕ) (s : List ℕ) (y : ℕ) : Type 0 where
  pub none : length s ≡ 0 → some ≡ false
  pub present : (length s ≡ 0 → ⊥) → (some ≡ true) × (x ≡ y)

abbrev pub First : Bool → ℕ → List ℕ → Type 0
First some x s = SomeUnlessEmpty some x s (get_or s 0 0)

abbrev pub Last : Bool → ℕ → List ℕ → Type 0
Last some x s = SomeUnlessEmpty some x s (get_or s (length s - 1) 0)

-- ---- parts: `split_at_checked`, `split_first`. p and q are the two parts of Some((p, q))

pub record SplitAt (some : Bool) (p q s : List ℕ) (mid : ℕ) : Type 0 where
  pub inside : mid ≤ length s → (some ≡ true) × Subrange s 0 mid p × Subrange s mid (length s) q
  pub outside : length s < mid → some ≡ false

pub record SplitFirst (some : Bool) (x : ℕ) (q s : List ℕ) : Type 0 where
  pub none : length s ≡ 0 → some ≡ false
  pub present : 0 < length s → (some ≡ true) × (x ≡ get_or s 0 0) × Subrange s 1 (length s) q

-- ---- tests: spec_slice_starts_with, spec_slice_ends_with, eq_spec; spec_slice_contains is `Has`

pub record StartsWith (s needle : List ℕ) : Type 0 where
  pub fits : length needle ≤ length s
  pub each : (i : ℕ) → i < length needle → get_or needle i 0 ≡ get_or s i 0

pub record EndsWith (s needle : List ℕ) : Type 0 where
  pub fits : length needle ≤ length s
  pub each : (i : ℕ) → i < length needle → get_or needle i 0 ≡ get_or s (length s - length needle + i) 0

pub record SameElements (a b : List ℕ) : Type 0 where
  pub len : length a ≡ length b
  pub each : (i : ℕ) → i < length a → get_or a i 0 ≡ get_or b i 0

-- all that vstd says of starts_with and ends_with where the element's equality is not known to be lawful
abbrev pub FalseWhereLonger : Bool → List ℕ → List ℕ → Type 0
FalseWhereLonger result s needle = length s < length needle → result ≡ false

-- ---- what is written: generic_slice_index_mut_postcondition, for a part that becomes new; copy_within_result

pub record PartReplaced (old final : List ℕ) (from to : ℕ) (new : List ℕ) : Type 0 where
  pub len : length final ≡ length old
  pub before : (k : ℕ) → k < from → get_or final k 0 ≡ get_or old k 0
  pub inside : Subrange final from to new
  pub after : (k : ℕ) → to ≤ k → k < length old → get_or final k 0 ≡ get_or old k 0

pub record CopiedWithin (old : List ℕ) (start end dest : ℕ) (final : List ℕ) : Type 0 where
  pub len : length final ≡ length old
  pub copied : (i : ℕ) → i < length old → dest ≤ i → i < dest + (end - start) → get_or final i 0 ≡ get_or old (start + (i - dest)) 0
  pub before : (i : ℕ) → i < dest → get_or final i 0 ≡ get_or old i 0
  pub after : (i : ℕ) → i < length old → dest + (end - start) ≤ i → get_or final i 0 ≡ get_or old i 0

-- all that split_at_mut says of the slice at the end: it is the two parts, one after the other
abbrev pub PartsJoined : List ℕ → List ℕ → List ℕ → Type 0
PartsJoined final p q = final ≡ p ++ q

-- ---- chunks: how many remain, and each as a subrange

pub record Chunks (s : List ℕ) (size : ℕ) (remaining : List (List ℕ)) : Type 0 where
  pub len : length remaining ≡ (length s + size - 1) / size
  pub each : (i : ℕ) → i < length remaining → Subrange s (i * size) (min (i * size + size) (length s)) (get_or remaining i [])
