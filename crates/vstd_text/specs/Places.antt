-- vstd's places in text (utf8.rs, "Partial UTF-8 sequences" and "Reasoning about character boundaries"), each item under its name.
use Rattle.std.specs.Prelude.{ℕ, zero, suc, ◌-◌, ◌≤◌, List, length, take}
use Rattle.vstd_text.specs.Decoding.{ValidUtf8, length_of_first_scalar, pop_first_scalar}

abbrev pub PartialValidUtf8 : List ℕ → ℕ → Type 0
PartialValidUtf8 bytes i = (i ≤ length bytes) × ValidUtf8 (take i bytes)

-- vstd's recursion on the length, in valid text, by a bound on the steps that the length always meets (proofs/Places.antt has vstd's own equation);
-- a place before the start, as index - length_of_first_scalar(bytes) may be for vstd, is none
abbrev pub BoundaryIn : ℕ → List ℕ → ℕ → Type 0
BoundaryIn zero bytes zero = Unit {0}
BoundaryIn zero bytes (suc i) = ⊥
BoundaryIn (suc n) bytes zero = Unit {0}
BoundaryIn (suc n) bytes (suc i) =
    (suc i ≤ length bytes) × ((length_of_first_scalar bytes ≤ suc i) × BoundaryIn n (pop_first_scalar bytes) (suc i - length_of_first_scalar bytes))

abbrev pub IsCharBoundary : List ℕ → ℕ → Type 0
IsCharBoundary bytes index = BoundaryIn (length bytes) bytes index
