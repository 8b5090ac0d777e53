-- What reading one scalar answers, as the code has it (theory_text's ReadIs has it with a flag): `Is c` says that c is the one asked for.
use Rattle.std.specs.Prelude.{ℕ, ◌≡◌, Option, Some, None}
use Rattle.theory_text.specs.Scalar.{len}
use Rattle.text_read.specs.declared.Read.{Read}

abbrev pub Reads : (ℕ → Type 0) → Option Read → Type 0
Reads Is None = (c : ℕ) → Is c → ⊥
Reads Is (Some r) = Is r.value × (r.length ≡ len r.value)
