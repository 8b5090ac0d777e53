-- What reading one scalar answers.
use mathlib.Core.Path.{◌≡◌}
use mathlib.Core.Bool.{Bool, true, false, true≢false, false≢true}
use Prim.Native.Nat.{ℕ}
use Rattle.std.specs.Prelude.{Option, Some, None, MatchOption}
use Rattle.theory_text.specs.Text.{ReadIs}
use Rattle.text_read.specs.declared.Read.{Read}
use Rattle.text_read.specs.Reads.{Reads}

-- asked of a part that is there
pub within_reads : {Q : Type 0} (Is : ℕ → Type 0) (o : Option Read) → Q → Reads Is o → Reads (λ c. Q × Is c) o
within_reads Is None q n = λ c p. n c p.1
within_reads Is (Some r) q f = ((q, f.0), f.1)

-- a flag with both numbers says the same
pub reads_flagged : (Is : ℕ → Type 0) (ok : Bool) (value length : ℕ) (o : Option Read) → Reads Is o
    → MatchOption o ((ok ≡ false) × ((value ≡ 0) × (length ≡ 0))) (λ r. (ok ≡ true) × ((value ≡ r.value) × (length ≡ r.length)))
    → ReadIs Is ok value length
reads_flagged Is true value length None n f = absurd (true≢false f.0)
reads_flagged Is false value length None n f = record { asked = λ p. n p.0 p.1; given = f.1 }
reads_flagged Is true value length (Some r) p f = record { asked = (r.value, p.0); given = rw (f.1.0, f.1.1) p }
reads_flagged Is false value length (Some r) p f = absurd (false≢true f.0)
