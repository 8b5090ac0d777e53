use mathlib.Core.Path.{◌≡◌}
use Prim.Native.Nat.{ℕ}
use Rattle.theory_answers.proofs.Flag.{matched_outcome}
use Rattle.vstd_text.proofs.Promised.{split_at_promised}
use Rattle.parts.specs.declared.Part.{Part}
use Rattle.promisebook_text.proofs.pb_text_split_at.Goals as goal

pub returns : goal.returns
returns c =
    let a = c.args in
    let r = c.into.result in
    split_at_promised a.s.now a.at
    (matched_outcome r.ok (λ (p : Part × Part). (r.middle ≡ p.0.to) × (r.end ≡ p.1.to)) c.split_at.result c.split_at.ensures c.into.ensures)
