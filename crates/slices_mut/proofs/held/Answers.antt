use native.Mathlib.Omega.{arith}
use lib.ListN.{replicate}
use Rattle.theory_lists.proofs.Lent.{written_front}
use Rattle.theory_answers.proofs.Says.{ok_where, refused_where}
use Rattle.slices_mut.proofs.held.Goals as goal

pub returns : goal.returns
returns c =
    let s = c.args.s.now in (
      λ h. written_front (replicate 64 0) s (ok_where c.put.ensures (record { ordered = omega arith; ends = omega (arith, h) }, omega arith)).1 (omega (arith, h)),
      λ h. (refused_where c.put.ensures (λ p. omega (arith, h, p.0.ends))).1,
    )
