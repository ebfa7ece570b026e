use Rattle.std.proofs.Common.{arith}
use Rattle.r4_atoms.proofs.AtomLaws.{length-seen}
use Rattle.r4_atoms.proofs.atoms.Atoms.begun.Goals as goal

pub returns : goal.returns
returns c =
    let e = length-seen _ _ _ _ _ _ _ c.self.invariant.0 _ c.self.view_is in
    omega (arith, c.len.ensures, c.self.invariant.0.same_rows, c.self.invariant.0.few, c.self.inside.rows.ok)
