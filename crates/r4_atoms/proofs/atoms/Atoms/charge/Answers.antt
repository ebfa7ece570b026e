use Rattle.std.proofs.Common.{arith}
use Rattle.r4_atoms.proofs.AtomLaws.{begun_within}
use Rattle.r4_atoms.proofs.atoms.Atoms.charge.Goals as goal

pub index_mut-requires : goal.index_mut-requires
index_mut-requires c =
    let within = begun_within _ _ _ _ _ _ _ c.self.invariant.0 _ c.self.view_is c.args.atom.0 c.requires.begun in
    omega (arith, c.self.invariant.0.same_states, c.self.inside.states.ok)
