use Rattle.std.proofs.Common.{sym}
use Rattle.r4_atoms.proofs.AtomLaws.{atom_is, begun_within}
use Rattle.r4_atoms.proofs.atoms.Atoms.atom.Goals as goal

pub name-requires : goal.name-requires
name-requires c = begun_within _ _ _ _ _ _ _ c.self.invariant.0 _ c.self.view_is c.args.txn.0 c.requires

pub returns : goal.returns
returns c = rw c.name.ensures (sym (atom_is _ _ _ _ _ _ _ c.self.invariant.0 _ c.self.view_is c.args.txn.0 c.requires))
