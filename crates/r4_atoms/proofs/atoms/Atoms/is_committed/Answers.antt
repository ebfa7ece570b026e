use Rattle.std.proofs.Common.{◌-◌, ◌<◌, ◌∙◌, sym, ap, length, arith}
use Rattle.std.proofs.lemmas.List.{get_or_read}
use Rattle.r4_atoms.specs.declared.things.AtomState.{AtomState}
use Rattle.r4_atoms.specs.Atoms.{new_atom}
use Rattle.r4_atoms.proofs.AtomLaws.{begun_within, state_is}
use Rattle.r4_atoms.proofs.atoms.Atoms.is_committed.Goals as goal

pub index-requires : goal.index-requires
index-requires c =
    let within = begun_within _ _ _ _ _ _ _ c.self.invariant.0 _ c.self.view_is c.args.atom.0 c.requires.begun in
    omega (arith, c.self.invariant.0.same_states, c.self.inside.states.ok)

pub returns : goal.returns
returns c =
    let within = begun_within _ _ _ _ _ _ _ c.self.invariant.0 _ c.self.view_is c.args.atom.0 c.requires.begun in
    let inside : c.args.atom.0 - 1 < length c.self.inside.states.items = omega (arith, c.self.invariant.0.same_states) in
    ap (λ (a : AtomState). a.committed) (get_or_read c.self.inside.states.items (c.args.atom.0 - 1) c.index.result.now inside c.index.ensures new_atom ∙ sym (state_is _ _ _ _ _ _ _ c.self.invariant.0 _ c.self.view_is c.args.atom.0))
