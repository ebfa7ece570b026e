use Rattle.std.proofs.Common.{◌∙◌, ap, eqb, cond, Some, arith}
use Rattle.r4_atoms.specs.Owned.{label_of, Owned}
use Rattle.r4_atoms.proofs.OwnedLaws.{labels_changed, length-forgotten, grown, on_ok_at}
use Rattle.r4_atoms.proofs.owners.Owners.set.Goals as goal

pub invariant_of-self : goal.invariant_of-self
invariant_of-self c =
    let i = c.self.inside in
    let s = ap (λ (o : Owned). o.spare) c.self.view_is in
    let less = length-forgotten c.args.node i.moved.items in
    let place = c.insert.ensures.succeeds (omega (arith, c.requires, c.self.invariant.table)) in
    let more = grown _ _ _ c.insert.ensures.len place in
    rw c.forget.ensures.items record {
      table = omega (arith, c.insert.ensures.spare, c.self.invariant.table);
      moves = omega (arith, c.requires, c.forget.ensures.capacity, c.self.invariant.moves);
    }

pub returns-clause-entries : goal.returns-clause-entries
returns-clause-entries c n =
    let i = c.self.inside in
    let s = ap (λ (o : Owned). o.spare) c.self.view_is in
    let place = c.insert.ensures.succeeds (omega (arith, c.requires, c.self.invariant.table)) in
    let updates = on_ok_at _ place c.insert.ensures.updates in
    rw c.forget.ensures.items (labels_changed c.args.node (Some c.args.label) i.table.entries c.insert.new.self.entries i.moved.items updates.0 n ∙ ap (λ (o : Owned). cond (eqb c.args.node n) (Some c.args.label) (label_of n o.entries)) c.self.view_is)
