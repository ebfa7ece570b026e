use Rattle.std.proofs.Common.{◌≤◌, ◌∙◌, ap, eqb, cond, None, arith, hash_map_len}
use Rattle.r4_atoms.specs.Owned.{label_of, Owned}
use Rattle.r4_atoms.proofs.OwnedLaws.{labels_changed, length-forgotten}
use Rattle.r4_atoms.proofs.owners.Owners.remove.Goals as goal

pub invariant_of-self : goal.invariant_of-self
invariant_of-self c =
    let i = c.self.inside in
    let less = length-forgotten c.args.node i.moved.items in
    let e = c.remove.ensures in
    let fewer : hash_map_len c.remove.new.self ≤ hash_map_len i.table = omega (arith, e.len) in
    rw c.forget.ensures.items record { table = omega (arith, e.spare, c.self.invariant.table); moves = omega (arith, c.forget.ensures.capacity, c.self.invariant.moves) }

pub returns-clause-entries : goal.returns-clause-entries
returns-clause-entries c n =
    let i = c.self.inside in
    rw c.forget.ensures.items (labels_changed c.args.node None i.table.entries c.remove.new.self.entries i.moved.items c.remove.ensures.updates.0 n ∙ ap (λ (o : Owned). cond (eqb c.args.node n) None (label_of n o.entries)) c.self.view_is)
