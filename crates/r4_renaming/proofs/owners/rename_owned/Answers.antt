use Rattle.std.proofs.Common.{◌<◌, ◌^◌, ◌&&◌, ℕ, Option, None, cond, length, get_or, ap, ◌∙◌, arith}
use Rattle.std.specs.Prelude.{nat_le}
use Rattle.std.proofs.lemmas.List.Elements.{Contains-get_or}
use Rattle.r4_renaming.specs.Steps.{has_node}
use Rattle.r4_renaming.proofs.Owning.{new_placed, owners_all}
use Rattle.r4_renaming.proofs.owners.rename_owned.Goals as goal

pub drop_unplaced-requires-clause-placed : goal.drop_unplaced-requires-clause-placed
drop_unplaced-requires-clause-placed g c =
    let (r, (k, within, at)) = c.requires.0 in
    let some : 0 < length c.args.renamed.now = omega (arith, within) in
    let low = new_placed c.args.atoms.now c.args.renamed.now c.requires.1.1.1.0
    (get_or c.args.renamed.now 0 c.index-renamed-0.result)
    (Contains-get_or c.args.renamed.now 0 c.index-renamed-0.result some) in
    let named = c.id.ensures ∙ ap (λ x. x.id) c.deref.ensures in
    omega (arith, low, named)

pub returns-clause-owners : goal.returns-clause-owners
returns-clause-owners g c = λ i.
    c.drop_unplaced.ensures.owners i
    ∙ ap (λ (o : Option ℕ). cond (nat_le (2 ^ 63) i && has_node c.args.owned.now i) None o)
    (c.rename_nodes.ensures.owners i)
    ∙ owners_all g.atom c.args.renamed.now c.args.atoms.now c.requires.1.1.0 c.requires.1.1.1.0 c.args.owned.now
    c.requires.1.1.1.1 i
