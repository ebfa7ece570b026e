use Rattle.std.proofs.Common.{◌<◌, ◌∙◌, ap, sym, subst, length}
use Rattle.std.specs.Arc.{arc_value}
use Rattle.r4_base.specs.Node.{items_of}
use Rattle.r4_path.specs.r4_cell.Seen.{CellSeen}
use Rattle.r4_edit.proofs.HalvedLeaf.{one_item, unit_count_leaf}
use Rattle.r4_edit.proofs.splitting.part.Goals as goal

pub part_item-requires-clause-one : goal.part_item-requires-clause-one
part_item-requires-clause-one c =
    let cell = arc_value c.args.cell.now in
    let level = sym (c.level.ensures ∙ ap (λ (x : CellSeen). x.level) c.deref-2.ensures) ∙ c.if-level-eq-LEAF.true in
    let count = ap length (c.node.ensures.items ∙ ap (λ (x : CellSeen). items_of x.block) c.deref.ensures) in
    one_item cell level (unit_count_leaf cell level c.requires.two)
    (subst (λ n. n < 2) (c.len.ensures ∙ count) c.if-len-ge2.false)
