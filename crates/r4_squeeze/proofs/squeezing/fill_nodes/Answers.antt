use Rattle.std.proofs.Common.{◌∙◌, ◌≤◌, ℕ, ap, arith, length, map, subst, sym}
use Rattle.std.specs.Arc.{arc_value}
use Rattle.r4_base.specs.Node.{mkfs_id_of}
use Rattle.r4_cell.specs.Seen.{CellSeen}
use Rattle.r4_path.specs.Sharing.{items_of_cells}
use Rattle.r4_squeeze.specs.Items.{items_meant}
use Rattle.r4_squeeze.specs.Packing.{ArePointers, first_mkfs_id}
use Rattle.r4_squeeze.proofs.Adding.{length_meant}
use Rattle.r4_squeeze.proofs.Cells.{first_level, nodes_level, nodes_packed, nodes_point, nodes_some}
use Rattle.r4_squeeze.proofs.TwigSlums.{first_id}
use Rattle.r4_squeeze.proofs.squeezing.fill_nodes.Goals as goal

pub pack_nodes-requires-clause-level : goal.pack_nodes-requires-clause-level
pack_nodes-requires-clause-level c =
    let (level, more) = c.requires in
    let (from, ends) = more in
    let (to, both) = ends in
    subst (λ (l : ℕ). (3 ≤ l) × (l ≤ 8)) (sym (c.level.ensures ∙ ap (λ (x : CellSeen). x.level) c.deref-2.ensures))
    (nodes_level arc_value c.args.slum.now c.index-slum-0.result level from to both.1 both.0.some c.index-slum-0.is
    both.0.follow c.in_ok-items.ensures.sound)

pub pack_nodes-requires-clause-some : goal.pack_nodes-requires-clause-some
pack_nodes-requires-clause-some c =
    let (level, more) = c.requires in
    let (from, ends) = more in
    let (to, both) = ends in
    let some = nodes_some arc_value c.args.slum.now c.index-slum-0.result level from to both.1 both.0.some
    c.index-slum-0.is both.0.follow c.in_ok-items.ensures.sound in
    let same = ap length (ap items_meant c.as_slice.ensures.value ∙ c.in_ok-items.ensures.items) in
    let long = length_meant c.as_slice.result.now in
    omega (arith, some, same, long)

pub pack_nodes-requires-clause-pointers : goal.pack_nodes-requires-clause-pointers
pack_nodes-requires-clause-pointers c =
    let (level, more) = c.requires in
    let (from, ends) = more in
    let (to, both) = ends in (
      to,
      subst (λ l. ArePointers l to (items_meant c.as_slice.result.now))
          (sym (c.level.ensures ∙ ap (λ (x : CellSeen). x.level) c.deref-2.ensures))
          (subst (ArePointers (arc_value c.index-slum-0.result).level to)
          (sym (ap items_meant c.as_slice.ensures.value ∙ c.in_ok-items.ensures.items))
          (nodes_point arc_value c.args.slum.now c.index-slum-0.result level from to both.1 both.0.some
          c.index-slum-0.is both.0.follow c.in_ok-items.ensures.sound)),
    )

pub returns-clause-packs : goal.returns-clause-packs
returns-clause-packs c = λ level from to beside high.
    let same_level = c.level.ensures ∙ ap (λ (x : CellSeen). x.level) c.deref-2.ensures in
    let same = ap items_meant c.as_slice.ensures.value ∙ c.in_ok-items.ensures.items in
    nodes_packed c.level.result c.get32-mkfs_id.result level (first_mkfs_id (map arc_value c.args.slum.now))
    (items_meant c.as_slice.result.now) (items_of_cells (map arc_value c.args.slum.now))
    c.new-filled.result.items c.pack_nodes.new.filled.items
    (c.in_ok-pack_nodes.ensures to
    (subst (λ l. ArePointers l to (items_meant c.as_slice.result.now)) (sym same_level)
    (subst (ArePointers (arc_value c.index-slum-0.result).level to) (sym same)
    (nodes_point arc_value c.args.slum.now c.index-slum-0.result level from to high beside.some
    c.index-slum-0.is beside.follow c.in_ok-items.ensures.sound))))
    c.new-filled.ensures.items
    (same_level ∙ first_level arc_value c.args.slum.now c.index-slum-0.result level from to high beside.some
    c.index-slum-0.is beside.follow c.in_ok-items.ensures.sound)
    (c.get32-mkfs_id.ensures ∙ (ap mkfs_id_of (c.bytes.ensures.value ∙ (c.block.ensures
    ∙ ap (λ (x : CellSeen). x.block) c.deref.ensures))
    ∙ first_id arc_value level from to c.args.slum.now c.index-slum-0.result c.index-slum-0.is beside.follow beside.some))
    same
