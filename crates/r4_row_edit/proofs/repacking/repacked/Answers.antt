use Rattle.std.proofs.Common.{◌∙◌, ◌≤◌, ℕ, suc, ap, arith, length, map, subst, sym}
use Rattle.std.specs.Arc.{arc_value}
use Rattle.std.proofs.lemmas.Result.{IfOk-weaker}
use Rattle.r4_base.specs.Key.{rank}
use Rattle.r4_base.specs.Node.{mkfs_id_of}
use Rattle.r4_cell.specs.Seen.{CellSeen}
use Rattle.r4_patch.specs.Joining.{ids_of}
use Rattle.r4_squeeze.proofs.Adding.{length_meant}
use Rattle.r4_squeeze.proofs.Cells.{nodes_level}
use Rattle.r4_squeeze.proofs.PackedLeft.{long_cells}
use Rattle.r4_squeeze.proofs.TwigSlums.{first_id, first_level_is, last_hi}
use Rattle.r4_squeeze.specs.Items.{items_meant}
use Rattle.r4_squeeze.specs.Packing.{ArePointers, MayStandAll, cells_filled, numbers}
use Rattle.r4_row_edit.proofs.Packed.{new_few, new_points, new_some, new_stand, packs_over, repacked_is}
use Rattle.r4_row_edit.specs.Numbers.{TakesNumbers}
use Rattle.r4_row_edit.proofs.repacking.repacked.Goals as goal

pub pack_nodes-requires-clause-level : goal.pack_nodes-requires-clause-level
pack_nodes-requires-clause-level c =
    let (l, s) = c.requires.over in
    let low = s.low in
    subst (λ (k : ℕ). (3 ≤ k) × (k ≤ 8)) (sym (c.level.ensures ∙ ap (λ (x : CellSeen). x.level) c.deref-2.ensures))
    (nodes_level arc_value c.args.row.now c.index-row-0.result (suc l) s.from s.to (omega (arith, low)) s.some
    c.index-row-0.is s.along c.in_ok-items.ensures.sound)

pub pack_nodes-requires-clause-some : goal.pack_nodes-requires-clause-some
pack_nodes-requires-clause-some c =
    let (l, s) = c.requires.over in
    let some = new_some l (map arc_value c.args.gone.now) (map arc_value c.args.row.now) (map arc_value c.args.come.now) s
    c.requires.come c.in_ok-items.ensures.sound in
    let same = ap length (ap items_meant c.as_slice.ensures.value ∙ c.in_ok-items.ensures.items l s) in
    let long = length_meant c.as_slice.result.now in
    omega (arith, some, same, long)

pub pack_nodes-requires-clause-pointers : goal.pack_nodes-requires-clause-pointers
pack_nodes-requires-clause-pointers c =
    let (l, s) = c.requires.over in
    let level = c.level.ensures ∙ (ap (λ (x : CellSeen). x.level) c.deref-2.ensures
    ∙ first_level_is arc_value (suc l) s.from s.to c.args.row.now c.index-row-0.result c.index-row-0.is s.along s.some) in (
      s.to,
      subst (λ k. ArePointers k s.to (items_meant c.as_slice.result.now)) (sym level)
          (subst (ArePointers (suc l) s.to)
          (sym (ap items_meant c.as_slice.ensures.value ∙ c.in_ok-items.ensures.items l s))
          (new_points l (map arc_value c.args.gone.now) (map arc_value c.args.row.now) (map arc_value c.args.come.now) s
          c.requires.come c.in_ok-items.ensures.sound)),
    )

pub numbers_for-requires : goal.numbers_for-requires
numbers_for-requires c =
    let (l, s) = c.requires.over in
    let gone = map arc_value c.args.gone.now in
    let row = map arc_value c.args.row.now in
    let come = map arc_value c.args.come.now in
    let level = c.level.ensures ∙ (ap (λ (x : CellSeen). x.level) c.deref-2.ensures
    ∙ first_level_is arc_value (suc l) s.from s.to c.args.row.now c.index-row-0.result c.index-row-0.is s.along s.some) in
    let packs = packs_over l gone row come s c.requires.come c.in_ok-items.ensures.sound c.level.result
    c.get32-mkfs_id.result (items_meant c.as_slice.result.now) c.new-filled.result.items c.pack_nodes.new.filled.items
    level (ap items_meant c.as_slice.ensures.value ∙ c.in_ok-items.ensures.items l s) c.new-filled.ensures.items
    c.in_ok-pack_nodes.ensures in
    let few = new_few l gone row come s c.requires.come c.in_ok-items.ensures.sound c.get32-mkfs_id.result
    c.pack_nodes.new.filled.items packs in
    let many = c.len.ensures in
    let rows = long_cells arc_value c.args.row.now in
    let comes = long_cells arc_value c.args.come.now in
    let went = long_cells arc_value c.args.gone.now in
    let room = c.requires.fresh in
    omega (arith, few, many, rows, comes, went, room)

pub numbered-requires-clause-stand : goal.numbered-requires-clause-stand
numbered-requires-clause-stand c =
    let (l, s) = c.requires.over in
    let gone = map arc_value c.args.gone.now in
    let row = map arc_value c.args.row.now in
    let come = map arc_value c.args.come.now in
    let level = c.level.ensures ∙ (ap (λ (x : CellSeen). x.level) c.deref-2.ensures
    ∙ first_level_is arc_value (suc l) s.from s.to c.args.row.now c.index-row-0.result c.index-row-0.is s.along s.some) in
    let level-2 = c.level-2.ensures ∙ (ap (λ (x : CellSeen). x.level) c.deref-3.ensures
    ∙ first_level_is arc_value (suc l) s.from s.to c.args.row.now c.index-row-0.result c.index-row-0.is s.along s.some) in
    let packs = packs_over l gone row come s c.requires.come c.in_ok-items.ensures.sound c.level.result
    c.get32-mkfs_id.result (items_meant c.as_slice.result.now) c.new-filled.result.items c.pack_nodes.new.filled.items
    level (ap items_meant c.as_slice.ensures.value ∙ c.in_ok-items.ensures.items l s) c.new-filled.ensures.items
    c.in_ok-pack_nodes.ensures in
    let end = ap rank (c.hi.ensures ∙ ap (λ (x : CellSeen). x.hi) c.deref-4.ensures)
    ∙ last_hi arc_value (suc l) s.from s.to c.args.row.now c.index-row-row.result c.index-row-row.is s.along s.some in
    subst (λ k. MayStandAll k (rank c.hi.result) c.pack_nodes.new.filled.items) (sym level-2)
    (new_stand l gone row come s c.requires.come c.in_ok-items.ensures.sound c.get32-mkfs_id.result
    c.pack_nodes.new.filled.items packs (rank c.hi.result) end)

pub returns : goal.returns
returns c =
    let gone = map arc_value c.args.gone.now in
    let row = map arc_value c.args.row.now in
    let come = map arc_value c.args.come.now in
    IfOk-weaker c.numbered.result _ _ (λ v is. λ l s.
    let level = c.level.ensures ∙ (ap (λ (x : CellSeen). x.level) c.deref-2.ensures
    ∙ first_level_is arc_value (suc l) s.from s.to c.args.row.now c.index-row-0.result c.index-row-0.is s.along
    s.some) in
    let level-2 = c.level-2.ensures ∙ (ap (λ (x : CellSeen). x.level) c.deref-3.ensures
    ∙ first_level_is arc_value (suc l) s.from s.to c.args.row.now c.index-row-0.result c.index-row-0.is s.along
    s.some) in
    let packs = packs_over l gone row come s c.requires.come c.in_ok-items.ensures.sound c.level.result
    c.get32-mkfs_id.result (items_meant c.as_slice.result.now) c.new-filled.result.items
    c.pack_nodes.new.filled.items level
    (ap items_meant c.as_slice.ensures.value ∙ c.in_ok-items.ensures.items l s) c.new-filled.ensures.items
    c.in_ok-pack_nodes.ensures in
    let end = ap rank (c.hi.ensures ∙ ap (λ (x : CellSeen). x.hi) c.deref-4.ensures)
    ∙ last_hi arc_value (suc l) s.from s.to c.args.row.now c.index-row-row.result c.index-row-row.is s.along s.some in
    let same_id = c.get32-mkfs_id.ensures
    ∙ (ap mkfs_id_of (c.bytes.ensures.value ∙ (c.block.ensures ∙ ap (λ (x : CellSeen). x.block) c.deref.ensures))
    ∙ first_id arc_value (suc l) s.from s.to c.args.row.now c.index-row-0.result c.index-row-0.is s.along s.some) in
    repacked_is l gone row come s c.requires.come c.in_ok-items.ensures.sound c.get32-mkfs_id.result
    c.pack_nodes.new.filled.items packs same_id c.args.fresh.now c.numbers_for.new.fresh
    (numbers c.in_ok-ids.ids.items)
    (subst (λ k. TakesNumbers (ids_of row) k c.args.fresh.now c.numbers_for.new.fresh (numbers c.in_ok-ids.ids.items))
    (let long = c.pack_nodes.new.filled.ok in let many = c.len.ensures in omega (arith, long, many)) c.in_ok-ids.ensures) c.hi.result end (map arc_value v.items)
    (is ∙ (ap (λ k. cells_filled k (numbers c.as_slice-2.result.now) c.hi.result c.pack_nodes.new.filled.items) level-2
    ∙ ap (λ ns. cells_filled (suc l) ns c.hi.result c.pack_nodes.new.filled.items)
    (ap numbers c.as_slice-2.ensures.value)))) c.numbered.ensures
