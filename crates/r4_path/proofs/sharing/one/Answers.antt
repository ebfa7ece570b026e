use Rattle.std.proofs.Common.{◌≡◌, ◌∙◌, ap, sym, subst, refl, length, List}
use Rattle.std.proofs.lemmas.Result.{IfOk-weaker}
use Rattle.std.specs.Arc.{arc_value}
use Rattle.r4_base.specs.Node.{Item, mkfs_id_of}
use Rattle.r4_patch.specs.r4_cell.Seen.{CellSeen}
use Rattle.r4_path.specs.Nodes.{IsNodeOf}
use Rattle.r4_path.specs.Rows.{row_items, row_level, row_part}
use Rattle.r4_path.specs.Sharing.{HasItems}
use Rattle.r4_path.proofs.Shared.{one_has, one_sound, whole_part}
use Rattle.r4_path.proofs.sharing.one.Goals as goal

pub new_cell-requires : goal.new_cell-requires
new_cell-requires c =
    let w = c.args.row.now in
    let node = subst (λ (items : List Item). IsNodeOf (row_level w) items c.in_ok-block.block)
    (ap (row_part w 0) c.len.ensures ∙ whole_part c.args.old.now w c.requires.row) c.in_ok-block.ensures.node in
    one_sound c.args.old.now w c.requires.row c.level.result c.lo.result c.hi.result c.in_ok-block.block c.level.ensures c.lo.ensures c.hi.ensures node

pub returns : goal.returns
returns c =
    let w = c.args.row.now in
    let a = c.in_ok-cell.ensures in
    let node = subst (λ (items : List Item). IsNodeOf (row_level w) items c.in_ok-block.block)
    (ap (row_part w 0) c.len.ensures ∙ whole_part c.args.old.now w c.requires.row) c.in_ok-block.ensures.node in
    IfOk-weaker c.single.result _ _ (λ cells is next.
    subst (λ (xs : List CellSeen). HasItems c.args.old.now (row_items w) next xs × (length xs ≡ 1)) (sym is) (
      one_has c.args.old.now w c.requires.row (arc_value c.in_ok-cell.cell) (ap (λ (s : CellSeen). s.id) a ∙ c.id.ensures)
          (ap (λ (s : CellSeen). s.level) a ∙ c.level.ensures) (ap (λ (s : CellSeen). s.lo) a ∙ c.lo.ensures)
          (ap (λ (s : CellSeen). s.hi) a ∙ c.hi.ensures)
          (subst (IsNodeOf (row_level w) (row_items w)) (sym (ap (λ (s : CellSeen). s.block) a)) node)
          (ap (λ (s : CellSeen). mkfs_id_of s.block) a ∙ c.in_ok-block.ensures.mkfs_id) next,
      refl,
    )) c.single.ensures
