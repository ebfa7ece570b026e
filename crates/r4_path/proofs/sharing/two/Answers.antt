use Rattle.std.proofs.Common.{◌≡◌, ◌∙◌, ap, sym, subst, refl, length, List}
use Rattle.std.proofs.lemmas.Result.{IfOk-weaker}
use Rattle.std.specs.Arc.{arc_value}
use Rattle.r4_base.specs.Node.{mkfs_id_of}
use Rattle.r4_patch.specs.r4_cell.Seen.{CellSeen}
use Rattle.r4_path.specs.Nodes.{IsNodeOf}
use Rattle.r4_path.specs.Rows.{row_items, row_level, row_part}
use Rattle.r4_path.specs.Sharing.{AreFilled, AreSome, HasItems}
use Rattle.r4_path.proofs.Shared.{left_sound, right_sound, two_filled, two_has, two_some}
use Rattle.r4_path.proofs.sharing.two.Goals as goal

pub new_cell-requires : goal.new_cell-requires
new_cell-requires c = left_sound c.args.old.now c.args.row.now c.requires.row c.cut-cut.result c.key-key.result c.cut-cut.ensures.some c.cut-cut.ensures.below c.key-key.ensures c.level.result c.lo.result c.in_ok-left.left c.level.ensures c.lo.ensures c.in_ok-left.ensures.node

pub new_cell-requires-2 : goal.new_cell-requires-2
new_cell-requires-2 c =
    right_sound c.args.old.now c.args.row.now c.requires.row c.cut-cut.result c.key-key.result c.cut-cut.ensures.some c.cut-cut.ensures.below c.key-key.ensures c.level-2.result c.hi.result c.in_ok-right.right c.level-2.ensures c.hi.ensures
    (subst (λ n. IsNodeOf (row_level c.args.row.now)
    (row_part c.args.row.now c.cut-cut.result n) c.in_ok-right.right) c.len.ensures c.in_ok-right.ensures.node)

pub returns-clause-cells : goal.returns-clause-cells
returns-clause-cells c =
    let a = c.in_ok-left-2.ensures in
    let b = c.in_ok-right-2.ensures in
    let left = arc_value c.in_ok-left-2.left in
    let right = arc_value c.in_ok-right-2.right in
    IfOk-weaker c.pair.result _ _ (λ cells is.
    subst (λ (xs : List CellSeen). HasItems c.args.old.now (row_items c.args.row.now) c.args.fresh.now.next xs
    × (length xs ≡ 2)) (sym is) (
      two_has c.args.old.now c.args.row.now c.requires.row c.cut-cut.result c.key-key.result c.cut-cut.ensures.some c.cut-cut.ensures.below c.key-key.ensures c.args.fresh.now.next left right
          (ap (λ (s : CellSeen). s.id) a ∙ c.id.ensures) (ap (λ (s : CellSeen). s.id) b ∙ c.take_number.ensures.number)
          (ap (λ (s : CellSeen). s.level) a ∙ c.level.ensures) (ap (λ (s : CellSeen). s.level) b ∙ c.level-2.ensures)
          (ap (λ (s : CellSeen). s.lo) a ∙ c.lo.ensures) (ap (λ (s : CellSeen). s.hi) a) (ap (λ (s : CellSeen). s.lo) b)
          (ap (λ (s : CellSeen). s.hi) b ∙ c.hi.ensures)
          (subst (IsNodeOf (row_level c.args.row.now) (row_part c.args.row.now 0 c.cut-cut.result))
          (sym (ap (λ (s : CellSeen). s.block) a)) c.in_ok-left.ensures.node)
          (subst (IsNodeOf (row_level c.args.row.now)
          (row_part c.args.row.now c.cut-cut.result (length (row_items c.args.row.now))))
          (sym (ap (λ (s : CellSeen). s.block) b))
          (subst (λ n. IsNodeOf (row_level c.args.row.now)
          (row_part c.args.row.now c.cut-cut.result n) c.in_ok-right.right) c.len.ensures c.in_ok-right.ensures.node))
          (ap (λ (s : CellSeen). mkfs_id_of s.block) a ∙ c.in_ok-left.ensures.mkfs_id)
          (ap (λ (s : CellSeen). mkfs_id_of s.block) b ∙ c.in_ok-right.ensures.mkfs_id),
      refl,
    )) c.pair.ensures

pub returns-clause-filled : goal.returns-clause-filled
returns-clause-filled c =
    let a = c.in_ok-left-2.ensures in
    let b = c.in_ok-right-2.ensures in
    IfOk-weaker c.pair.result _ _ (λ cells is high over.
    subst AreFilled (sym is)
    (two_filled c.args.old.now c.args.row.now c.requires.row c.cut-cut.result c.cut-cut.ensures
    (arc_value c.in_ok-left-2.left) (arc_value c.in_ok-right-2.right)
    (subst (IsNodeOf (row_level c.args.row.now) (row_part c.args.row.now 0 c.cut-cut.result))
    (sym (ap (λ (s : CellSeen). s.block) a)) c.in_ok-left.ensures.node)
    (subst (IsNodeOf (row_level c.args.row.now)
    (row_part c.args.row.now c.cut-cut.result (length (row_items c.args.row.now)))) (sym (ap (λ (s : CellSeen). s.block) b))
    (subst (λ n. IsNodeOf (row_level c.args.row.now)
    (row_part c.args.row.now c.cut-cut.result n) c.in_ok-right.right) c.len.ensures c.in_ok-right.ensures.node)) high over)) c.pair.ensures

pub returns-clause-some : goal.returns-clause-some
returns-clause-some c =
    let a = c.in_ok-left-2.ensures in
    let b = c.in_ok-right-2.ensures in
    IfOk-weaker c.pair.result _ _ (λ cells is.
    subst AreSome (sym is)
    (two_some c.args.row.now c.cut-cut.result c.cut-cut.ensures.some c.cut-cut.ensures.below
    (arc_value c.in_ok-left-2.left) (arc_value c.in_ok-right-2.right)
    (subst (IsNodeOf (row_level c.args.row.now) (row_part c.args.row.now 0 c.cut-cut.result))
    (sym (ap (λ (s : CellSeen). s.block) a)) c.in_ok-left.ensures.node)
    (subst (IsNodeOf (row_level c.args.row.now)
    (row_part c.args.row.now c.cut-cut.result (length (row_items c.args.row.now)))) (sym (ap (λ (s : CellSeen). s.block) b))
    (subst (λ n. IsNodeOf (row_level c.args.row.now)
    (row_part c.args.row.now c.cut-cut.result n) c.in_ok-right.right) c.len.ensures c.in_ok-right.ensures.node)))) c.pair.ensures
