use Rattle.std.proofs.Common.{◌∙◌, ap, map, refl, sym}
use Rattle.std.specs.Arc.{arc_value}
use Rattle.r4_base.specs.Node.{mkfs_id_of}
use Rattle.r4_path.specs.r4_cell.Seen.{CellSeen}
use Rattle.r4_edit.proofs.Parting.{lent_parted, lent_row, lent_two}
use Rattle.r4_edit.proofs.splitting.part_items.Goals as goal

pub two-requires-clause-row : goal.two-requires-clause-row
two-requires-clause-row c = lent_row (arc_value c.args.cell.now) c.deref.result.now c.deref-3.result.now
    (record { node = c.node.result; mkfs_id = c.get32.result; at = 0; more = c.no_cells.result }) (record {
      p_is = c.deref.ensures;
      q_is = c.deref-3.ensures;
      view = c.node.ensures.block;
      whole = c.node.ensures.whole;
      accepted = c.node.ensures.stands;
      mkfs_id = c.get32.ensures ∙ ap mkfs_id_of (c.bytes.ensures.value ∙ (c.block.ensures ∙ ap (λ (x : CellSeen). x.block) (c.deref-2.ensures ∙ sym c.deref.ensures)));
      at_zero = refl;
      none_come = ap (λ xs. map arc_value xs) c.no_cells.ensures;
      tree_node = c.requires.node;
      low = c.requires.low;
      two = c.requires.two;
    })

pub two-requires-clause-two : goal.two-requires-clause-two
two-requires-clause-two c = lent_two (arc_value c.args.cell.now) c.deref.result.now c.deref-3.result.now
    (record { node = c.node.result; mkfs_id = c.get32.result; at = 0; more = c.no_cells.result }) (record {
      p_is = c.deref.ensures;
      q_is = c.deref-3.ensures;
      view = c.node.ensures.block;
      whole = c.node.ensures.whole;
      accepted = c.node.ensures.stands;
      mkfs_id = c.get32.ensures ∙ ap mkfs_id_of (c.bytes.ensures.value ∙ (c.block.ensures ∙ ap (λ (x : CellSeen). x.block) (c.deref-2.ensures ∙ sym c.deref.ensures)));
      at_zero = refl;
      none_come = ap (λ xs. map arc_value xs) c.no_cells.ensures;
      tree_node = c.requires.node;
      low = c.requires.low;
      two = c.requires.two;
    })

pub returns-clause-parted : goal.returns-clause-parted
returns-clause-parted c = lent_parted (arc_value c.args.cell.now) c.deref.result.now c.deref-3.result.now
    (record { node = c.node.result; mkfs_id = c.get32.result; at = 0; more = c.no_cells.result }) (record {
      p_is = c.deref.ensures;
      q_is = c.deref-3.ensures;
      view = c.node.ensures.block;
      whole = c.node.ensures.whole;
      accepted = c.node.ensures.stands;
      mkfs_id = c.get32.ensures ∙ ap mkfs_id_of (c.bytes.ensures.value ∙ (c.block.ensures ∙ ap (λ (x : CellSeen). x.block) (c.deref-2.ensures ∙ sym c.deref.ensures)));
      at_zero = refl;
      none_come = ap (λ xs. map arc_value xs) c.no_cells.ensures;
      tree_node = c.requires.node;
      low = c.requires.low;
      two = c.requires.two;
    }) c.args.fresh.now c.two.new.fresh
    (arc_value c.in_ok-try_clone.field-0) c.in_ok-new.new c.in_ok-try_clone.ensures c.in_ok-new.ensures.cells.0 c.in_ok-new.ensures.cells.1 c.in_ok-new.ensures.some
    c.in_ok-new.ensures.fresh
