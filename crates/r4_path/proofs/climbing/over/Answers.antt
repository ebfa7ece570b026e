use Rattle.std.proofs.Common.{◌∙◌, ap, sym}
use Rattle.std.specs.Arc.{arc_value}
use Rattle.r4_base.specs.Node.{mkfs_id_of}
use Rattle.r4_patch.specs.r4_cell.Seen.{CellSeen}
use Rattle.r4_path.specs.Levels.{step_of}
use Rattle.r4_path.proofs.Stepping.{over_row, over_step}
use Rattle.r4_path.proofs.climbing.over.Goals as goal

pub share-requires-clause-row : goal.share-requires-clause-row
share-requires-clause-row c =
    over_row (arc_value c.args.parent.now) (step_of c.args.below.now) c.deref.result.now c.deref-4.result.now
    (record { node = c.node-node.result; mkfs_id = c.get32.result; at = c.place_of-at.result; more = c.further.result }) c.lo.result
    (record {
      under = c.requires.under;
      p_is = c.deref.ensures;
      q_is = c.deref-4.ensures;
      key_is = c.lo.ensures ∙ ap (λ (x : CellSeen). x.lo) c.deref-2.ensures;
      view = c.node-node.ensures.block;
      whole = c.node-node.ensures.whole;
      accepted = c.node-node.ensures.stands;
      mkfs_id = c.get32.ensures ∙ ap mkfs_id_of (c.bytes.ensures.value ∙ (c.block.ensures ∙ ap (λ (x : CellSeen). x.block) (c.deref-3.ensures ∙ sym c.deref.ensures)));
      more = c.further.ensures;
      below = c.place_of-at.ensures.below;
      here_at = c.place_of-at.ensures.at;
    })

pub returns-clause-step : goal.returns-clause-step
returns-clause-step c =
    over_step (arc_value c.args.parent.now) (step_of c.args.below.now) c.deref.result.now c.deref-4.result.now
    (record { node = c.node-node.result; mkfs_id = c.get32.result; at = c.place_of-at.result; more = c.further.result }) c.lo.result
    (record {
      under = c.requires.under;
      p_is = c.deref.ensures;
      q_is = c.deref-4.ensures;
      key_is = c.lo.ensures ∙ ap (λ (x : CellSeen). x.lo) c.deref-2.ensures;
      view = c.node-node.ensures.block;
      whole = c.node-node.ensures.whole;
      accepted = c.node-node.ensures.stands;
      mkfs_id = c.get32.ensures ∙ ap mkfs_id_of (c.bytes.ensures.value ∙ (c.block.ensures ∙ ap (λ (x : CellSeen). x.block) (c.deref-3.ensures ∙ sym c.deref.ensures)));
      more = c.further.ensures;
      below = c.place_of-at.ensures.below;
      here_at = c.place_of-at.ensures.at;
    })
    c.args.fresh.now c.share.new.fresh
    (arc_value c.in_ok-try_clone.field-0) c.in_ok-new.new c.in_ok-try_clone.ensures c.in_ok-new.ensures.shares
