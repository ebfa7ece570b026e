use Rattle.std.proofs.Common.{◌∙◌, ap, subst, sym}
use Rattle.std.specs.Prelude.{List, length, ◌==◌}
use Rattle.r4_put_tasks.specs.r4_build.r4_measure.r4_cell.Seen.{CellSeen}
use Rattle.r4_content.specs.Held.{edits_of}
use Rattle.r4_put_tasks.specs.r4_lost_tasks.Going.{have_blocks}
use Rattle.r4_put_tasks.specs.r4_lost_tasks.r4_extent_shrink.Shrink.{MayLoseAll}
use Rattle.r4_put_tasks.proofs.r4_lost_tasks.TwigsGo.{goes_at}
use Rattle.r4_made.proofs.Made.{no_intervals}
use Rattle.r4_made.proofs.losing.may_be_lost.Goals as goal

pub returns : goal.returns
returns c = λ ok.
    let task = c.args.task.now in
    let b = c.args.body.now in
    record {
      may = subst (λ (cells : List CellSeen). MayLoseAll b (edits_of c.args.edits.now) task.fresh cells)
          c.as_slice-cells.ensures (c.in_ok-may.ensures.may ok);
      zeros = no_intervals c.args.edits.now.zeros.items (ap (λ rs. length rs == 0) (sym c.as_slice.ensures.value) ∙ (sym c.is_empty.ensures ∙ c.if-not-is_empty.false));
      goes = λ k on. goes_at b task.writes k
          (ap (λ (cells : List CellSeen). have_blocks b cells) (sym c.as_slice-cells.ensures)
          ∙ (sym c.blocks_have_twigs.ensures ∙ c.if-not-blocks_have_twigs.false)) on;
    }
