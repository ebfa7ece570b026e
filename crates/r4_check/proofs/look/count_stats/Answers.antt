use Rattle.std.proofs.Common.{◌∙◌, ap, arith, sym}
use Rattle.std.specs.Prelude.{count_by}
use Rattle.std.proofs.lemmas.List.{take_all}
use Rattle.r4_base.specs.Cell.{is_stat}
use Rattle.r4_base.specs.Key.{rank}
use Rattle.r4_node40.specs.View.{item_shown, view_items}
use Rattle.r4_check.proofs.Stats.{cell_stats, small, stat_more}
use Rattle.r4_check.proofs.look.count_stats.Goals as goal

pub overflow_add-count : goal.overflow_add-count
overflow_add-count c =
    let one = small (is_stat (item_shown c.item.result)) in
    let is = c.stats_of-count.ensures in
    let few = c.loop-i.invariant.1 in
    let lt = c.loop-i-test.true in
    let end = c.len-i-end.type_inv in
    omega (arith, one, is, few, lt, end)

pub loop-i-preserved : goal.loop-i-preserved
loop-i-preserved c =
    let one = small (is_stat (item_shown c.item.result)) in
    let is = c.stats_of-count.ensures in
    let few = c.loop-i.invariant.1 in
    let so_far = c.loop-i.invariant.0 in
    let more = stat_more (view_items c.node-node.result) c.loop-i.i (item_shown c.item.result) c.item.ensures.shown in
    (omega (arith, so_far, is, more), omega (arith, few, one, is))

pub returns : goal.returns
returns c =
    let node = c.node-node.ensures in
    let past = c.loop-i-test.false in
    let end = c.len-i-end.ensures in
    record { count = c.loop-i.invariant.0 ∙ ap (count_by is_stat) (take_all c.loop-i.i (view_items c.node-node.result) (omega (arith, past, end)) ∙ node.items) ∙ sym (cell_stats c.args.cell.now.level (rank c.args.cell.now.lo) (rank c.args.cell.now.hi) c.args.cell.now.block c.requires.level) }
