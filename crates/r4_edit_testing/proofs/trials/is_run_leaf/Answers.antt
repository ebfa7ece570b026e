use Rattle.std.proofs.Common.{ap, sym, ◌∙◌, ◌^◌, arith, rules, true}
use Rattle.r4_base.specs.Key.{rank}
use Rattle.r4_cell.proofs.Nodes.{cell_node}
use Rattle.r4_edit_testing.proofs.RunTwig.{byte_top, least_byte}
use Rattle.r4_edit_testing.proofs.trials.is_run_leaf.Goals as goal

pub returns-then-is_same : goal.returns-then-is_same
returns-then-is_same c same =
    let level = c.if-level-ne1.false in
    let is = c.level.ensures in
    let lo = ap rank (sym c.lo.ensures ∙ c.is_same.ensures.keys c.if-is_same.true) ∙ c.least.ensures in
    let hi = ap rank (sym c.hi.ensures ∙ (c.is_same-then-is_same.ensures.keys same ∙ c.key_of.ensures)) in
    record {
      id = search rules;
      level = sym is ∙ level;
      lo = lo;
      hi = hi;
      node = cell_node true (2 ^ 64) c.args.leaf.now.level (rank c.args.leaf.now.lo) (rank c.args.leaf.now.hi) c.args.leaf.now.block
          c.node-node.ensures.whole (omega (arith, level, is)) (omega (arith, lo)) (omega (arith, lo, hi, least_byte))
          (omega (arith, hi, byte_top)) c.node-node.ensures.stands;
    }
