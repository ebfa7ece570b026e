use Rattle.std.proofs.Common.{ap, subst, sym, ◌∙◌, ◌^◌, arith, rules, true}
use Rattle.r4_base.specs.Key.{rank}
use Rattle.r4_cell.proofs.Nodes.{cell_node}
use Rattle.r4_path.specs.TwigPieces.{ArePiecesOf}
use Rattle.r4_edit_testing.proofs.RunTwig.{twig_range}
use Rattle.r4_edit_testing.proofs.trials.is_run_twig.Goals as goal

pub returns : goal.returns
returns c are =
    let level = c.if-level-ne2.false in
    let is = c.level.ensures in
    let lo = ap rank (sym c.lo.ensures ∙ c.is_same.ensures.keys c.if-not-is_same.false) ∙ c.least.ensures in
    let hi = ap rank (sym c.hi.ensures ∙ c.is_same-else-not-is_same.ensures.keys c.if-not-is_same-2.false) ∙ c.top.ensures in
    record {
      id = search rules;
      level = sym c.level.ensures ∙ level;
      lo = lo;
      hi = hi;
      pieces = subst (ArePiecesOf c.args.twig.now) (sym c.as_slice.ensures.value ∙ c.are_run.ensures are) c.in_ok-pieces.ensures;
      node = cell_node true (2 ^ 64) c.args.twig.now.level (rank c.args.twig.now.lo) (rank c.args.twig.now.hi) c.args.twig.now.block
          c.node-node.ensures.whole (omega (arith, level, is)) (omega (arith, lo)) (twig_range c.args.twig.now lo hi)
          (omega (arith, hi)) c.node-node.ensures.stands;
    }
