use Rattle.std.proofs.Common.{◌<◌, map, length, sym, ap, subst, ◌∙◌}
use Rattle.std.specs.Arc.{arc_value}
use Rattle.r4_judging.proofs.Leaves.{data_judged, data_stands, leaf_judged}
use Rattle.r4_judging.proofs.nodes.misfit_of.Goals as goal

pub returns-then-level-eq0-clause-judged : goal.returns-then-level-eq0-clause-judged
returns-then-level-eq0-clause-judged c = data_judged c.args.cell.now (map (λ x. arc_value x) c.args.cells.now)
    (sym c.level.ensures ∙ c.if-level-eq0.true)

pub returns-then-level-eq0-clause-sound : goal.returns-then-level-eq0-clause-sound
returns-then-level-eq0-clause-sound c = record {
  whole = ap length (sym c.block.ensures) ∙ c.bytes.ensures.len;
  stands = data_stands c.args.cell.now (sym c.level.ensures ∙ c.if-level-eq0.true);
  level = subst (λ n. n < 256) c.level.ensures c.level.type_inv;
}

pub returns-then-level-eq-LEAF-clause-judged : goal.returns-then-level-eq-LEAF-clause-judged
returns-then-level-eq-LEAF-clause-judged c = leaf_judged c.args.cell.now (map (λ x. arc_value x) c.args.cells.now)
    (sym c.level-2.ensures ∙ c.if-level-eq-LEAF.true) c.node-node.ensures.whole c.node-node.ensures.stands
