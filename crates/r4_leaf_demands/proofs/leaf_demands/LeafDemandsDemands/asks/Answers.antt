use Rattle.std.proofs.Common.{ap, map, sym, ◌∙◌}
use Rattle.r4_content.specs.Held.{edits_of}
use Rattle.r4_marking.specs.Marks.{heard_seen}
use Rattle.r4_leaf_demands.specs.Leaves.{needing}
use Rattle.r4_leaf_demands.proofs.Weighed.{node_asks}
use Rattle.r4_leaf_demands.proofs.leaf_demands.LeafDemandsDemands.asks.Goals as goal

pub returns-clause-asks : goal.returns-clause-asks
returns-clause-asks c =
    c.needing.ensures.asks ∙ ap needing c.node_more.ensures.more
    ∙ sym (node_asks c.args.cell.now (edits_of c.args.self.now.edits) (map heard_seen c.args.heard.now)
    (λ one. c.if-level-eq-LEAF.false (c.level.ensures ∙ one)))
