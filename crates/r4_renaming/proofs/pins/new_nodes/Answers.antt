use Rattle.std.proofs.Common.{ℕ, List, [], ◌∷◌, ◌++◌, take, ap, sym, ◌∙◌}
use Rattle.std.proofs.lemmas.List.{map_more}
use Rattle.r4_base.specs.declared.things.NodeId.{NodeId}
use Rattle.r4_renaming.specs.Steps.{name_in, nodes_under}
use Rattle.r4_renaming.proofs.pins.new_nodes.Goals as goal

pub loop-node-preserved : goal.loop-node-preserved
loop-node-preserved c =
    c.in_ok-push.ensures.items
    ∙ ap (λ (l : List NodeId). l ++ record { 0 = c.new_name-name.result } ∷ []) c.loop-node.invariant
    ∙ ap (λ (n : ℕ). nodes_under (name_in c.args.names.now) (take c.loop-node.node-index c.args.nodes.now)
    ++ record { 0 = n } ∷ []) c.new_name-name.ensures
    ∙ sym (map_more (λ (n : NodeId). record { 0 = name_in c.args.names.now n.0 }) c.args.nodes.now
    c.loop-node.node-index (record { 0 = 0 }) c.loop-node-test.true)
