use Rattle.std.proofs.Common.{◌≢◌, ◌++◌, ◌^◌, ℕ, List, sym, ap, ◌∙◌, subst}
use Rattle.std.specs.Prelude.{All}
use Rattle.std.proofs.lemmas.List.{append-nil}
use Rattle.std.proofs.lemmas.Result.{IfOk-weaker}
use Rattle.r4_base.specs.Cell.{names_in}
use Rattle.r4_base.specs.Key.{rank}
use Rattle.r4_base.specs.Node.{Item}
use Rattle.r4_base.specs.Tree.{Name}
use Rattle.r4_closed.specs.Named.{ItemStands, new_ids}
use Rattle.r4_closed.proofs.Items.{data_new, data_stands, node_names, node_sound, node_stands}
use Rattle.r4_closed.proofs.named.add_of_cell.Goals as goal

pub returns-then-level-eq0-clause-stands : goal.returns-then-level-eq0-clause-stands
returns-then-level-eq0-clause-stands c = λ yes.
    data_stands c.args.cell.now (sym c.level.ensures ∙ c.if-level-eq0.true)

pub returns-then-level-eq0-clause-named : goal.returns-then-level-eq0-clause-named
returns-then-level-eq0-clause-named c = λ yes.
    sym (ap (λ (l : List ℕ). c.args.named.now.items ++ l)
    (data_new c.args.cell.now (sym c.level.ensures ∙ c.if-level-eq0.true)) ∙ append-nil c.args.named.now.items)

pub add_of_node-requires-clause-sound : goal.add_of_node-requires-clause-sound
add_of_node-requires-clause-sound c =
    let some : c.args.cell.now.level ≢ 0 = λ none. c.if-level-eq0.false (c.level.ensures ∙ none) in
    subst (All (ItemStands (2 ^ 64))) (sym c.node.ensures.items)
    (node_sound (2 ^ 64) c.args.cell.now some c.node.ensures.stands)

pub returns-clause-stands : goal.returns-clause-stands
returns-clause-stands c =
    let some : c.args.cell.now.level ≢ 0 = λ none. c.if-level-eq0.false (c.level.ensures ∙ none) in
    IfOk-weaker c.add_of_node.result _ _
    (λ b stand yes. node_stands c.args.cell.now some c.node.ensures.stands
    (subst (All (ItemStands (2 ^ 63))) c.node.ensures.items (stand yes)))
    c.add_of_node.ensures.stand

pub returns-clause-named : goal.returns-clause-named
returns-clause-named c =
    let some : c.args.cell.now.level ≢ 0 = λ none. c.if-level-eq0.false (c.level.ensures ∙ none) in
    IfOk-weaker c.add_of_node.result _ _
    (λ b named yes. named yes c.args.cell.now.level (rank c.args.cell.now.hi)
    ∙ ap (λ (items : List Item). c.args.named.now.items
    ++ new_ids (names_in c.args.cell.now.level (rank c.args.cell.now.hi) items)) c.node.ensures.items
    ∙ ap (λ (names : List Name). c.args.named.now.items ++ new_ids names) (sym (node_names c.args.cell.now some)))
    c.add_of_node.ensures.named

pub returns-clause-refused : goal.returns-clause-refused
returns-clause-refused c =
    let some : c.args.cell.now.level ≢ 0 = λ none. c.if-level-eq0.false (c.level.ensures ∙ none) in
    IfOk-weaker c.add_of_node.result _ _
    (λ b refused no stands. refused no (subst (All (ItemStands (2 ^ 63))) (sym c.node.ensures.items)
    (node_sound (2 ^ 63) c.args.cell.now some stands)))
    c.add_of_node.ensures.refused
