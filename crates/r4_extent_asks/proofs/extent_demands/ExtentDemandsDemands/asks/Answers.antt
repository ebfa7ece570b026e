use Rattle.std.proofs.Common.{◌≡◌, map, sym, subst, ◌∙◌}
use Rattle.std.specs.Option.{option_copied, option_map}
use Rattle.std.specs.Prelude.{None, Option}
use Rattle.std.specs.Result.{IfOk}
use Rattle.std.proofs.lemmas.Result.{IfOk-weaker}
use Rattle.r4_units.specs.r4_cell.Seen.{node_of}
use Rattle.r4_content.specs.Held.{edits_of, interval_of}
use Rattle.r4_twig_asks.specs.r4_marking.Marks.{ask_seen, heard_seen}
use Rattle.r4_twig_asks.specs.r4_reach.Needs.{Ask, cell_asks}
use Rattle.r4_extent_asks.specs.Demands.{DemandsSeen}
use Rattle.r4_extent_asks.proofs.Asks.{asks_leaf, asks_node, asks_none, asks_twig}
use Rattle.r4_extent_asks.proofs.extent_demands.ExtentDemandsDemands.asks.Goals as goal

pub returns-then-not-is_asked-clause-asks : goal.returns-then-not-is_asked-clause-asks
returns-then-not-is_asked-clause-asks c =
    let x = c.args.cell.now in
    let b = option_copied c.self.inside.body in
    let e = edits_of c.self.inside.edits.now in
    let rs = map interval_of c.self.inside.changes.now in
    let hs = map heard_seen c.args.heard.now in
    subst (λ (d : DemandsSeen). ◌≡◌ {A = Option Ask} None (cell_asks d.body (edits_of d.edits) d.changes (node_of x) hs))
    c.self.view_is (sym (asks_none b e rs x hs (sym c.is_asked.ensures ∙ c.if-not-is_asked.true)))

pub returns-then-level-eq-LEAF-clause-asks : goal.returns-then-level-eq-LEAF-clause-asks
returns-then-level-eq-LEAF-clause-asks c =
    let x = c.args.cell.now in
    let b = option_copied c.self.inside.body in
    let e = edits_of c.self.inside.edits.now in
    let rs = map interval_of c.self.inside.changes.now in
    let hs = map heard_seen c.args.heard.now in
    subst (λ (d : DemandsSeen). IfOk c.leaf_asks.result (λ a. option_map ask_seen a
    ≡ cell_asks d.body (edits_of d.edits) d.changes (node_of x) hs)) c.self.view_is
    (IfOk-weaker c.leaf_asks.result _ _ (λ a h. h ∙ sym (asks_leaf b e rs x hs
    (sym c.is_asked.ensures ∙ c.if-not-is_asked.false) (sym c.level.ensures ∙ c.if-level-eq-LEAF.true))) c.leaf_asks.ensures.asks)

pub returns-then-level-eq-TWIG-clause-asks : goal.returns-then-level-eq-TWIG-clause-asks
returns-then-level-eq-TWIG-clause-asks c =
    let x = c.args.cell.now in
    let b = option_copied c.self.inside.body in
    let e = edits_of c.self.inside.edits.now in
    let rs = map interval_of c.self.inside.changes.now in
    let hs = map heard_seen c.args.heard.now in
    subst (λ (d : DemandsSeen). IfOk c.twig_asks.result (λ a. option_map ask_seen a
    ≡ cell_asks d.body (edits_of d.edits) d.changes (node_of x) hs)) c.self.view_is
    (IfOk-weaker c.twig_asks.result _ _ (λ a h. h ∙ sym (asks_twig b e rs x hs
    (sym c.is_asked.ensures ∙ c.if-not-is_asked.false) (sym c.level-2.ensures ∙ c.if-level-eq-TWIG.true))) c.twig_asks.ensures.asks)

pub returns-clause-asks : goal.returns-clause-asks
returns-clause-asks c =
    let x = c.args.cell.now in
    let b = option_copied c.self.inside.body in
    let e = edits_of c.self.inside.edits.now in
    let rs = map interval_of c.self.inside.changes.now in
    let hs = map heard_seen c.args.heard.now in
    subst (λ (d : DemandsSeen). option_map ask_seen c.node_asks.result
    ≡ cell_asks d.body (edits_of d.edits) d.changes (node_of x) hs) c.self.view_is
    (c.node_asks.ensures.asks ∙ sym (asks_node b e rs x hs (sym c.is_asked.ensures ∙ c.if-not-is_asked.false)
    (λ one. c.if-level-eq-LEAF.false (c.level.ensures ∙ one)) (λ two. c.if-level-eq-TWIG.false (c.level-2.ensures ∙ two))))
