use Rattle.std.proofs.Common.{◌≡◌, [], false, map, sym, subst, ◌∙◌}
use Rattle.std.specs.Option.{option_copied}
use Rattle.r4_units.specs.r4_cell.Seen.{node_of}
use Rattle.r4_content.specs.Held.{edits_of, interval_of}
use Rattle.r4_twig_asks.specs.r4_reach.Needs.{twig_turns}
use Rattle.r4_extent_asks.specs.Demands.{DemandsSeen}
use Rattle.r4_extent_asks.proofs.Asks.{turns_changed, turns_other, turns_still}
use Rattle.r4_extent_asks.proofs.extent_demands.ExtentDemandsDemands.turns.Goals as goal

pub returns-then-level-ne-TWIG : goal.returns-then-level-ne-TWIG
returns-then-level-ne-TWIG c = turns_other c.args.self.now.body (edits_of c.args.self.now.edits) c.args.self.now.changes
    c.args.cell.now [] (λ two. c.if-level-ne-TWIG.true (c.level.ensures ∙ two))

pub returns-then-is_touched : goal.returns-then-is_touched
returns-then-is_touched c =
    let x = c.args.cell.now in
    let b = option_copied c.self.inside.body in
    let e = edits_of c.self.inside.edits.now in
    let rs = map interval_of c.self.inside.changes.now in
    subst (λ (d : DemandsSeen). c.changes_pieces.result ≡ twig_turns d.body (edits_of d.edits) d.changes (node_of x))
    c.self.view_is
    (c.changes_pieces.ensures ∙ turns_changed b e rs x [] (sym c.level.ensures ∙ c.if-level-ne-TWIG.false)
    (sym c.is_touched.ensures ∙ c.if-is_touched.true))

pub returns-else-is_touched : goal.returns-else-is_touched
returns-else-is_touched c =
    let x = c.args.cell.now in
    let b = option_copied c.self.inside.body in
    let e = edits_of c.self.inside.edits.now in
    let rs = map interval_of c.self.inside.changes.now in
    c.if-is_touched.false ∙ subst (λ (d : DemandsSeen). false ≡ twig_turns d.body (edits_of d.edits) d.changes (node_of x))
    c.self.view_is (turns_still b e rs x [] (sym c.is_touched.ensures ∙ c.if-is_touched.false))
