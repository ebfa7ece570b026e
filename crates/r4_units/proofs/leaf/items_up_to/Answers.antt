use Rattle.std.proofs.Common.{◌+◌, ◌-◌, ◌/◌, arith, sym, ◌∙◌}
use Rattle.std.proofs.lemmas.Bool.{ltb-true, ltb-false}
use Rattle.r4_base.specs.Key.{rank}
use Rattle.r4_node40.specs.View.{view_items}
use Rattle.r4_units.proofs.Rising.{lower, higher}
use Rattle.r4_units.proofs.leaf.items_up_to.Goals as goal

pub loop-low-preserved-then-is_below : goal.loop-low-preserved-then-is_below
loop-low-preserved-then-is_below c =
    let low = c.loop-low.low in
    let high = c.loop-low.high in
    let lt = ltb-true _ _ (sym c.is_below.ensures ∙ c.if-is_below.true) in
    lower (view_items c.args.node.now) (rank c.args.key) low high (low + (high - low) / 2) c.requires c.loop-low.invariant _ c.item.ensures.shown (omega arith) (omega (arith, c.loop-low-test.true)) lt

pub loop-low-preserved : goal.loop-low-preserved
loop-low-preserved c =
    let low = c.loop-low.low in
    let high = c.loop-low.high in
    let le = ltb-false _ _ (sym c.is_below.ensures ∙ c.if-is_below.false) in
    higher (view_items c.args.node.now) (rank c.args.key) low high (low + (high - low) / 2) c.requires c.loop-low.invariant _ c.item.ensures.shown (omega arith) (omega (arith, c.loop-low-test.true)) le
