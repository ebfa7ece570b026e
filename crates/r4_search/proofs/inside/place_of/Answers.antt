use Rattle.std.proofs.Common.{arith, sym, subst, ◌∙◌, ℕ, ◌+◌, ◌-◌, ◌/◌, ◌<◌, drop}
use Rattle.std.proofs.lemmas.Bool.{ltb-true, ltb-false}
use Rattle.r4_base.specs.Cell.{next_key}
use Rattle.r4_base.specs.Key.{rank}
use Rattle.r4_cell.specs.r4_node40.View.{view_items}
use Rattle.r4_cell.proofs.r4_node40.Following.{next_is}
use Rattle.r4_search.proofs.Places.{item_in}
use Rattle.r4_search.proofs.inside.place_of.Goals as goal

pub loop-high-preserved-then-is_below : goal.loop-high-preserved-then-is_below
loop-high-preserved-then-is_below c =
    let e = next_is (rank c.args.hi) (view_items c.args.node.now) (c.loop-high.low + (c.loop-high.high - c.loop-high.low) / 2) _ c.item.ensures.shown in
    let lt = ltb-true _ _ (sym c.is_below.ensures ∙ c.if-is_below.true) in
    let within = c.loop-high.invariant.within in
    let test = c.loop-high-test.true in
    record {
      order = omega (arith, test);
      within = omega (arith, test, within);
      from = c.loop-high.invariant.from;
      below = omega (arith, e, lt);
    }

pub loop-high-preserved : goal.loop-high-preserved
loop-high-preserved c =
    let e = next_is (rank c.args.hi) (view_items c.args.node.now) (c.loop-high.low + (c.loop-high.high - c.loop-high.low) / 2) _ c.item.ensures.shown in
    let le = ltb-false _ _ (sym c.is_below.ensures ∙ c.if-is_below.false) in
    let test = c.loop-high-test.true in
    record {
      order = omega (arith, test);
      within = c.loop-high.invariant.within;
      from = omega (arith, e, le);
      below = c.loop-high.invariant.below;
    }

pub returns : goal.returns
returns c =
    let items = view_items c.args.node.now in
    let inv = c.loop-high.invariant in
    let order = inv.order in
    let within = inv.within in
    let test = c.loop-high-test.false in
    let at = item_in items c.loop-high.low (omega (arith, order, within)) in
    let e = next_is (rank c.args.hi) items c.loop-high.low at.0 at.1 in
    let from = inv.from in
    record {
      item = at.0;
      is = at.1;
      from = omega (arith, e, from);
      below = subst (λ (j : ℕ). rank c.args.key.now < next_key (rank c.args.hi) (drop j items)) (omega (arith, order, test)) inv.below;
    }
