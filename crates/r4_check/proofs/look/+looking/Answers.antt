use Rattle.std.proofs.Common.{◌≡◌, ◌∙◌, ◌+◌, ◌-◌, ◌^◌, ℕ, List, true, false, ap, sym, arith, drop}
use Rattle.std.specs.Prelude.{length, slice_get}
use Rattle.r4_base.specs.Cell.{block_names, item_names, names_in, next_key}
use Rattle.r4_base.specs.Key.{rank}
use Rattle.r4_base.specs.Node.{Item, items_of}
use Rattle.r4_cell.proofs.Faults.{body_short}
use Rattle.r4_cell.specs.Seen.{CellSeen, node_of}
use Rattle.r4_node40.specs.View.{item_shown}
use Rattle.r4_list.proofs.r4_search.Places.{item_in}
use Rattle.r4_twig.proofs.Faults.{body_lawful}
use Rattle.r4_twig.specs.View.{view_units}
use Rattle.r4_check.specs.Looking.{name_of}
use Rattle.r4_check.specs.Units.{below_of, names_of}
use Rattle.r4_check.specs.Walk.{look, look_at, meet}
use Rattle.r4_check.proofs.Items.{before_all, before_none, body_on, extent_body, extent_item, item_on, names_after, names_before, names_of_cell, no_extent, same_steps, shown_is, units_lawful}
use Rattle.r4_check.proofs.Meets.{accepted_some}
use Rattle.r4_check.proofs.Steps.{goes_same, goes_then, ground_later, steps_as, steps_ended, steps_ok, steps_same, steps_then}
use Rattle.r4_check.proofs.Walks.{look_after, look_none, look_some, rest_extends}
use Rattle.r4_check.proofs.look.+looking.Goals as goal

pub look_at_item-of_item-requires-clause-few : goal.look_at_item-of_item-requires-clause-few
look_at_item-of_item-requires-clause-few g t c =
    let node = c.node-node.ensures in
    let at = sym (ap (λ (xs : List Item). slice_get xs c.args.i) node.items) ∙ c.item-item.ensures.shown in
    let short = body_short c.args.cell.now.block c.args.i (item_shown c.item-item.result) at in
    let whole = node.whole in
    omega (arith, short, whole)

pub look_at_item-of_item-requires-clause-good : goal.look_at_item-of_item-requires-clause-good
look_at_item-of_item-requires-clause-good g t c =
    let node = c.node-node.ensures in
    let cell = c.args.cell.now in
    let at = sym (ap (λ (xs : List Item). slice_get xs c.args.i) node.items) ∙ c.item-item.ensures.shown in
    extent_body true (2 ^ 64) (item_shown c.item-item.result) c.if-item-eq-EXTENT.true
    (body_on cell.level (rank cell.lo) (rank cell.hi) cell.block node.whole c.requires.level c.args.i (item_shown c.item-item.result) at true (2 ^ 64) node.stands)

pub look_at_item-look_at_extent-requires-clause-lawful : goal.look_at_item-look_at_extent-requires-clause-lawful
look_at_item-look_at_extent-requires-clause-lawful g t c =
    let node = c.node-node.ensures in
    let cell = c.args.cell.now in
    let blocks = c.args.settled.now.found.super40.block_count in
    let at = sym (ap (λ (xs : List Item). slice_get xs c.args.i) node.items) ∙ c.item-item.ensures.shown in
    let good = extent_body false blocks (item_shown c.item-item.result) c.if-item-eq-EXTENT.true
    (body_on cell.level (rank cell.lo) (rank cell.hi) cell.block node.whole c.requires.level c.args.i (item_shown c.item-item.result) at false blocks c.requires.sound) in
    units_lawful blocks _ _ (sym c.of_item.ensures.units) (body_lawful false blocks _ good).2

pub look_at_item-returns-then-item-eq-EXTENT-clause-steps : goal.look_at_item-returns-then-item-eq-EXTENT-clause-steps
look_at_item-returns-then-item-eq-EXTENT-clause-steps g t c image it ground at =
    let cell = c.args.cell.now in
    let shown = item_shown c.item-item.result in
    let same = shown_is _ _ c.args.i shown it c.node-node.ensures.items c.item-item.ensures.shown at in
    let next = next_key (rank cell.hi) (drop (c.args.i + 1) (items_of cell.block)) in
    same_steps (cell.level - 1) c.args.settled.now.found.super40.block_count image _ _ _ _ _ (block_names (rank shown.key) (view_units c.of_item.result)) (item_names cell.level next it)
    (ap (block_names (rank shown.key)) c.of_item.ensures.units ∙ extent_item cell.level next shown c.if-item-eq-EXTENT.true ∙ ap (item_names cell.level next) same)
    (c.look_at_extent.ensures.steps image (cell.level - 1) (rank shown.key) ground.bitmaps)

pub look_at_item-returns-clause-steps : goal.look_at_item-returns-clause-steps
look_at_item-returns-clause-steps g t c image it ground at =
    let cell = c.args.cell.now in
    let blocks = c.args.settled.now.found.super40.block_count in
    let shown = item_shown c.item-item.result in
    let same = shown_is _ _ c.args.i shown it c.node-node.ensures.items c.item-item.ensures.shown at in
    let next = next_key (rank cell.hi) (drop (c.args.i + 1) (items_of cell.block)) in
    let names = c.named_at.ensures.named it at (no_extent it shown same c.if-item-eq-EXTENT.false) ∙ ap names_of c.in-Some.is in
    let above = c.in-Some.ensures.level.1 in
    let level : c.in-Some.named.level ≡ cell.level - 1 = omega (arith, above) in
    steps_as blocks _ _ _ _ _ (λ w. look c.in-Some.named.level blocks image w (name_of c.in-Some.named)) (λ w. look_at (cell.level - 1) blocks image w (item_names cell.level next it))
    (λ w h. ap (λ (l : ℕ). look l blocks image w (name_of c.in-Some.named)) level ∙ ap (look_at (cell.level - 1) blocks image w) (sym names))
    (c.look_at_node.ensures.steps image ground)

pub look_at_node-returns-in_err-cell-clause-steps : goal.look_at_node-returns-in_err-cell-clause-steps
look_at_node-returns-in_err-cell-clause-steps g t c image ground =
    let blocks = c.args.settled.now.found.super40.block_count in
    let n = name_of c.args.named.now in
    steps_ended blocks _ _ _ _ _ c.from_residual.result (λ w. meet blocks image w n) (λ w. look c.args.named.now.level blocks image w n) c.from_residual.ensures.1 (λ w. look_after c.args.named.now.level blocks image w n) (c.in_err-cell.ensures.steps image ground)

pub look_at_node-returns-in_default-clause-steps : goal.look_at_node-returns-in_default-clause-steps
look_at_node-returns-in_default-clause-steps g t c image ground =
    let blocks = c.args.settled.now.found.super40.block_count in
    let n = name_of c.args.named.now in
    steps_as blocks _ _ _ _ _ (λ w. meet blocks image w n) (λ w. look c.args.named.now.level blocks image w n)
    (λ w h. look_none c.args.named.now.level blocks image w n (sym (ap below_of c.in_default.is) ∙ c.in_ok-cell.ensures.below image w ground h))
    (steps_ok blocks _ _ _ _ c.in_ok-cell.field-0 (tt {0}) (λ w. meet blocks image w n) (c.in_ok-cell.ensures.steps image ground))

pub look_at_node-returns-clause-steps : goal.look_at_node-returns-clause-steps
look_at_node-returns-clause-steps g t c image ground =
    let blocks = c.args.settled.now.found.super40.block_count in
    let n = name_of c.args.named.now in
    let cell = c.deref.result.now in
    let accepted = accepted_some blocks c.args.named.now c.in_ok-cell.field-0 c.in-Some.cell c.in-Some.is c.in_ok-cell.ensures.cell in
    let level = sym (ap (λ (x : CellSeen). x.level) c.deref.ensures ∙ accepted.level) in
    steps_as blocks _ _ _ _ _ (λ w. look_at (cell.level - 1) blocks image (meet blocks image w n) (node_of cell).names) (λ w. look c.args.named.now.level blocks image w n)
    (λ w h. look_some c.args.named.now.level cell.level blocks image w n (node_of cell).names c.requires.level level
    (ap (λ (x : CellSeen). (node_of x).names) c.deref.ensures ∙ sym (ap below_of c.in-Some.is) ∙ c.in_ok-cell.ensures.below image w ground h))
    (steps_then blocks _ _ _ _ _ _ c.in_ok-cell.field-0 c.look_below.result (λ w. meet blocks image w n) (λ w. look_at (cell.level - 1) blocks image w (node_of cell).names) (c.in_ok-cell.ensures.steps image ground)
    (c.look_below.ensures.steps image (ground_later c.args.settled.now _ _ image c.in_ok-cell.ensures.goes.device ground)))

pub look_below-loop-i-init : goal.look_below-loop-i-init
look_below-loop-i-init g t c =
    let blocks = c.args.settled.now.found.super40.block_count in
    let cell = c.args.cell.now in (
      goes_same _ _ _ (tt {0}),
      λ image ground. steps_as blocks _ _ _ _ _ (λ w. w) (λ w. look_at (cell.level - 1) blocks image w (names_before cell.level (rank cell.hi) (items_of cell.block) 0))
          (λ w h. ap (look_at (cell.level - 1) blocks image w) (sym (before_none cell.level (rank cell.hi) (items_of cell.block)))) (steps_same blocks _ _ (tt {0})),
    )

pub look_below-returns-in_err-look_at_item-clause-steps : goal.look_below-returns-in_err-look_at_item-clause-steps
look_below-returns-in_err-look_at_item-clause-steps g t c image ground =
    let blocks = c.args.settled.now.found.super40.block_count in
    let cell = c.args.cell.now in
    let items = items_of cell.block in
    let lt = c.loop-i-test.true in
    let end = c.len-i-end.ensures ∙ ap (λ (xs : List Item). length xs) c.node.ensures.items in
    let it = item_in items c.loop-i.i (omega (arith, lt, end)) in
    steps_ended blocks _ _ _ _ _ c.from_residual.result _ (λ w. look_at (cell.level - 1) blocks image w (node_of cell).names) c.from_residual.ensures.1
    (λ w. rest_extends (cell.level - 1) blocks image w (node_of cell).names (names_before cell.level (rank cell.hi) items (c.loop-i.i + 1)) (names_in cell.level (rank cell.hi) (drop (c.loop-i.i + 1) items))
    (names_of_cell cell.level (rank cell.lo) (rank cell.hi) cell.block c.requires.level ∙ names_after cell.level (rank cell.hi) items (c.loop-i.i + 1) (omega (arith, lt, end))))
    (item_on (cell.level - 1) blocks image _ _ _ _ _ _ _ cell.level (rank cell.hi) items c.loop-i.i it.0 it.1 (c.loop-i.invariant.1 image ground)
    (c.in_err-look_at_item.ensures.steps image it.0 (ground_later c.args.settled.now _ _ image c.loop-i.invariant.0.device ground) it.1))

pub look_below-loop-i-preserved : goal.look_below-loop-i-preserved
look_below-loop-i-preserved g t c =
    let blocks = c.args.settled.now.found.super40.block_count in
    let cell = c.args.cell.now in
    let items = items_of cell.block in
    let lt = c.loop-i-test.true in
    let end = c.len-i-end.ensures ∙ ap (λ (xs : List Item). length xs) c.node.ensures.items in
    let it = item_in items c.loop-i.i (omega (arith, lt, end)) in (
      goes_then _ _ _ _ _ _ _ _ _ _ _ c.loop-i.invariant.0 c.in_ok-look_at_item.ensures.goes,
      λ image ground. item_on (cell.level - 1) blocks image _ _ _ _ _ _ _ cell.level (rank cell.hi) items c.loop-i.i it.0 it.1 (c.loop-i.invariant.1 image ground)
          (c.in_ok-look_at_item.ensures.steps image it.0 (ground_later c.args.settled.now _ _ image c.loop-i.invariant.0.device ground) it.1),
    )

pub look_below-returns-clause-steps : goal.look_below-returns-clause-steps
look_below-returns-clause-steps g t c image ground =
    let blocks = c.args.settled.now.found.super40.block_count in
    let cell = c.args.cell.now in
    let items = items_of cell.block in
    let past = c.loop-i-test.false in
    let most = c.loop-i.auto.i-end in
    let end = c.len-i-end.ensures ∙ ap (λ (xs : List Item). length xs) c.node.ensures.items in
    same_steps (cell.level - 1) blocks image _ _ _ _ _ (names_before cell.level (rank cell.hi) items c.loop-i.i) (node_of cell).names
    (before_all cell.level (rank cell.hi) items c.loop-i.i (omega (arith, past, most, end)) ∙ sym (names_of_cell cell.level (rank cell.lo) (rank cell.hi) cell.block c.requires.level)) (c.loop-i.invariant.1 image ground)
