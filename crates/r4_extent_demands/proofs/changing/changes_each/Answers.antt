use Rattle.std.proofs.Common.{◌≡◌, ◌+◌, List, ap, arith, length, refl, subst, sym, true, ◌∙◌}
use Rattle.std.specs.List.{list_any}
use Rattle.std.specs.Prelude.{drop, None, Some, slice_get, ◌||◌, ◌^◌}
use Rattle.std.proofs.lemmas.List.{drop_all}
use Rattle.r4_base.specs.Cell.{cell_fault}
use Rattle.r4_base.specs.Key.{rank}
use Rattle.r4_base.specs.Node.{Item, items_of}
use Rattle.r4_graft.specs.r4_branch.Pieces.{pieces_in}
use Rattle.r4_graft.proofs.r4_branch.Lying.{lie_sound}
use Rattle.r4_graft.proofs.r4_branch.Standing.{stand_lie}
use Rattle.r4_content.specs.Held.{edits_of}
use Rattle.r4_bodies.proofs.r4_leaf_demands.Weighed.{block_is}
use Rattle.r4_graft.specs.r4_node40.View.{item_shown}
use Rattle.r4_extent_demands.specs.Changing.{is_changed}
use Rattle.r4_extent_demands.proofs.Changes.{items_any}
use Rattle.r4_extent_demands.proofs.changing.changes_each.Goals as goal

pub changes_item-requires-clause-sound : goal.changes_item-requires-clause-sound
changes_item-requires-clause-sound c =
    let x = c.args.twig.now in
    let shown = subst (λ (items : List Item). slice_get items c.loop-i.i ≡ Some (item_shown c.item.result))
    c.node-node.ensures.items c.item.ensures.shown in
    let stands = subst (λ l. cell_fault true (2 ^ 64) l (rank x.lo) (rank x.hi) x.block ≡ None) c.requires.twig
    c.node-node.ensures.stands in
    lie_sound (rank x.lo) (rank x.hi) (items_of x.block) c.loop-i.i (item_shown c.item.result)
    (stand_lie (rank x.lo) (rank x.hi) x.block (c.node-node.ensures.whole, stands)) shown

pub loop-i-init : goal.loop-i-init
loop-i-init c = refl

pub returns-then-changes_item : goal.returns-then-changes_item
returns-then-changes_item c =
    let x = c.args.twig.now in
    let f = is_changed c.args.body.now (edits_of c.args.edits.now) in
    let shown = subst (λ (items : List Item). slice_get items c.loop-i.i ≡ Some (item_shown c.item.result))
    c.node-node.ensures.items c.item.ensures.shown in
    let all = list_any f (pieces_in (drop (c.loop-i.i + 1) (items_of x.block))) in
    sym (ap (λ bytes. list_any f (pieces_in (items_of bytes))) (block_is x)
    ∙ sym c.loop-i.invariant ∙ items_any f (items_of x.block) c.loop-i.i (item_shown c.item.result) shown
    ∙ (λ i. (sym c.changes_item.ensures ∙ c.if-changes_item.true) i || all))

pub loop-i-preserved : goal.loop-i-preserved
loop-i-preserved c =
    let x = c.args.twig.now in
    let f = is_changed c.args.body.now (edits_of c.args.edits.now) in
    let shown = subst (λ (items : List Item). slice_get items c.loop-i.i ≡ Some (item_shown c.item.result))
    c.node-node.ensures.items c.item.ensures.shown in
    let all = list_any f (pieces_in (drop (c.loop-i.i + 1) (items_of x.block))) in
    sym (items_any f (items_of x.block) c.loop-i.i (item_shown c.item.result) shown
    ∙ (λ i. (sym c.changes_item.ensures ∙ c.if-changes_item.false) i || all)) ∙ c.loop-i.invariant

pub returns : goal.returns
returns c =
    let x = c.args.twig.now in
    let f = is_changed c.args.body.now (edits_of c.args.edits.now) in
    let past = c.loop-i-test.false in
    let count = c.len-i-end.ensures in
    let same = ap length c.node-node.ensures.items in
    let none = ap (λ items. list_any f (pieces_in items))
    (drop_all c.loop-i.i (items_of x.block) (omega (arith, past, count, same))) in
    sym (ap (λ bytes. list_any f (pieces_in (items_of bytes))) (block_is x) ∙ sym c.loop-i.invariant ∙ none)
