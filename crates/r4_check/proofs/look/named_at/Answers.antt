use Rattle.std.proofs.Common.{◌∙◌, ◌+◌, ◌^◌, List, true, false, ap, sym, arith, drop}
use Rattle.std.specs.Prelude.{slice_get}
use Rattle.r4_base.specs.Extents.{pointer_of}
use Rattle.r4_base.specs.Cell.{next_key}
use Rattle.r4_base.specs.Key.{rank}
use Rattle.r4_base.specs.Node.{Item}
use Rattle.r4_base.specs.declared.key.Key.{Key}
use Rattle.r4_node40.specs.View.{item_shown, view_items}
use Rattle.r4_check.proofs.Items.{body_on, named_item, names_nothing, pointer_high, pointer_there, pointer_within, shown_is}
use Rattle.r4_check.proofs.look.named_at.Goals as goal

pub returns-then-item-ne-POINTER-clause-named : goal.returns-then-item-ne-POINTER-clause-named
returns-then-item-ne-POINTER-clause-named c it at other =
    let same = shown_is _ _ c.args.i (item_shown c.item-item.result) it c.node-node.ensures.items c.item-item.ensures.shown at in
    names_nothing c.args.cell.now.level _ it (λ is. c.if-item-ne-POINTER.true (ap (λ (x : Item). x.plugin) same ∙ is)) other

pub returns-in-Some-clause-named : goal.returns-in-Some-clause-named
returns-in-Some-clause-named c it at other =
    let same = shown_is _ _ c.args.i (item_shown c.item-item.result) it c.node-node.ensures.items c.item-item.ensures.shown at in
    let plugin = ap (λ (x : Item). x.plugin) (sym same) ∙ c.if-item-ne-POINTER.false in
    let to = ap (λ (x : Item). pointer_of x.body) (sym same) ∙ sym c.in-Some.ensures.value in
    let hi = c.key_behind.ensures ∙ ap (λ (k : Key). next_key (rank k) (drop (c.args.i + 1) (view_items c.node-node.result))) c.hi.ensures
    ∙ ap (λ (xs : List Item). next_key (rank c.args.cell.now.hi) (drop (c.args.i + 1) xs)) c.node-node.ensures.items in
    named_item c.args.cell.now.level c.level.result _ c.in-Some.field-0.0 (rank c.item-item.result.key) (rank c.key_behind.result) it plugin to c.level.ensures (ap (λ (x : Item). rank x.key) same) hi

pub returns-in-Some-clause-level : goal.returns-in-Some-clause-level
returns-in-Some-clause-level c =
    let node = c.node-node.ensures in
    let at = sym (ap (λ (xs : List Item). slice_get xs c.args.i) node.items) ∙ c.item-item.ensures.shown in
    let high = pointer_high c.args.cell.now.level (rank c.args.cell.now.lo) (rank c.args.cell.now.hi) c.args.cell.now.block node.whole c.requires.level c.args.i (item_shown c.item-item.result) at true (2 ^ 64) node.stands c.if-item-ne-POINTER.false in
    let is = c.level.ensures in
    (omega (arith, high, is), omega (arith, high, is))

pub returns-in-Some-clause-within : goal.returns-in-Some-clause-within
returns-in-Some-clause-within c blocks sound =
    let node = c.node-node.ensures in
    let at = sym (ap (λ (xs : List Item). slice_get xs c.args.i) node.items) ∙ c.item-item.ensures.shown in
    pointer_within blocks (item_shown c.item-item.result) c.in-Some.field-0.0 c.if-item-ne-POINTER.false (sym c.in-Some.ensures.value)
    (body_on c.args.cell.now.level (rank c.args.cell.now.lo) (rank c.args.cell.now.hi) c.args.cell.now.block node.whole c.requires.level c.args.i (item_shown c.item-item.result) at false blocks sound)

pub returns-in-None-clause-named : goal.returns-in-None-clause-named
returns-in-None-clause-named c it at other =
    let node = c.node-node.ensures in
    let here = sym (ap (λ (xs : List Item). slice_get xs c.args.i) node.items) ∙ c.item-item.ensures.shown in
    absurd (pointer_there c.args.cell.now.level (rank c.args.cell.now.lo) (rank c.args.cell.now.hi) c.args.cell.now.block node.whole c.requires.level c.args.i (item_shown c.item-item.result) here node.stands c.if-item-ne-POINTER.false (sym c.in-None.ensures.value))
