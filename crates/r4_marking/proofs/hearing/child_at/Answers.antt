use Rattle.std.proofs.Common.{◌≡◌, ◌+◌, ◌-◌, drop, sym, ap, subst, ◌∙◌, refl}
use Rattle.r4_base.specs.Cell.{next_key}
use Rattle.r4_base.specs.Key.{rank}
use Rattle.r4_base.specs.declared.key.Key.{Key}
use Rattle.r4_node40.specs.View.{item_shown, view_items}
use Rattle.r4_marking.proofs.Children.{child_here, extent_here, nothing_here}
use Rattle.r4_marking.proofs.hearing.child_at.Goals as goal

pub returns-then-item-ne-POINTER-clause-none : goal.returns-then-item-ne-POINTER-clause-none
returns-then-item-ne-POINTER-clause-none c = extent_here c.args.cell.now c.args.place (view_items c.args.node.now) c.requires.items (item_shown c.item-item.result) c.item-item.ensures.shown c.if-item-ne-POINTER.true

pub returns-in-Some-clause-child : goal.returns-in-Some-clause-child
returns-in-Some-clause-child c =
    child_here c.args.cell.now c.args.place (view_items c.args.node.now) c.requires.items (item_shown c.item-item.result) c.item-item.ensures.shown _ c.requires.branch c.if-item-ne-POINTER.false (sym c.in-Some.ensures.value) (ap (λ n. n - 1) c.level.ensures) refl
    (c.key_behind.ensures ∙ ap (λ (k : Key). next_key (rank k) (drop (c.args.place + 1) (view_items c.args.node.now))) c.hi.ensures)

pub returns-in-None-clause-none : goal.returns-in-None-clause-none
returns-in-None-clause-none c = nothing_here c.args.cell.now c.args.place (view_items c.args.node.now) c.requires.items (item_shown c.item-item.result) c.item-item.ensures.shown c.if-item-ne-POINTER.false (sym c.in-None.ensures.value)
