use Rattle.std.proofs.Common.{arith, sym, ap, subst, ◌∙◌, ℕ, ◌+◌, ◌-◌, ◌<◌, ◌≡◌, drop, List}
use Rattle.std.proofs.lemmas.Option.{slice_get_within}
use Rattle.r4_base.specs.Cell.{next_key}
use Rattle.r4_base.specs.Key.{rank}
use Rattle.r4_base.specs.Node.{Item, items_of}
use Rattle.r4_base.specs.declared.key.Key.{Key}
use Rattle.r4_cell.specs.r4_node40.View.{view_items}
use Rattle.r4_search.specs.Path.{LeadsTo}
use Rattle.r4_search.proofs.Places.{branch, leads, ends_at, named, place_key}
use Rattle.r4_search.proofs.inside.child_in.Goals as goal

pub place_of-i-requires-clause-first : goal.place_of-i-requires-clause-first
place_of-i-requires-clause-first c =
    let b = branch c.args.cell.now.level (rank c.args.cell.now.lo) (rank c.args.cell.now.hi) c.args.cell.now.block c.requires.whole c.requires.branch c.requires.stands in
    let first = b.first in
    let from = c.requires.from in
    let e = ap rank c.hi.ensures in
    let same = ap (λ (xs : List Item). next_key (rank c.hi.result) xs) c.requires.items in
    let here = ap (λ (k : Key). next_key (rank k) (items_of c.args.cell.now.block)) c.hi.ensures in
    omega (arith, first, from, same, here)

pub item-item-requires : goal.item-item-requires
item-item-requires c = slice_get_within _ _ _ c.place_of-i.ensures.is

pub returns-then-item-ne-POINTER-clause-end : goal.returns-then-item-ne-POINTER-clause-end
returns-then-item-ne-POINTER-clause-end c =
    let items = view_items c.args.node.now in
    let i = c.place_of-i.result in
    let key = rank c.args.key.now in
    let b = branch c.args.cell.now.level (rank c.args.cell.now.lo) (rank c.args.cell.now.hi) c.args.cell.now.block c.requires.whole c.requires.branch c.requires.stands in
    let below = subst (λ (k : Key). key < next_key (rank k) (drop (i + 1) items)) c.hi.ensures c.place_of-i.ensures.below in
    ends_at c.args.cell.now key i items c.requires.items c.requires.branch _ c.item-item.ensures.shown (place_key _ key i items _ c.item-item.ensures.shown c.place_of-i.ensures) below b c.if-item-ne-POINTER.true

pub key_behind-requires : goal.key_behind-requires
key_behind-requires c = slice_get_within _ _ _ c.place_of-i.ensures.is

pub returns-in-Some-clause-child : goal.returns-in-Some-clause-child
returns-in-Some-clause-child c =
    let items = view_items c.args.node.now in
    let i = c.place_of-i.result in
    let key = rank c.args.key.now in
    let below = subst (λ (k : Key). key < next_key (rank k) (drop (i + 1) items)) c.hi.ensures c.place_of-i.ensures.below in
    let l = leads c.args.cell.now key i items c.requires.items c.requires.branch _ c.item-item.ensures.shown (place_key _ key i items _ c.item-item.ensures.shown c.place_of-i.ensures) below c.in-Some.field-0.0 c.if-item-ne-POINTER.false (sym c.in-Some.ensures.value) in
    let behind : rank c.key_behind.result ≡ next_key (rank c.args.cell.now.hi) (drop (i + 1) items) = c.key_behind.ensures ∙ ap (λ (k : Key). next_key (rank k) (drop (i + 1) items)) c.hi-in-Some.ensures in
    subst (λ (h : ℕ). LeadsTo c.args.cell.now key (record { id = c.in-Some.field-0.0; level = c.level.result - 1; lo = rank c.item-item.result.key; hi = h })) (sym behind)
    (subst (λ (n : ℕ). LeadsTo c.args.cell.now key (record { id = c.in-Some.field-0.0; level = n - 1; lo = rank c.item-item.result.key; hi = next_key (rank c.args.cell.now.hi) (drop (i + 1) items) })) (sym c.level.ensures) l)

pub returns-in-None-clause-end : goal.returns-in-None-clause-end
returns-in-None-clause-end c =
    let items = view_items c.args.node.now in
    let i = c.place_of-i.result in
    let key = rank c.args.key.now in
    let b = branch c.args.cell.now.level (rank c.args.cell.now.lo) (rank c.args.cell.now.hi) c.args.cell.now.block c.requires.whole c.requires.branch c.requires.stands in
    let below = subst (λ (k : Key). key < next_key (rank k) (drop (i + 1) items)) c.hi.ensures c.place_of-i.ensures.below in
    absurd (named c.args.cell.now key i items c.requires.items c.requires.branch _ c.item-item.ensures.shown (place_key _ key i items _ c.item-item.ensures.shown c.place_of-i.ensures) below b c.if-item-ne-POINTER.false (sym c.in-None.ensures.value))
