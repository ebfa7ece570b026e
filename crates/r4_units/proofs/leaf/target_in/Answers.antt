use Rattle.std.proofs.Common.{arith, ℕ, ◌+◌, sym, ap, subst, ◌≡◌, ◌≢◌, ◌∙◌, List}
use Rattle.std.specs.Prelude.{Some, All, Contains, slice_get}
use Rattle.std.proofs.lemmas.Bool.{true≢false}
use Rattle.r4_base.specs.Dir.{Entry, entries_of}
use Rattle.r4_base.specs.Key.{rank}
use Rattle.r4_base.specs.Value.{Entry as NamedEntry}
use Rattle.r4_cde.specs.Shown.{entry_shown}
use Rattle.r4_search.specs.r4_cell.Seen.{node_of}
use Rattle.r4_units.specs.Leaf.{AreUpTo}
use Rattle.r4_units.proofs.ItemUnits.{item_is_key}
use Rattle.r4_units.proofs.LeafUnits.{entries_same, entry_found, found_key, if_none, no_entry, no_other_entry, not_found, same_item}
use Rattle.r4_base.specs.Node.{Item, KeysRise}
use Rattle.r4_node40.specs.View.{item_shown}
use Rattle.r4_cde.specs.Shown.{view_entries}
use Rattle.r4_units.proofs.Leaves.{keys_rise, body_of, dir_good, found_within}
use Rattle.r4_units.proofs.leaf.target_in.Goals as goal

pub last_item-requires : goal.last_item-requires
last_item-requires c =
    let level = c.requires in
    subst KeysRise (sym c.node-node.ensures.items) (keys_rise c.args.leaf.now c.node-node.ensures.whole (omega (arith, level)) c.node-node.ensures.stands)

pub of_item-entries-requires : goal.of_item-entries-requires
of_item-entries-requires c =
    let level = c.requires in
    let at = c.in_ok-item.ensures.some in
    let is = subst (λ (items : List Item). slice_get items at.0 ≡ Some (item_shown c.in_ok-item.item)) c.node-node.ensures.items at.2 in
    dir_good (item_shown c.in_ok-item.item) c.if-item-ne-ENTRIES.false (body_of c.args.leaf.now at.0 _ (omega (arith, level)) c.node-node.ensures.stands is)

pub entry-entry-requires : goal.entry-entry-requires
entry-entry-requires c = found_within (view_entries c.of_item-entries.result) c.in_ok-find.field-0 _ c.in_ok-find.ensures.some

pub returns-in_err-item-clause-none : goal.returns-in_err-item-clause-none
returns-in_err-item-clause-none c =
    let up = subst (λ (items : List Item). AreUpTo items (rank c.args.key) 0) c.node-node.ensures.items c.in_err-item.ensures.none in
    if_none c.from_residual.result (no_entry c.args.leaf.now c.node-node.ensures.whole c.requires c.node-node.ensures.stands (rank c.args.key) 0 c.args.name.now up (λ i j it e last _ _ _ _ _. absurd (omega (arith, last))))

pub returns-then-item-ne-ENTRIES-clause-none : goal.returns-then-item-ne-ENTRIES-clause-none
returns-then-item-ne-ENTRIES-clause-none c =
    let (i, up, is) = subst (λ (items : List Item). (i : ℕ) × AreUpTo items (rank c.args.key) (i + 1) × (slice_get items i ≡ Some (item_shown c.in_ok-item.item))) c.node-node.ensures.items c.in_ok-item.ensures.some in
    no_entry c.args.leaf.now c.node-node.ensures.whole c.requires c.node-node.ensures.stands (rank c.args.key) (i + 1) c.args.name.now up (λ j g it e last at plugin _ _ _.
    let one = same_item _ i j (item_shown c.in_ok-item.item) it is at last in
    c.if-item-ne-ENTRIES.true (ap (λ (x : Item). x.plugin) one ∙ plugin))

pub returns-in_err-find-clause-none : goal.returns-in_err-find-clause-none
returns-in_err-find-clause-none c =
    let (i, up, is) = subst (λ (items : List Item). (i : ℕ) × AreUpTo items (rank c.args.key) (i + 1) × (slice_get items i ≡ Some (item_shown c.in_ok-item.item))) c.node-node.ensures.items c.in_ok-item.ensures.some in
    let item = c.in_ok-item.item in
    let ik = item_is_key c.args.leaf.now.block i (item_shown item) is in
    let kk = c.last_item.ensures.key in
    let entries = entries_same c.of_item-entries.result item.key item.body c.of_item-entries.ensures.lent c.of_item-entries.ensures.key in
    let all = subst (λ (es : List Entry). All (λ (e : Entry). e.key ≢ c.args.key) es) entries c.in_err-find.ensures.none in
    if_none c.from_residual-in_err-find.result (no_entry c.args.leaf.now c.node-node.ensures.whole c.requires c.node-node.ensures.stands (rank c.args.key) (i + 1) c.args.name.now up (λ j g it e last at plugin at_g k _.
    let one = same_item _ i j (item_shown item) it is at last in
    not_found item.key item.body.now c.args.key ik kk all g e (subst (λ (z : Item). slice_get (entries_of z.key z.body) g ≡ Some e) (sym one) at_g) k))

pub returns-then-not-is_spelled-clause-none : goal.returns-then-not-is_spelled-clause-none
returns-then-not-is_spelled-clause-none c =
    let (i, up, is) = subst (λ (items : List Item). (i : ℕ) × AreUpTo items (rank c.args.key) (i + 1) × (slice_get items i ≡ Some (item_shown c.in_ok-item.item))) c.node-node.ensures.items c.in_ok-item.ensures.some in
    let item = c.in_ok-item.item in
    let entries = entries_same c.of_item-entries.result item.key item.body c.of_item-entries.ensures.lent c.of_item-entries.ensures.key in
    let at = subst (λ (es : List Entry). slice_get es c.in_ok-find.field-0 ≡ Some (entry_shown c.entry-entry.result)) entries c.entry-entry.ensures.shown in
    let key = found_key (view_entries c.of_item-entries.result) c.in_ok-find.field-0 (entry_shown c.entry-entry.result) c.args.key c.entry-entry.ensures.shown c.in_ok-find.ensures.some in
    no_other_entry c.args.leaf.now c.node-node.ensures.whole c.requires c.node-node.ensures.stands (rank c.args.key) i c.in_ok-find.field-0 c.args.name.now (item_shown item) (entry_shown c.entry-entry.result) up is c.if-item-ne-ENTRIES.false at (ap rank key)
    (λ named. true≢false (sym (c.is_spelled.ensures.1 (c.name_bytes.ensures ∙ named)) ∙ c.if-not-is_spelled.true))

pub returns-clause-some : goal.returns-clause-some
returns-clause-some c =
    let (i, up, is) = subst (λ (items : List Item). (i : ℕ) × AreUpTo items (rank c.args.key) (i + 1) × (slice_get items i ≡ Some (item_shown c.in_ok-item.item))) c.node-node.ensures.items c.in_ok-item.ensures.some in
    let item = c.in_ok-item.item in
    let entries = entries_same c.of_item-entries.result item.key item.body c.of_item-entries.ensures.lent c.of_item-entries.ensures.key in
    let at = subst (λ (es : List Entry). slice_get es c.in_ok-find.field-0 ≡ Some (entry_shown c.entry-entry.result)) entries c.entry-entry.ensures.shown in
    let key = found_key (view_entries c.of_item-entries.result) c.in_ok-find.field-0 (entry_shown c.entry-entry.result) c.args.key c.entry-entry.ensures.shown c.in_ok-find.ensures.some in
    let named = sym c.name_bytes.ensures ∙ c.is_spelled.ensures.0 c.if-not-is_spelled.false in
    subst (λ (s : List ℕ). Contains (node_of c.args.leaf.now).units (rank c.args.key, NamedEntry s c.entry-entry.result.target)) named
    (entry_found c.args.leaf.now c.node-node.ensures.whole c.requires c.node-node.ensures.stands (rank c.args.key) i c.in_ok-find.field-0 (item_shown item) (entry_shown c.entry-entry.result) is c.if-item-ne-ENTRIES.false at (ap rank key))
