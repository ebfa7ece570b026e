use Rattle.std.proofs.Common.{◌≡◌, ◌+◌, arith, sym, subst, ap, ◌∙◌, List, ℕ}
use Rattle.std.specs.Prelude.{Some, slice_get}
use Rattle.std.proofs.lemmas.Bool.{eq-eqb, eqb-true, true≢false}
use Rattle.r4_base.specs.Key.{rank}
use Rattle.r4_base.specs.Node.{Item, KeysRise}
use Rattle.r4_node40.specs.View.{item_shown}
use Rattle.r4_units.specs.Leaf.{AreUpTo}
use Rattle.r4_units.proofs.Leaves.{keys_rise}
use Rattle.r4_units.proofs.LeafUnits.{if_none, no_stat, same_item, stat_read_none, stat_read_some}
use Rattle.r4_units.proofs.leaf.attr_in.Goals as goal

pub last_item-requires : goal.last_item-requires
last_item-requires c =
    let level = c.requires in
    subst KeysRise (sym c.node-node.ensures.items) (keys_rise c.args.leaf.now c.node-node.ensures.whole (omega (arith, level)) c.node-node.ensures.stands)

pub returns-in_err-item-clause-none : goal.returns-in_err-item-clause-none
returns-in_err-item-clause-none c =
    let up = subst (λ (items : List Item). AreUpTo items (rank c.args.key) 0) c.node-node.ensures.items c.in_err-item.ensures.none in
    if_none c.from_residual.result (no_stat c.args.leaf.now c.node-node.ensures.whole c.requires c.node-node.ensures.stands (rank c.args.key) 0 up (λ i it e _ _ _. absurd (omega (arith, e))))

pub returns-then-item-ne-STAT-clause-none : goal.returns-then-item-ne-STAT-clause-none
returns-then-item-ne-STAT-clause-none c =
    let (i, up, is) = subst (λ (items : List Item). (i : ℕ) × AreUpTo items (rank c.args.key) (i + 1) × (slice_get items i ≡ Some (item_shown c.in_ok-item.item))) c.node-node.ensures.items c.in_ok-item.ensures.some in
    no_stat c.args.leaf.now c.node-node.ensures.whole c.requires c.node-node.ensures.stands (rank c.args.key) (i + 1) up (λ j it e at plugin same.
    let one = same_item _ i j (item_shown c.in_ok-item.item) it is at e in
    c.if-item-ne-STAT.true (ap (λ (x : Item). x.plugin) one ∙ plugin))

pub returns-then-not-is_same-clause-none : goal.returns-then-not-is_same-clause-none
returns-then-not-is_same-clause-none c =
    let (i, up, is) = subst (λ (items : List Item). (i : ℕ) × AreUpTo items (rank c.args.key) (i + 1) × (slice_get items i ≡ Some (item_shown c.in_ok-item.item))) c.node-node.ensures.items c.in_ok-item.ensures.some in
    no_stat c.args.leaf.now c.node-node.ensures.whole c.requires c.node-node.ensures.stands (rank c.args.key) (i + 1) up (λ j it e at plugin same.
    let one = same_item _ i j (item_shown c.in_ok-item.item) it is at e in
    let k : rank c.in_ok-item.item.key ≡ rank c.args.key = ap (λ (x : Item). rank x.key) one ∙ same in
    absurd (true≢false (sym (eq-eqb _ _ k) ∙ (sym c.is_same.ensures.ranks ∙ c.if-not-is_same.true))))

pub returns-in-Ok-clause-some : goal.returns-in-Ok-clause-some
returns-in-Ok-clause-some c =
    let (i, up, is) = subst (λ (items : List Item). (i : ℕ) × AreUpTo items (rank c.args.key) (i + 1) × (slice_get items i ≡ Some (item_shown c.in_ok-item.item))) c.node-node.ensures.items c.in_ok-item.ensures.some in
    let same = eqb-true (rank c.in_ok-item.item.key) (rank c.args.key) (sym c.is_same.ensures.ranks ∙ c.if-not-is_same.false) in
    stat_read_some c.args.leaf.now c.node-node.ensures.whole c.requires c.node-node.ensures.stands (rank c.args.key) i (item_shown c.in_ok-item.item) c.read_stat.result is c.if-item-ne-STAT.false same c.read_stat.ensures.value c.in-Ok.attr c.in-Ok.is

pub returns-in-Err-clause-none : goal.returns-in-Err-clause-none
returns-in-Err-clause-none c =
    let (i, up, is) = subst (λ (items : List Item). (i : ℕ) × AreUpTo items (rank c.args.key) (i + 1) × (slice_get items i ≡ Some (item_shown c.in_ok-item.item))) c.node-node.ensures.items c.in_ok-item.ensures.some in
    absurd (stat_read_none c.args.leaf.now c.node-node.ensures.whole c.requires c.node-node.ensures.stands i (item_shown c.in_ok-item.item) c.read_stat.result is c.if-item-ne-STAT.false c.read_stat.ensures.value c.in-Err.field-0 c.in-Err.is)
