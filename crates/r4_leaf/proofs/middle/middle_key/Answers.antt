use Rattle.std.proofs.Common.{◌∙◌, ap, rules, subst}
use Rattle.std.specs.Prelude.{Some}
use Rattle.r4_base.specs.Node.{Item}
use Rattle.r4_base.proofs.Keys.{is_key}
use Rattle.r4_node40.specs.View.{item_shown, view_block, view_items}
use Rattle.r4_leaf.specs.Items.{IsSoundItem}
use Rattle.r4_leaf.proofs.Halved.{first_sound, half_within, middle_of_one, middle_of_tail, with_plugin}
use Rattle.r4_leaf.proofs.middle.middle_key.Goals as goal

pub middle_entry-requires : goal.middle_entry-requires
middle_entry-requires c =
    let l = c.requires.leaf in
    subst IsSoundItem (with_plugin (item_shown c.item-item.result) 2 c.if-item-eq-ENTRIES.true)
    (first_sound l.0 l.1 (view_block c.args.leaf.now).now (item_shown c.item-item.result) l.2 c.item-item.ensures.shown)

pub returns-then-item-eq-ENTRIES : goal.returns-then-item-eq-ENTRIES
returns-then-item-eq-ENTRIES c =
    let same = with_plugin (item_shown c.item-item.result) 2 c.if-item-eq-ENTRIES.true in
    middle_of_one (view_items c.args.leaf.now) _ c.middle_entry.result c.requires.one (c.item-item.ensures.shown ∙ ap (λ (x : Item). Some x) same) c.middle_entry.ensures

pub behind-requires : goal.behind-requires
behind-requires c =
    let l = c.requires.leaf in
    half_within l.0 l.1 (view_block c.args.leaf.now).now (item_shown c.item-item.result) l.2 c.item-item.ensures.shown c.requires.one c.requires.two c.if-item-eq-ENTRIES.false

pub returns : goal.returns
returns c =
    let l = c.requires.leaf in
    middle_of_tail l.0 l.1 (view_block c.args.leaf.now).now (item_shown c.item-item.result) l.2 c.item-item.ensures.shown c.requires.one c.requires.two c.if-item-eq-ENTRIES.false
    c.behind.result (is_key c.behind.result (search rules) (search rules) (search rules) (search rules) (search rules)) c.behind.ensures.rank
