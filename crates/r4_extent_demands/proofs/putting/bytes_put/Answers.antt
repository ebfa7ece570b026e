use Rattle.std.proofs.Common.{◌≡◌, ◌+◌, [], List, ap, arith, subst, sym, ◌∙◌}
use Rattle.std.specs.Option.{option_copied}
use Rattle.r4_base.specs.Key.{rank}
use Rattle.r4_base.specs.Node.{Item, items_of}
use Rattle.r4_content.specs.Held.{edits_of}
use Rattle.r4_bodies.specs.r4_leaf.Items.{Lie}
use Rattle.r4_bodies.specs.r4_leaf.Remade.{AreWithin}
use Rattle.r4_bodies.specs.r4_leaf.declared.remaking.Given.{Given}
use Rattle.r4_bodies.specs.r4_leaf_edits.Made.{cuts_in}
use Rattle.r4_graft.specs.r4_node40.View.{view_items}
use Rattle.r4_extent_demands.proofs.Puts.{can, measured, measured_few, none_of_leaf, told_suits, within_more}
use Rattle.r4_extent_demands.proofs.putting.bytes_put.Goals as goal

pub edits_of_leaf-requires : goal.edits_of_leaf-requires
edits_of_leaf-requires c = told_suits (option_copied c.args.body) c.keys_of.result (edits_of c.args.edits.now)
    c.keys_of.ensures c.requires.edits.body c.requires.edits.suit

pub bytes_after-requires-clause-leaf : goal.bytes_after-requires-clause-leaf
bytes_after-requires-clause-leaf c =
    let lo = rank c.args.range.now.from in
    let hi = rank c.args.range.now.to in
    let gs = c.in_ok-items.items.items in
    let none : view_items c.view-node.result ≡ [] = ap items_of c.view-node.ensures ∙ c.format-leaf.ensures.fresh.items in
    let lies : Lie lo (lo + hi) [] = omega arith in
    let within = within_more lo hi (lo + hi) gs (omega arith) (c.in_ok-made.ensures.items gs c.in_ok-items.ensures).0 in (
      lo + hi,
      (
        subst (λ (items : List Item). Lie lo (lo + hi) items) (sym none) lies,
        subst (λ (g : List Given). AreWithin lo (lo + hi) g) (sym c.as_slice.ensures.value) within,
      ),
    )

pub bytes_after-requires-clause-can : goal.bytes_after-requires-clause-can
bytes_after-requires-clause-can c =
    let b = option_copied c.args.body in
    let e = edits_of c.args.edits.now in
    let lo = rank c.args.range.now.from in
    let hi = rank c.args.range.now.to in
    let gs = c.in_ok-items.items.items in
    let cuts = cuts_in c.in_ok-made.made in
    let none : view_items c.view-node.result ≡ [] = ap items_of c.view-node.ensures ∙ c.format-leaf.ensures.fresh.items in
    let made = c.in_ok-made.ensures.edits b [] gs c.keys_of.ensures (none_of_leaf lo hi) c.in_ok-items.ensures in
    can b e c.requires.edits lo hi cuts gs made c.as_slice.result.now c.cuts.result.now (view_items c.view-node.result)
    c.as_slice.ensures.value c.cuts.ensures none

pub returns-clause-bytes : goal.returns-clause-bytes
returns-clause-bytes c =
    let b = option_copied c.args.body in
    let e = edits_of c.args.edits.now in
    let lo = rank c.args.range.now.from in
    let hi = rank c.args.range.now.to in
    let gs = c.in_ok-items.items.items in
    let cuts = cuts_in c.in_ok-made.made in
    let none : view_items c.view-node.result ≡ [] = ap items_of c.view-node.ensures ∙ c.format-leaf.ensures.fresh.items in
    let made = c.in_ok-made.ensures.edits b [] gs c.keys_of.ensures (none_of_leaf lo hi) c.in_ok-items.ensures in
    measured b e c.requires.edits lo hi cuts gs made c.as_slice.result.now c.cuts.result.now
    (view_items c.view-node.result) c.as_slice.ensures.value c.cuts.ensures none c.in_ok-bytes.bytes c.in_ok-bytes.ensures

pub returns-clause-small : goal.returns-clause-small
returns-clause-small c =
    let b = option_copied c.args.body in
    let e = edits_of c.args.edits.now in
    let lo = rank c.args.range.now.from in
    let hi = rank c.args.range.now.to in
    let gs = c.in_ok-items.items.items in
    let cuts = cuts_in c.in_ok-made.made in
    let none : view_items c.view-node.result ≡ [] = ap items_of c.view-node.ensures ∙ c.format-leaf.ensures.fresh.items in
    let made = c.in_ok-made.ensures.edits b [] gs c.keys_of.ensures (none_of_leaf lo hi) c.in_ok-items.ensures in
    measured_few b e c.requires.edits lo hi cuts gs made c.as_slice.result.now c.cuts.result.now
    (view_items c.view-node.result) c.as_slice.ensures.value c.cuts.ensures none c.in_ok-bytes.bytes c.in_ok-bytes.ensures
