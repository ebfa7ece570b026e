use Rattle.std.proofs.Common.{List, subst, sym, ◌∙◌}
use Rattle.std.specs.Option.{option_copied}
use Rattle.r4_base.specs.Key.{rank}
use Rattle.r4_base.specs.Node.{Item}
use Rattle.r4_base.specs.declared.key.Key.{Key}
use Rattle.r4_units.specs.r4_cell.Seen.{node_of}
use Rattle.r4_content.specs.Held.{edits_of}
use Rattle.r4_twig_asks.specs.r4_leaf.Items.{Lie}
use Rattle.r4_twig_asks.specs.r4_leaf.Remade.{AreWithin}
use Rattle.r4_twig_asks.specs.r4_leaf.declared.remaking.Given.{Given}
use Rattle.r4_twig_asks.specs.r4_leaf_edits.Made.{cuts_in}
use Rattle.r4_units.specs.r4_node40.View.{view_items}
use Rattle.r4_twig_asks.specs.r4_reach.Needs.{leaf_edits}
use Rattle.r4_twig_asks.proofs.r4_extent_demands.Puts.{told_suits}
use Rattle.r4_extent_asks.proofs.Measured.{can, lie, makes, measured, measured_few}
use Rattle.r4_extent_asks.proofs.leaves.bytes_left.Goals as goal

pub edits_of_leaf-requires : goal.edits_of_leaf-requires
edits_of_leaf-requires c = told_suits (option_copied c.args.body) c.keys_of.result (edits_of c.args.edits.now)
    c.keys_of.ensures c.requires.edits.body c.requires.edits.suit

pub bytes_after-requires-clause-leaf : goal.bytes_after-requires-clause-leaf
bytes_after-requires-clause-leaf c =
    let x = c.args.leaf.now in
    let gs = c.in_ok-items.items.items in
    let lies = lie x c.requires.leaf c.node-node.ensures.whole c.node-node.ensures.stands c.requires.some in
    let within = (c.in_ok-made.ensures.items gs c.in_ok-items.ensures).0 in
    let given = subst (λ (g : List Given). AreWithin (rank c.lo.result) (rank c.hi.result) g)
    (sym c.as_slice.ensures.value) within in (
      rank x.hi,
      (
        subst (λ (k : Key). Lie (rank k) (rank x.hi) (view_items c.node-node.result)) (sym c.lo-2.ensures)
            (subst (λ (items : List Item). Lie (rank x.lo) (rank x.hi) items) (sym c.node-node.ensures.items) lies),
        subst (λ (k : Key). AreWithin (rank k) (rank x.hi) c.as_slice.result.now) (c.lo.ensures ∙ sym c.lo-2.ensures)
            (subst (λ (k : Key). AreWithin (rank c.lo.result) (rank k) c.as_slice.result.now) c.hi.ensures given),
      ),
    )

pub bytes_after-requires-clause-can : goal.bytes_after-requires-clause-can
bytes_after-requires-clause-can c =
    let x = c.args.leaf.now in
    let b = option_copied c.args.body in
    let e = edits_of c.args.edits.now in
    let gs = c.in_ok-items.items.items in
    let cuts = cuts_in c.in_ok-made.made in
    let made = makes x c.requires.leaf c.node-node.ensures.whole c.node-node.ensures.stands c.requires.some (leaf_edits b e) cuts gs
    c.lo.result c.hi.result c.lo.ensures c.hi.ensures
    (λ leaf. c.in_ok-made.ensures.edits b (node_of x).units gs c.keys_of.ensures leaf c.in_ok-items.ensures) in
    can x c.requires.leaf c.node-node.ensures.whole c.node-node.ensures.stands c.requires.some b e c.requires.edits cuts
    gs made
    c.as_slice.result.now c.cuts.result.now (view_items c.node-node.result) c.as_slice.ensures.value c.cuts.ensures
    c.node-node.ensures.items

pub returns-clause-bytes : goal.returns-clause-bytes
returns-clause-bytes c =
    let x = c.args.leaf.now in
    let b = option_copied c.args.body in
    let e = edits_of c.args.edits.now in
    let gs = c.in_ok-items.items.items in
    let cuts = cuts_in c.in_ok-made.made in
    let made = makes x c.requires.leaf c.node-node.ensures.whole c.node-node.ensures.stands c.requires.some (leaf_edits b e) cuts gs
    c.lo.result c.hi.result c.lo.ensures c.hi.ensures
    (λ leaf. c.in_ok-made.ensures.edits b (node_of x).units gs c.keys_of.ensures leaf c.in_ok-items.ensures) in
    measured x c.requires.leaf c.node-node.ensures.whole c.node-node.ensures.stands c.requires.some b e c.requires.edits cuts
    gs made
    c.as_slice.result.now c.cuts.result.now (view_items c.node-node.result) c.as_slice.ensures.value c.cuts.ensures
    c.node-node.ensures.items c.in_ok-bytes.bytes c.in_ok-bytes.ensures

pub returns-clause-small : goal.returns-clause-small
returns-clause-small c =
    let x = c.args.leaf.now in
    let b = option_copied c.args.body in
    let e = edits_of c.args.edits.now in
    let gs = c.in_ok-items.items.items in
    let cuts = cuts_in c.in_ok-made.made in
    let made = makes x c.requires.leaf c.node-node.ensures.whole c.node-node.ensures.stands c.requires.some (leaf_edits b e) cuts gs
    c.lo.result c.hi.result c.lo.ensures c.hi.ensures
    (λ leaf. c.in_ok-made.ensures.edits b (node_of x).units gs c.keys_of.ensures leaf c.in_ok-items.ensures) in
    measured_few x c.requires.leaf c.node-node.ensures.whole c.node-node.ensures.stands c.requires.some b e c.requires.edits cuts
    gs made
    c.as_slice.result.now c.cuts.result.now (view_items c.node-node.result) c.as_slice.ensures.value c.cuts.ensures
    c.node-node.ensures.items c.in_ok-bytes.bytes c.in_ok-bytes.ensures
