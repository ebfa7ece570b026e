use Rattle.std.proofs.Common.{◌≡◌, [], ◌∷◌, ◌++◌, List, ap, refl, subst, sym, ◌∙◌}
use Rattle.std.specs.Option.{option_copied}
use Rattle.r4_base.specs.Key.{rank}
use Rattle.r4_base.specs.Node.{Item}
use Rattle.r4_base.specs.declared.key.Key.{Key}
use Rattle.r4_units.specs.r4_cell.Seen.{node_of}
use Rattle.r4_content.specs.Held.{edits_of}
use Rattle.r4_twig_asks.specs.r4_leaf.Items.{Lie}
use Rattle.r4_twig_asks.specs.r4_leaf.Remade.{AreWithin}
use Rattle.r4_twig_asks.specs.r4_leaf.Units.{cut_units}
use Rattle.r4_twig_asks.specs.r4_leaf.declared.remaking.Given.{Given}
use Rattle.r4_twig_asks.specs.r4_leaf.declared.remaking.KeyRange.{KeyRange}
use Rattle.r4_twig_asks.specs.r4_leaf_edits.Made.{AreOfLeaf, MakesEdits, cuts_in}
use Rattle.r4_units.specs.r4_node40.View.{view_items}
use Rattle.r4_twig_asks.specs.r4_reach.Needs.{leaf_edits}
use Rattle.r4_extent_asks.proofs.Measured.{lie}
use Rattle.r4_extent_asks.proofs.Staying.{can_behind, le, measured_behind, of_rest, within_low}
use Rattle.r4_extent_asks.proofs.leaves.has_behind.Goals as goal

pub bytes_after-requires-clause-leaf : goal.bytes_after-requires-clause-leaf
bytes_after-requires-clause-leaf c =
    let x = c.args.leaf.now in
    let gs = c.in_ok-items.items.items in
    let order = le x c.requires.leaf c.node-node.ensures.whole c.node-node.ensures.stands (rank c.args.from)
    c.requires.low c.requires.high in
    let lies = lie x c.requires.leaf c.node-node.ensures.whole c.node-node.ensures.stands order in
    let within = (c.in_ok-made.ensures.items gs c.in_ok-items.ensures).0 in
    let high = subst (λ (k : Key). AreWithin (rank c.args.from) (rank k) gs) c.hi.ensures within in
    let low = within_low (rank x.lo) (rank c.args.from) (rank x.hi) gs c.requires.low high in
    let given = subst (λ (g : List Given). AreWithin (rank x.lo) (rank x.hi) g) (sym c.as_slice-2.ensures.value) low in (
      rank x.hi,
      (
        subst (λ (k : Key). Lie (rank k) (rank x.hi) (view_items c.node-node.result)) (sym c.lo-2.ensures)
            (subst (λ (items : List Item). Lie (rank x.lo) (rank x.hi) items) (sym c.node-node.ensures.items) lies),
        subst (λ (k : Key). AreWithin (rank k) (rank x.hi) c.as_slice-2.result.now) (sym c.lo-2.ensures) given,
      ),
    )

pub bytes_after-requires-clause-can : goal.bytes_after-requires-clause-can
bytes_after-requires-clause-can c =
    let x = c.args.leaf.now in
    let b = option_copied c.args.body in
    let e = edits_of c.args.edits.now in
    let from = rank c.args.from in
    let whole = c.node-node.ensures.whole in
    let stands = c.node-node.ensures.stands in
    let gs = c.in_ok-items.items.items in
    let cuts = cuts_in c.in_ok-made.made in
    let rest = cut_units (rank x.lo) from (node_of x).units in
    let here = subst (λ (k : Key). AreOfLeaf from (rank k) rest) (sym c.hi.ensures)
    (of_rest x c.requires.leaf whole stands from c.requires.low c.requires.high) in
    let made = subst (λ (k : Key). MakesEdits from (rank k) (leaf_edits b e) cuts gs rest) c.hi.ensures
    (c.in_ok-made.ensures.edits b rest gs c.keys_of.ensures here c.in_ok-items.ensures) in
    let first : KeyRange = record { from = c.lo.result; to = c.args.from } in
    let ranges : c.as_slice.result.now ≡ first ∷ cuts = c.as_slice.ensures.value
    ∙ c.in_ok-extend_from_slice.ensures.items
    ∙ (λ i. (c.in_ok-push.ensures.items ∙ ap (λ (xs : List KeyRange). xs ++ first ∷ []) c.new-cuts.ensures.items) i
    ++ c.cuts.ensures i) in
    can_behind x c.requires.leaf whole stands from c.requires.low c.requires.high b e cuts gs made
    c.as_slice-2.result.now c.as_slice.result.now (view_items c.node-node.result) c.as_slice-2.ensures.value first
    ranges (ap rank c.lo.ensures) refl c.node-node.ensures.items

pub returns : goal.returns
returns c =
    let x = c.args.leaf.now in
    let b = option_copied c.args.body in
    let e = edits_of c.args.edits.now in
    let from = rank c.args.from in
    let whole = c.node-node.ensures.whole in
    let stands = c.node-node.ensures.stands in
    let gs = c.in_ok-items.items.items in
    let cuts = cuts_in c.in_ok-made.made in
    let rest = cut_units (rank x.lo) from (node_of x).units in
    let here = subst (λ (k : Key). AreOfLeaf from (rank k) rest) (sym c.hi.ensures)
    (of_rest x c.requires.leaf whole stands from c.requires.low c.requires.high) in
    let made = subst (λ (k : Key). MakesEdits from (rank k) (leaf_edits b e) cuts gs rest) c.hi.ensures
    (c.in_ok-made.ensures.edits b rest gs c.keys_of.ensures here c.in_ok-items.ensures) in
    let first : KeyRange = record { from = c.lo.result; to = c.args.from } in
    let ranges : c.as_slice.result.now ≡ first ∷ cuts = c.as_slice.ensures.value
    ∙ c.in_ok-extend_from_slice.ensures.items
    ∙ (λ i. (c.in_ok-push.ensures.items ∙ ap (λ (xs : List KeyRange). xs ++ first ∷ []) c.new-cuts.ensures.items) i
    ++ c.cuts.ensures i) in
    measured_behind x c.requires.leaf whole stands from c.requires.low c.requires.high b e cuts gs made
    c.as_slice-2.result.now c.as_slice.result.now (view_items c.node-node.result) c.as_slice-2.ensures.value first
    ranges (ap rank c.lo.ensures) refl c.node-node.ensures.items c.in_ok-bytes.bytes c.in_ok-bytes.ensures
