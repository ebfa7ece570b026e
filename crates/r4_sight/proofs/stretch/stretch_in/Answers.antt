use Rattle.std.proofs.Common.{◌≡◌, ◌≤◌, ◌+◌, List, drop, refl, inl, ap, subst, ◌∙◌, rules, arith}
use Rattle.std.specs.Prelude.{Some, slice_get}
use Rattle.std.proofs.lemmas.Option.{slice_get_within}
use Rattle.r4_base.specs.Cell.{next_key}
use Rattle.r4_base.specs.Key.{rank, top}
use Rattle.r4_base.specs.Node.{Item, items_of}
use Rattle.r4_base.specs.declared.key.Key.{Key}
use Rattle.r4_base.proofs.Keys.{is_key}
use Rattle.r4_units.proofs.r4_cell.Faults.{body_short}
use Rattle.r4_node40.specs.View.{item_shown, view_items}
use Rattle.r4_units.proofs.r4_search.Places.{branch, place_key}
use Rattle.r4_units.proofs.ItemUnits.{item_is_key}
use Rattle.r4_units.proofs.Leaves.{body_of, extent_good}
use Rattle.r4_sight.proofs.Bodies.{above_leaf, end_of, lesser_above, up_to_top}
use Rattle.r4_sight.proofs.Stretching.{ends_below, extent_at, gap_stretch, leaf_far, next_far, offsets_in, place_below}
use Rattle.r4_sight.proofs.stretch.stretch_in.Goals as goal

pub returns-then-level-eq-LEAF-clause-stretch : goal.returns-then-level-eq-LEAF-clause-stretch
returns-then-level-eq-LEAF-clause-stretch g c = record {
  cell = c.args.cell.now;
  is = inl refl;
  stands = c.node-node.ensures.stands;
  met = c.requires.end.met;
  of = c.in_ok-of_leaf.ensures.stretch;
  far = leaf_far c.args.cell.now _ (rank c.args.to) c.in_ok-of_leaf.ensures.far;
}

pub place_of-place-requires-clause-first : goal.place_of-place-requires-clause-first
place_of-place-requires-clause-first g c =
    let cell = c.args.cell.now in
    let two = above_leaf cell.level c.level.result c.requires.end.level c.level.ensures c.if-level-eq-LEAF.false in
    let first = (branch cell.level (rank cell.lo) (rank cell.hi) cell.block c.node-node.ensures.whole two c.node-node.ensures.stands).first in
    let from = c.requires.end.from in
    let same = ap (λ (xs : List Item). next_key (rank c.args.hi) xs) c.node-node.ensures.items in
    let here = ap (λ (k : Key). next_key (rank k) (items_of cell.block)) c.requires.hi in
    omega (arith, first, from, same, here)

pub item-item-requires : goal.item-item-requires
item-item-requires g c = slice_get_within _ _ _ c.place_of-place.ensures.is

pub block_at-requires-clause-is_key : goal.block_at-requires-clause-is_key
block_at-requires-clause-is_key g c =
    let is = subst (λ (items : List Item). slice_get items c.place_of-place.result ≡ Some (item_shown c.item-item.result)) c.node-node.ensures.items c.item-item.ensures.shown in
    item_is_key c.args.cell.now.block c.place_of-place.result (item_shown c.item-item.result) is

pub block_at-requires-clause-few : goal.block_at-requires-clause-few
block_at-requires-clause-few g c =
    let is = subst (λ (items : List Item). slice_get items c.place_of-place.result ≡ Some (item_shown c.item-item.result)) c.node-node.ensures.items c.item-item.ensures.shown in
    let short = body_short c.args.cell.now.block c.place_of-place.result _ is in
    let whole = c.node-node.ensures.whole in
    omega (arith, short, whole)

pub block_at-requires-clause-good : goal.block_at-requires-clause-good
block_at-requires-clause-good g c =
    let cell = c.args.cell.now in
    let two = above_leaf cell.level c.level.result c.requires.end.level c.level.ensures c.if-level-eq-LEAF.false in
    let is = subst (λ (items : List Item). slice_get items c.place_of-place.result ≡ Some (item_shown c.item-item.result)) c.node-node.ensures.items c.item-item.ensures.shown in
    let five = extent_at cell (view_items c.node-node.result) c.node-node.ensures.items c.args.hi c.requires.hi c.node-node.ensures.whole two c.node-node.ensures.stands c.place_of-place.result (item_shown c.item-item.result) is (rank c.args.from) c.place_of-place.ensures c.requires.end.ends in
    extent_good (item_shown c.item-item.result) five (body_of cell c.place_of-place.result _ c.requires.end.level c.node-node.ensures.stands is)

pub block_at-requires-clause-fits : goal.block_at-requires-clause-fits
block_at-requires-clause-fits g c =
    let cell = c.args.cell.now in
    let two = above_leaf cell.level c.level.result c.requires.end.level c.level.ensures c.if-level-eq-LEAF.false in
    let is = subst (λ (items : List Item). slice_get items c.place_of-place.result ≡ Some (item_shown c.item-item.result)) c.node-node.ensures.items c.item-item.ensures.shown in
    let five = extent_at cell (view_items c.node-node.result) c.node-node.ensures.items c.args.hi c.requires.hi c.node-node.ensures.whole two c.node-node.ensures.stands c.place_of-place.result (item_shown c.item-item.result) is (rank c.args.from) c.place_of-place.ensures c.requires.end.ends in
    offsets_in cell c.node-node.ensures.whole two c.node-node.ensures.stands c.place_of-place.result (item_shown c.item-item.result) is five

pub block_at-requires-clause-from : goal.block_at-requires-clause-from
block_at-requires-clause-from g c = place_key _ _ _ _ _ c.item-item.ensures.shown c.place_of-place.ensures

pub of_block-requires-clause-level : goal.of_block-requires-clause-level
of_block-requires-clause-level g c = above_leaf c.args.cell.now.level c.level.result c.requires.end.level c.level.ensures c.if-level-eq-LEAF.false

pub of_block-requires-clause-block : goal.of_block-requires-clause-block
of_block-requires-clause-block g c =
    let cell = c.args.cell.now in
    let two = above_leaf cell.level c.level.result c.requires.end.level c.level.ensures c.if-level-eq-LEAF.false in
    let is = subst (λ (items : List Item). slice_get items c.place_of-place.result ≡ Some (item_shown c.item-item.result)) c.node-node.ensures.items c.item-item.ensures.shown in
    let five = extent_at cell (view_items c.node-node.result) c.node-node.ensures.items c.args.hi c.requires.hi c.node-node.ensures.whole two c.node-node.ensures.stands c.place_of-place.result (item_shown c.item-item.result) is (rank c.args.from) c.place_of-place.ensures c.requires.end.ends in
    record { place = c.place_of-place.result; item = item_shown c.item-item.result; is = is; extent = five; at = c.in-Some.ensures.some }

pub of_block-requires-clause-top : goal.of_block-requires-clause-top
of_block-requires-clause-top g c =
    let cell = c.args.cell.now in
    let two = above_leaf cell.level c.level.result c.requires.end.level c.level.ensures c.if-level-eq-LEAF.false in
    let is = subst (λ (items : List Item). slice_get items c.place_of-place.result ≡ Some (item_shown c.item-item.result)) c.node-node.ensures.items c.item-item.ensures.shown in
    let five = extent_at cell (view_items c.node-node.result) c.node-node.ensures.items c.args.hi c.requires.hi c.node-node.ensures.whole two c.node-node.ensures.stands c.place_of-place.result (item_shown c.item-item.result) is (rank c.args.from) c.place_of-place.ensures c.requires.end.ends in
    let end = ends_below cell c.node-node.ensures.whole two c.node-node.ensures.stands c.place_of-place.result (item_shown c.item-item.result) is five in
    let up : rank cell.hi ≤ top = subst (λ (k : Key). rank k ≤ top) c.requires.hi (up_to_top c.args.hi (is_key c.args.hi (search (rules, c.well_formed.1.1.1.0)) (search (rules, c.well_formed.1.1.1.0)) (search (rules, c.well_formed.1.1.1.0)) (search (rules, c.well_formed.1.1.1.0)) (search (rules, c.well_formed.1.1.1.0)))) in
    let at = c.in-Some.ensures.some in
    let lo = at.lo in
    let within = at.unit.within in
    omega (arith, end, up, lo, within)

pub key_behind-requires : goal.key_behind-requires
key_behind-requires g c = slice_get_within _ _ _ c.place_of-place.ensures.is

pub returns-in-None-clause-stretch : goal.returns-in-None-clause-stretch
returns-in-None-clause-stretch g c =
    let cell = c.args.cell.now in
    let from = rank c.args.from in
    let place = c.place_of-place.result in
    let it = item_shown c.item-item.result in
    let two = above_leaf cell.level c.level.result c.requires.end.level c.level.ensures c.if-level-eq-LEAF.false in
    let is = subst (λ (items : List Item). slice_get items place ≡ Some it) c.node-node.ensures.items c.item-item.ensures.shown in
    let five = extent_at cell (view_items c.node-node.result) c.node-node.ensures.items c.args.hi c.requires.hi c.node-node.ensures.whole two c.node-node.ensures.stands place it is from c.place_of-place.ensures c.requires.end.ends in
    let behind : rank c.key_behind.result ≡ next_key (rank cell.hi) (drop (place + 1) (items_of cell.block)) =
    c.key_behind.ensures ∙ (ap (λ (k : Key). next_key (rank k) (drop (place + 1) (view_items c.node-node.result))) c.requires.hi ∙ ap (λ (xs : List Item). next_key (rank cell.hi) (drop (place + 1) xs)) c.node-node.ensures.items) in
    let next = place_below cell (view_items c.node-node.result) c.node-node.ensures.items c.args.hi c.requires.hi from place c.place_of-place.ensures in
    let both = c.lesser.ensures.both in
    record {
      cell = cell;
      is = inl refl;
      stands = c.node-node.ensures.stands;
      met = c.requires.end.met;
      of = gap_stretch cell c.node-node.ensures.whole two c.node-node.ensures.stands place it is five from (rank c.args.to) _ c.in-None.ensures.none
          (lesser_above from c.args.to c.key_behind.result c.lesser.result c.requires.order (omega (arith, next, behind)) c.lesser.ensures.is) c.lesser.ensures.below (omega (arith, both, behind)) c.new.ensures.items;
      far = next_far cell two place (rank c.args.to) _ (end_of c.args.to c.key_behind.result c.lesser.result _ behind c.lesser.ensures.is);
    }
