use Rattle.std.proofs.Common.{[]}
use Rattle.std.specs.Option.{option_copied}
use Rattle.std.proofs.lemmas.Result.{IfOk-weaker}
use Rattle.r4_base.specs.Key.{rank}
use Rattle.r4_content.specs.Held.{edits_of}
use Rattle.r4_extent_build.proofs.r4_extent_demands.Puts.{none_of_leaf}
use Rattle.r4_build.specs.r4_leaf_edits.Made.{cuts_in}
use Rattle.r4_extent_build.specs.r4_node40.View.{view_items}
use Rattle.r4_extent_among.proofs.MadeLeaves.{are_small, are_within, can_put, few_values_are, lies, packs_values}
use Rattle.r4_extent_among.proofs.leaves.leaves_made.Goals as goal

pub remake-requires-clause-leaf : goal.remake-requires-clause-leaf
remake-requires-clause-leaf c =
    let b = option_copied c.args.body in
    let e = edits_of c.args.edits.now in
    let leaf = c.args.leaf.now in
    let gs = c.in_ok-items.items.items in
    let cuts = cuts_in c.in_ok-gets.gets in (
      rank leaf.hi,
      (
        lies b e c.requires.edits leaf c.requires.level c.requires.range c.requires.units c.node.ensures.whole c.node.ensures.stands
            c.lo.result c.hi.result c.lo-2.result c.lo.ensures c.hi.ensures c.lo-2.ensures cuts c.cuts.result.now gs c.as_slice.result.now (view_items c.node.result) c.cuts.ensures c.as_slice.ensures.value c.node.ensures.items
            (c.in_ok-gets.ensures.edits b [] gs c.keys_of.ensures (none_of_leaf (rank c.lo.result) (rank c.hi.result)) c.in_ok-items.ensures)
            (c.in_ok-gets.ensures.items gs c.in_ok-items.ensures).0,
        are_within b e c.requires.edits leaf c.requires.level c.requires.range c.requires.units c.node.ensures.whole c.node.ensures.stands
            c.lo.result c.hi.result c.lo-2.result c.lo.ensures c.hi.ensures c.lo-2.ensures cuts c.cuts.result.now gs c.as_slice.result.now (view_items c.node.result) c.cuts.ensures c.as_slice.ensures.value c.node.ensures.items
            (c.in_ok-gets.ensures.edits b [] gs c.keys_of.ensures (none_of_leaf (rank c.lo.result) (rank c.hi.result)) c.in_ok-items.ensures)
            (c.in_ok-gets.ensures.items gs c.in_ok-items.ensures).0,
      ),
    )

pub remake-requires-clause-can : goal.remake-requires-clause-can
remake-requires-clause-can c =
    let b = option_copied c.args.body in
    let e = edits_of c.args.edits.now in
    let leaf = c.args.leaf.now in
    let gs = c.in_ok-items.items.items in
    let cuts = cuts_in c.in_ok-gets.gets in
    can_put b e c.requires.edits leaf c.requires.level c.requires.range c.requires.units c.node.ensures.whole c.node.ensures.stands
    c.lo.result c.hi.result c.lo-2.result c.lo.ensures c.hi.ensures c.lo-2.ensures cuts c.cuts.result.now gs c.as_slice.result.now (view_items c.node.result) c.cuts.ensures c.as_slice.ensures.value c.node.ensures.items
    (c.in_ok-gets.ensures.edits b [] gs c.keys_of.ensures (none_of_leaf (rank c.lo.result) (rank c.hi.result)) c.in_ok-items.ensures)
    (c.in_ok-gets.ensures.items gs c.in_ok-items.ensures).0

pub returns-clause-packs : goal.returns-clause-packs
returns-clause-packs c =
    let b = option_copied c.args.body in
    let e = edits_of c.args.edits.now in
    let leaf = c.args.leaf.now in
    let gs = c.in_ok-items.items.items in
    let cuts = cuts_in c.in_ok-gets.gets in
    let lie = lies b e c.requires.edits leaf c.requires.level c.requires.range c.requires.units c.node.ensures.whole c.node.ensures.stands
    c.lo.result c.hi.result c.lo-2.result c.lo.ensures c.hi.ensures c.lo-2.ensures cuts c.cuts.result.now gs c.as_slice.result.now (view_items c.node.result) c.cuts.ensures c.as_slice.ensures.value c.node.ensures.items
    (c.in_ok-gets.ensures.edits b [] gs c.keys_of.ensures (none_of_leaf (rank c.lo.result) (rank c.hi.result)) c.in_ok-items.ensures)
    (c.in_ok-gets.ensures.items gs c.in_ok-items.ensures).0 in
    let within = are_within b e c.requires.edits leaf c.requires.level c.requires.range c.requires.units c.node.ensures.whole c.node.ensures.stands
    c.lo.result c.hi.result c.lo-2.result c.lo.ensures c.hi.ensures c.lo-2.ensures cuts c.cuts.result.now gs c.as_slice.result.now (view_items c.node.result) c.cuts.ensures c.as_slice.ensures.value c.node.ensures.items
    (c.in_ok-gets.ensures.edits b [] gs c.keys_of.ensures (none_of_leaf (rank c.lo.result) (rank c.hi.result)) c.in_ok-items.ensures)
    (c.in_ok-gets.ensures.items gs c.in_ok-items.ensures).0 in
    IfOk-weaker c.remake.result _ _ (λ v packs. packs_values b e c.requires.edits leaf c.requires.level c.requires.range c.requires.units c.node.ensures.whole c.node.ensures.stands
    c.lo.result c.hi.result c.lo-2.result c.lo.ensures c.hi.ensures c.lo-2.ensures cuts c.cuts.result.now gs c.as_slice.result.now (view_items c.node.result) c.cuts.ensures c.as_slice.ensures.value c.node.ensures.items
    (c.in_ok-gets.ensures.edits b [] gs c.keys_of.ensures (none_of_leaf (rank c.lo.result) (rank c.hi.result)) c.in_ok-items.ensures)
    (c.in_ok-gets.ensures.items gs c.in_ok-items.ensures).0 v.items (packs (rank leaf.hi) lie within)) c.remake.ensures.packs

pub returns-clause-few : goal.returns-clause-few
returns-clause-few c =
    let b = option_copied c.args.body in
    let e = edits_of c.args.edits.now in
    let leaf = c.args.leaf.now in
    let gs = c.in_ok-items.items.items in
    let cuts = cuts_in c.in_ok-gets.gets in
    let lie = lies b e c.requires.edits leaf c.requires.level c.requires.range c.requires.units c.node.ensures.whole c.node.ensures.stands
    c.lo.result c.hi.result c.lo-2.result c.lo.ensures c.hi.ensures c.lo-2.ensures cuts c.cuts.result.now gs c.as_slice.result.now (view_items c.node.result) c.cuts.ensures c.as_slice.ensures.value c.node.ensures.items
    (c.in_ok-gets.ensures.edits b [] gs c.keys_of.ensures (none_of_leaf (rank c.lo.result) (rank c.hi.result)) c.in_ok-items.ensures)
    (c.in_ok-gets.ensures.items gs c.in_ok-items.ensures).0 in
    let within = are_within b e c.requires.edits leaf c.requires.level c.requires.range c.requires.units c.node.ensures.whole c.node.ensures.stands
    c.lo.result c.hi.result c.lo-2.result c.lo.ensures c.hi.ensures c.lo-2.ensures cuts c.cuts.result.now gs c.as_slice.result.now (view_items c.node.result) c.cuts.ensures c.as_slice.ensures.value c.node.ensures.items
    (c.in_ok-gets.ensures.edits b [] gs c.keys_of.ensures (none_of_leaf (rank c.lo.result) (rank c.hi.result)) c.in_ok-items.ensures)
    (c.in_ok-gets.ensures.items gs c.in_ok-items.ensures).0 in
    let small = are_small b e c.requires.edits leaf c.requires.level c.requires.range c.requires.units c.node.ensures.whole c.node.ensures.stands
    c.lo.result c.hi.result c.lo-2.result c.lo.ensures c.hi.ensures c.lo-2.ensures cuts c.cuts.result.now gs c.as_slice.result.now (view_items c.node.result) c.cuts.ensures c.as_slice.ensures.value c.node.ensures.items
    (c.in_ok-gets.ensures.edits b [] gs c.keys_of.ensures (none_of_leaf (rank c.lo.result) (rank c.hi.result)) c.in_ok-items.ensures)
    (c.in_ok-gets.ensures.items gs c.in_ok-items.ensures).0 in
    IfOk-weaker c.remake.result _ _ (λ v few. few_values_are b e c.requires.edits leaf c.requires.level c.requires.range c.requires.units c.node.ensures.whole c.node.ensures.stands
    c.lo.result c.hi.result c.lo-2.result c.lo.ensures c.hi.ensures c.lo-2.ensures cuts c.cuts.result.now gs c.as_slice.result.now (view_items c.node.result) c.cuts.ensures c.as_slice.ensures.value c.node.ensures.items
    (c.in_ok-gets.ensures.edits b [] gs c.keys_of.ensures (none_of_leaf (rank c.lo.result) (rank c.hi.result)) c.in_ok-items.ensures)
    (c.in_ok-gets.ensures.items gs c.in_ok-items.ensures).0 v.items (few (rank leaf.hi) lie within small)) c.remake.ensures.few
