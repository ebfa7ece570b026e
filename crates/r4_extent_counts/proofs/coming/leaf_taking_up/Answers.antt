use Rattle.std.proofs.Common.{◌≡◌, ap, arith, rules, ◌∙◌}
use Rattle.std.specs.Prelude.{length}
use Rattle.r4_base.specs.Key.{rank}
use Rattle.r4_extent_demands.specs.r4_graft.Splices.{parted}
use Rattle.r4_extent_demands.proofs.r4_graft.Placed.{place_within}
use Rattle.r4_extent_demands.proofs.Rooms.{follow_room}
use Rattle.r4_extent_counts.proofs.Counts.{taking_is}
use Rattle.r4_extent_counts.proofs.coming.leaf_taking_up.Goals as goal

pub part_each-requires : goal.part_each-requires
part_each-requires c =
    let x = c.args.twig.now in
    follow_room (rank x.lo) (rank x.hi) c.args.all.now c.requires.pieces.pieces.follow

pub taken_up-requires-clause-within : goal.taken_up-requires-clause-within
taken_up-requires-clause-within c =
    let within = place_within (rank c.going-going.result.to) c.as_slice-pieces.result.now in
    let at = c.place_of-to.ensures in
    omega (arith, within, at)

pub returns-clause-is : goal.returns-clause-is
returns-clause-is c =
    let count : c.len.result ≡ length c.in_ok-middle.middle.items = search rules in
    let first = ap (parted (rank c.going-going.result.to)) (c.as_slice.ensures.value) in
    count ∙ ap length c.in_ok-middle.ensures.items
    ∙ taking_is c.args.body.now c.args.twig.now c.args.all.now c.in_ok-first.first.items c.as_slice-pieces.result.now
    c.place_of-from.result c.place_of-to.result (rank c.going-going.result.from) (rank c.going-going.result.to)
    c.requires.pieces.is c.going-going.ensures.from c.going-going.ensures.to c.in_ok-first.ensures.items
    (c.as_slice-pieces.ensures.value ∙ c.in_ok-parts.ensures.items ∙ first) c.place_of-from.ensures c.place_of-to.ensures
