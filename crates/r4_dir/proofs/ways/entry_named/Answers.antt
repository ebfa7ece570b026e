use Rattle.std.proofs.Common.{map}
use Rattle.r4_content.specs.Held.{pairs_of}
use Rattle.r4_dir.specs.Coming.{object_of, place_of}
use Rattle.r4_dir.proofs.Below.{entry_comes, entry_stops, entry_stops_above, last_is}
use Rattle.r4_dir.proofs.ways.entry_named.Goals as goal

pub returns-in-Err-clause-comes : goal.returns-in-Err-clause-comes
returns-in-Err-clause-comes c of_root = entry_stops_above c.args.path.now (pairs_of c.args.seen.now) of_root _ (rw c.in-Err.is at c.in_ok-place.ensures.comes of_root)

pub returns-in-Ok-step_to-clause-comes : goal.returns-in-Ok-step_to-clause-comes
returns-in-Ok-step_to-clause-comes c of_root =
    entry_comes c.args.path.now (pairs_of c.args.seen.now) of_root (place_of c.in-Ok.place) (rw c.in-Ok.is at c.in_ok-place.ensures.comes of_root)
    c.index-path-path.result _ (last_is c.args.path.now c.index-path-path.result c.requires.some c.index-path-path.is) (c.in-Ok-step_to.ensures.comes (map object_of c.in-Ok.place.above.items))

pub returns-in-Err-step_to-clause-comes : goal.returns-in-Err-step_to-clause-comes
returns-in-Err-step_to-clause-comes c of_root =
    entry_stops c.args.path.now (pairs_of c.args.seen.now) of_root (place_of c.in-Ok.place) (rw c.in-Ok.is at c.in_ok-place.ensures.comes of_root)
    c.index-path-path.result _ (last_is c.args.path.now c.index-path-path.result c.requires.some c.index-path-path.is) (c.in-Err-step_to.ensures.comes (map object_of c.in-Ok.place.above.items))
