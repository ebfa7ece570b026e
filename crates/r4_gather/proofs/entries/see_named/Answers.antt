use Rattle.std.proofs.Common.{map}
use Rattle.r4_dir.specs.Coming.{object_of, place_of}
use Rattle.r4_gather.proofs.Beginning.{always_err}
use Rattle.r4_gather.proofs.Below.{entry_at, entry_ends, entry_ends_above, entry_stops, entry_stops_above, last_is}
use Rattle.r4_gather.proofs.entries.see_named.Goals as goal

pub returns-in_err-place-clause-stops : goal.returns-in_err-place-clause-stops
returns-in_err-place-clause-stops g c of_root =
    always_err c.from_residual.result
    (entry_stops_above c.args.path.now (g.S.Sight.state c.args.sight.now) (g.S.Sight.state c.see_parent.new.sight)
    of_root (c.in_err-place.ensures.stops of_root))

pub returns-in_default-clause-comes : goal.returns-in_default-clause-comes
returns-in_default-clause-comes g c of_root =
    entry_ends_above c.args.path.now (g.S.Sight.state c.args.sight.now) (g.S.Sight.state c.see_parent.new.sight)
    of_root (rw c.in_default.is at c.in_ok-place.ensures.comes of_root)

pub returns-in_err-object-clause-stops : goal.returns-in_err-object-clause-stops
returns-in_err-object-clause-stops g c of_root =
    let path = c.args.path.now in
    let n = c.index-path-path.result in
    let now = g.S.Sight.state c.see_parent.new.sight in
    let new = g.S.Sight.state c.see_step.new.sight in
    let p = place_of c.in-Some.place in
    always_err c.from_residual-in_err-object.result
    (entry_stops path (g.S.Sight.state c.args.sight.now) now new of_root p
    (rw c.in-Some.is at c.in_ok-place.ensures.comes of_root)
    c.in_err-object.ensures.later n (last_is path n c.requires.some c.index-path-path.is)
    (c.in_err-object.ensures.stops (map object_of c.in-Some.place.above.items)))

pub returns-in-Some-2-clause-comes : goal.returns-in-Some-2-clause-comes
returns-in-Some-2-clause-comes g c of_root =
    let path = c.args.path.now in
    let n = c.index-path-path.result in
    let now = g.S.Sight.state c.see_parent.new.sight in
    let new = g.S.Sight.state c.see_step.new.sight in
    let p = place_of c.in-Some.place in
    entry_at path (g.S.Sight.state c.args.sight.now) now new of_root p
    (rw c.in-Some.is at c.in_ok-place.ensures.comes of_root)
    c.in_ok-object.ensures.later n (last_is path n c.requires.some c.index-path-path.is) _
    (rw c.in-Some-2.is at c.in_ok-object.ensures.comes (map object_of c.in-Some.place.above.items))

pub returns-in-None-clause-comes : goal.returns-in-None-clause-comes
returns-in-None-clause-comes g c of_root =
    let path = c.args.path.now in
    let n = c.index-path-path.result in
    let now = g.S.Sight.state c.see_parent.new.sight in
    let new = g.S.Sight.state c.see_step.new.sight in
    let p = place_of c.in-Some.place in
    entry_ends path (g.S.Sight.state c.args.sight.now) now new of_root p
    (rw c.in-Some.is at c.in_ok-place.ensures.comes of_root)
    c.in_ok-object.ensures.later n (last_is path n c.requires.some c.index-path-path.is)
    (rw c.in-None.is at c.in_ok-object.ensures.comes (map object_of c.in-Some.place.above.items))
