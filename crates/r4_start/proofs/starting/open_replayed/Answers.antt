use Rattle.std.proofs.Common.{ℕ, sym, subst, ◌∙◌}
use Rattle.r4_base.specs.Layout.{IsLawfulSuper}
use Rattle.r4_replay.specs.Reading.{Idles}
use Rattle.r4_replay.proofs.Found.{idles_both}
use Rattle.r4_start.specs.Starting.{IsOpenFault}
use Rattle.r4_start.specs.declared.fault.OpenWhy.{OpenWhy}
use Rattle.r4_start.proofs.Replayed.{always_all, image_found, image_refused}
use Rattle.r4_open.proofs.Openings.{placed_names_head}
use Rattle.r4_start.proofs.starting.open_replayed.Goals as goal

pub open_in_place-requires-clause-names : goal.open_in_place-requires-clause-names
open_in_place-requires-clause-names g c = λ κs lives.
    let d = g.D.Device.state in
    let counted = c.blocks-2.ensures in
    placed_names_head (d c.replay.new.dev) (d c.blocks-2.new.self) c.in-Ok.placed.head.0 counted.goes counted.seen
    c.in-Ok.ensures.replayed.3

pub returns-in_default-clause-moments : goal.returns-in_default-clause-moments
returns-in_default-clause-moments g c =
    let d = g.D.Device.state in
    let put = c.in-Ok.ensures in
    let counted = c.blocks-2.ensures in
    always_all (d c.args.dev.now) (d c.replay.new.dev) (d c.blocks-2.new.self) c.in-Ok.placed.count put.replayed.0
    put.goes put.replayed.2 (record { goes = counted.goes; seen = counted.seen; clock = counted.clock }) put.any_moment

pub returns-in-Ok-open_in_place-clause-moments : goal.returns-in-Ok-open_in_place-clause-moments
returns-in-Ok-open_in_place-clause-moments g c =
    let d = g.D.Device.state in
    let put = c.in-Ok.ensures in
    let counted = c.blocks-2.ensures in
    let first : Idles (d c.replay.new.dev) (d c.blocks-2.new.self) =
    record { goes = counted.goes; seen = counted.seen; clock = counted.clock } in
    always_all (d c.args.dev.now) (d c.replay.new.dev) (d c.open_in_place.new.dev) c.in-Ok.placed.count put.replayed.0
    put.goes put.replayed.2 (idles_both _ _ _ first c.in-Ok-open_in_place.ensures.idles) put.any_moment

pub returns-in-Ok-open_in_place-clause-found : goal.returns-in-Ok-open_in_place-clause-found
returns-in-Ok-open_in_place-clause-found g c =
    let d = g.D.Device.state in
    let put = c.in-Ok.ensures in
    let counted = c.blocks-2.ensures in
    let read = c.in-Ok-open_in_place.ensures in
    let first : Idles (d c.replay.new.dev) (d c.blocks-2.new.self) =
    record { goes = counted.goes; seen = counted.seen; clock = counted.clock } in
    image_found (d c.args.dev.now) (d c.replay.new.dev) (d c.open_in_place.new.dev) c.in-Ok.placed.count put.replayed.0
    put.goes put.replayed.2 (idles_both _ _ _ first read.idles) (d c.blocks-2.new.self) first read.idles
    c.in-Ok-open_in_place.found read.opens
    (subst (λ (n : ℕ). IsLawfulSuper n c.in-Ok-open_in_place.found.super40)
    (c.in-Ok-blocks.ensures.count ∙ sym counted.goes.blocks) read.lawful)
    read.accepted

pub returns-in-Err-open_in_place-clause-moments : goal.returns-in-Err-open_in_place-clause-moments
returns-in-Err-open_in_place-clause-moments g c =
    let d = g.D.Device.state in
    let put = c.in-Ok.ensures in
    let counted = c.blocks-2.ensures in
    let first : Idles (d c.replay.new.dev) (d c.blocks-2.new.self) =
    record { goes = counted.goes; seen = counted.seen; clock = counted.clock } in
    always_all (d c.args.dev.now) (d c.replay.new.dev) (d c.open_in_place.new.dev) c.in-Ok.placed.count put.replayed.0
    put.goes put.replayed.2 (idles_both _ _ _ first c.in-Err-open_in_place.ensures.idles) put.any_moment

pub returns-in-Err-open_in_place-clause-refused : goal.returns-in-Err-open_in_place-clause-refused
returns-in-Err-open_in_place-clause-refused g c =
    let d = g.D.Device.state in
    let put = c.in-Ok.ensures in
    let counted = c.blocks-2.ensures in
    let read = c.in-Err-open_in_place.ensures in
    let first : Idles (d c.replay.new.dev) (d c.blocks-2.new.self) =
    record { goes = counted.goes; seen = counted.seen; clock = counted.clock } in
    subst (λ (w : OpenWhy). IsOpenFault (d c.args.dev.now) w (d c.open_in_place.new.dev)) (sym c.image_why.ensures)
    (image_refused (d c.args.dev.now) (d c.replay.new.dev) (d c.open_in_place.new.dev) c.in-Ok.placed.count
    put.replayed.0 put.goes put.replayed.2 (idles_both _ _ _ first read.idles) (d c.blocks-2.new.self) first read.idles
    c.in-Err-open_in_place.unopened read.opens)
