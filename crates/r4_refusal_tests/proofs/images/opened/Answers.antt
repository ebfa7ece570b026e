use Rattle.r4_open.proofs.Openings.{placed_names_head}
use Rattle.r4_refusal_tests.proofs.images.opened.Goals as goal

pub open_in_place-requires-clause-names : goal.open_in_place-requires-clause-names
open_in_place-requires-clause-names g c = λ κs lives.
    let d = g.D.Device.state in
    let counted = c.blocks-2.ensures in
    placed_names_head (d c.replay.new.dev) (d c.blocks-2.new.self) c.in-Ok.placed.head.0 counted.goes counted.seen
    c.in-Ok.ensures.replayed.3
