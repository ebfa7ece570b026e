use Rattle.std.proofs.Common.{ap}
use Rattle.std.specs.Borrow.{Bor}
use Rattle.r4_cell.proofs.BodyEnds.{dir_found, dir_refused, last_entry}
use Rattle.r4_cell.proofs.body.last_of_directory.Goals as goal

pub returns-in-Ok : goal.returns-in-Ok
returns-in-Ok c blocks =
    let body = ap (λ (b : Bor _). b.now) c.in-Ok.ensures.lent in
    dir_found blocks _ c.entry.result.key c.requires c.in-Ok.ensures.ok (last_entry _ _ _ _ c.len.result _ c.in-Ok.ensures.key body c.len.ensures.entries c.len.ensures.some c.entry.ensures.shown)

pub returns-in-Err : goal.returns-in-Err
returns-in-Err c blocks = dir_refused blocks _ c.in-Err.fault c.requires c.in-Err.ensures.err
