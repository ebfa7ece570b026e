use Rattle.std.proofs.Common.{sym, ◌∙◌}
use Rattle.r4_cell.proofs.BodyEnds.{stat_found, stat_refused}
use Rattle.r4_cell.proofs.body.last_of_stat.Goals as goal

pub returns-in-Ok : goal.returns-in-Ok
returns-in-Ok c blocks = stat_found blocks _ _ c.requires (sym c.read_stat.ensures.value ∙ c.in-Ok.is)

pub returns-in-Err : goal.returns-in-Err
returns-in-Err c blocks = stat_refused blocks _ _ c.requires (sym c.read_stat.ensures.value ∙ c.in-Err.is)
