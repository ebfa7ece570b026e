use Rattle.std.proofs.Common.{sym, ◌∙◌}
use Rattle.r4_cell.proofs.BodyEnds.{tail_found, tail_refused}
use Rattle.r4_cell.proofs.body.last_of_tail.Goals as goal

pub returns-then-not-is_short : goal.returns-then-not-is_short
returns-then-not-is_short c blocks = tail_refused blocks _ c.requires.plugin (sym c.is_short.ensures ∙ c.if-not-is_short.true)

pub returns : goal.returns
returns c blocks = tail_found blocks _ c.last_byte.result c.requires.plugin (sym c.is_short.ensures ∙ c.if-not-is_short.false) c.last_byte.ensures
