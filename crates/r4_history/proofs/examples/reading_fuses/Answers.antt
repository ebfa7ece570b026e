use Rattle.r4_history.proofs.Worked.{five_is_read}
use Rattle.r4_history.proofs.examples.reading_fuses.Goals as goal

pub returns : goal.returns
returns c = five_is_read
