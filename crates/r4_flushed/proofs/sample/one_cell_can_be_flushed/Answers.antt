use Rattle.r4_flushed.proofs.OneCell.{at_rest, is_sealed}
use Rattle.r4_flushed.proofs.sample.one_cell_can_be_flushed.Goals as goal

pub returns : goal.returns
returns g = record { rest = at_rest; sealed = is_sealed }
