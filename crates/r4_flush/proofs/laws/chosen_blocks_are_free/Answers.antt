use Rattle.r4_flush.proofs.Standing.{name_none, stands_off}
use Rattle.r4_flush.proofs.laws.chosen_blocks_are_free.Goals as goal

pub returns : goal.returns
returns c = record { off = stands_off; named = name_none }
