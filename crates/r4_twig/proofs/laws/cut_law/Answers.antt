use Rattle.std.proofs.Common.{◌/◌}
use Rattle.r4_twig.proofs.Cuts.{block_of-cut_at, blocks_in-cut_at, length-cut_at}
use Rattle.r4_twig.proofs.laws.cut_law.Goals as goal

pub returns-clause-bytes : goal.returns-clause-bytes
returns-clause-bytes c = λ us i k b h. block_of-cut_at us i k (b / 4096) h

pub returns-clause-blocks : goal.returns-clause-blocks
returns-clause-blocks c = blocks_in-cut_at

pub returns-clause-units : goal.returns-clause-units
returns-clause-units c = length-cut_at
