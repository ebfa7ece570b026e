use Rattle.std.proofs.Common.{◌/◌}
use Rattle.r4_twig.proofs.Joins.{block_of-joined, blocks_in-joined, apart-joined, length-joined, widths-joined}
use Rattle.r4_twig.proofs.laws.join_law.Goals as goal

pub returns-clause-bytes : goal.returns-clause-bytes
returns-clause-bytes c = λ us b. block_of-joined us (b / 4096)

pub returns-clause-blocks : goal.returns-clause-blocks
returns-clause-blocks c = blocks_in-joined

pub returns-clause-apart : goal.returns-clause-apart
returns-clause-apart c = apart-joined

pub returns-clause-units : goal.returns-clause-units
returns-clause-units c = length-joined

pub returns-clause-fits : goal.returns-clause-fits
returns-clause-fits c = widths-joined
