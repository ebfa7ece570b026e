use Rattle.r4_node40.specs.Loan.{bytes_of}
use Rattle.r4_branch.proofs.Filled.{fresh_filled}
use Rattle.r4_branch.proofs.packing.fill_block.Goals as goal

pub fill-requires-clause-empty : goal.fill-requires-clause-empty
fill-requires-clause-empty c = λ lo. fresh_filled lo _ (bytes_of c.format-node.result) c.format-node.ensures.fresh
