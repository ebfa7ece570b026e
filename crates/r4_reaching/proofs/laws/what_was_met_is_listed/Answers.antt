use Rattle.r4_reaching.proofs.Listed.{as_marked, hangs_together, same_store}
use Rattle.r4_reaching.proofs.laws.what_was_met_is_listed.Goals as goal

pub returns-clause-store : goal.returns-clause-store
returns-clause-store c = same_store

pub returns-clause-hangs : goal.returns-clause-hangs
returns-clause-hangs c = hangs_together

pub returns-clause-ordered : goal.returns-clause-ordered
returns-clause-ordered c = as_marked
