use Rattle.r4_locks.proofs.ConflictLaws.{same_conflict}
use Rattle.r4_locks.proofs.laws.no_holds_law.Goals as goal

pub returns : goal.returns
returns c t who reads writes none = same_conflict t who reads writes none
