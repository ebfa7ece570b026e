use Rattle.r4_locks.proofs.ConflictLaws.{all_free, first_is}
use Rattle.r4_locks.proofs.laws.conflict_law.Goals as goal

pub returns-clause-found : goal.returns-clause-found
returns-clause-found c t mine wanted names node holder found = first_is t mine wanted names node holder found

pub returns-clause-none : goal.returns-clause-none
returns-clause-none c t mine wanted names none = all_free t mine wanted names none
