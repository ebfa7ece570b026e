use Rattle.r4_twig.proofs.Faults.{body_lawful, body_none, none_lawful, lawful_none, body_larger}
use Rattle.r4_twig.proofs.laws.fault_law.Goals as goal

pub returns-clause-body : goal.returns-clause-body
returns-clause-body c = λ in_memory blocks b. (body_lawful in_memory blocks b, body_none in_memory blocks b)

pub returns-clause-unit : goal.returns-clause-unit
returns-clause-unit c = λ in_memory blocks i u. (none_lawful in_memory blocks i u, lawful_none in_memory blocks i u)

pub returns-clause-larger : goal.returns-clause-larger
returns-clause-larger c = body_larger
