use Rattle.std.proofs.Common.{arith}
use Rattle.std.specs.Ordering.{nat_cmp}
use Rattle.std.specs.BTreeMap.{get}
use Rattle.r4_flush.specs.Anew.{new_name, unit_anew}
use Rattle.r4_flush.proofs.Spelled.{units_same}
use Rattle.r4_flush.proofs.bodies.has_other.Goals as goal

pub returns : goal.returns
returns c = λ no. units_same (unit_anew (new_name (get nat_cmp c.args.names.now))) c.args.body.now c.loop-i.i
    (omega arith) c.loop-i.invariant
