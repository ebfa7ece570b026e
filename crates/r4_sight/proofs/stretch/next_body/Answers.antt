use Rattle.std.proofs.Common.{arith}
use Rattle.r4_base.specs.Key.{rank, top}
use Rattle.r4_sight.proofs.stretch.next_body.Goals as goal

pub overflow_add-result-2 : goal.overflow_add-result-2
unfolding rank top
overflow_add-result-2 c =
    let order = c.if-ordering-lt18446744073709551615.false in
    let oid = c.if-oid-lt18446744073709551615.false in
    let room = c.requires in
    omega (arith, order, oid, room)
