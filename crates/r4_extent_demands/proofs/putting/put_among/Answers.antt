use Rattle.std.proofs.Common.{ap, arith, length}
use Rattle.r4_extent_demands.proofs.putting.put_among.Goals as goal

pub put_each-requires-clause-few : goal.put_each-requires-clause-few
put_each-requires-clause-few c =
    let short = c.in_ok-ranges.ensures.short in
    let same = ap length c.as_slice.ensures.value in
    omega (arith, short, same)
