use Rattle.std.proofs.Common.{◌+◌, ◌-◌, drop, arith}
use Rattle.r4_path.specs.Rows.{row_items}
use Rattle.r4_path.proofs.Putting.{part_less}
use Rattle.r4_path.proofs.row.Row.fill.Goals as goal

pub put-requires-clause-room : goal.put-requires-clause-room
put-requires-clause-room c =
    let lt = c.loop-i-test.true in
    let less = part_less (c.loop-i.i + 1 - c.args.from) (c.args.to - c.args.from)
    (drop c.args.from (row_items c.args.self.now)) (omega (arith, lt)) in
    let room = c.requires.room in
    omega (arith, less, room)
