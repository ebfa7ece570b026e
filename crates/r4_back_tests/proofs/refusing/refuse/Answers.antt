use Rattle.std.proofs.Common.{arith}
use Rattle.r4_core_testing.proofs.r4_kept.Turning.{owed_answered}
use Rattle.r4_back_tests.proofs.refusing.refuse.Goals as goal

pub refuse_next-requires-clause-room : goal.refuse_next-requires-clause-room
refuse_next-requires-clause-room c κs =
    let is = c.if-not-is_refusable.ensures in
    let less = owed_answered c.make_room.new.self.turns c.args.script.0 is.stands.is_script in
    omega (arith, less, c.in_ok-make_room.ensures.ok.entries)
