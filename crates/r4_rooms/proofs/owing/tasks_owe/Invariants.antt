use Rattle.std.proofs.Common.{take}
use Rattle.r4_rooms.specs.Rooms.{AreOwed}
use Rattle.r4_rooms.proofs.owing.tasks_owe.Given as goal

abbrev pub invariant-loop-place : goal.invariant-loop-place
invariant-loop-place l = AreOwed (take l.place l.turns.turns) l.owed
