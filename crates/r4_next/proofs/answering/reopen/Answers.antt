use Rattle.r4_next.proofs.Found.{room_for_one}
use Rattle.r4_next.proofs.answering.reopen.Goals as goal

pub reopen-requires-clause-room : goal.reopen-requires-clause-room
reopen-requires-clause-room g c κs within =
    room_for_one c.args.core.now c.make_room.new.self c.make_room.ensures.more c.args.script.0 c.requires.script
    c.in_ok-make_room.ensures.ok.entries
