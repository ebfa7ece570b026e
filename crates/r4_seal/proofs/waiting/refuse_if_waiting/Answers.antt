use Rattle.r4_seal.proofs.Refusing.{refusable, room_to_refuse}
use Rattle.r4_seal.proofs.waiting.refuse_if_waiting.Goals as goal

pub refuse-requires-clause-refusable : goal.refuse-requires-clause-refusable
refuse-requires-clause-refusable g c κs within =
    refusable _ _ _ c.lawful.ensures.kept c.requires.sound c.args.atom.0 c.args.script c.if-waits.ensures

pub refuse-requires-clause-room : goal.refuse-requires-clause-room
refuse-requires-clause-room g c κs within =
    room_to_refuse _ _ _ c.lawful.ensures.kept c.requires.sound c.args.atom.0 c.args.script c.if-waits.ensures
