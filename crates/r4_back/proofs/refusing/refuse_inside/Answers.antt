use Rattle.std.proofs.Common.{◌∙◌}
use Rattle.r4_back.proofs.Back.{broken_then, refusable_then, room_then}
use Rattle.r4_back.proofs.refusing.refuse_inside.Goals as goal

pub refuse-requires-clause-sound : goal.refuse-requires-clause-sound
refuse-requires-clause-sound g c κs within =
    let (out, is) = c.requires.out in
    broken_then _ _ c.args.core.now c.lawful.ensures.kept c.args.script.0 out is c.take_back.new.self
    (c.take_back.ensures out is.is_out) ∙ c.requires.sound

pub refuse-requires-clause-refusable : goal.refuse-requires-clause-refusable
refuse-requires-clause-refusable g c κs within =
    let (out, is) = c.requires.out in
    refusable_then _ _ c.args.core.now c.lawful.ensures.kept c.args.script.0 out is c.take_back.new.self
    (c.take_back.ensures out is.is_out) c.args.txn c.requires.own

pub refuse-requires-clause-room : goal.refuse-requires-clause-room
refuse-requires-clause-room g c κs within =
    let (out, is) = c.requires.out in
    room_then _ _ c.args.core.now c.lawful.ensures.kept c.args.script.0 out is c.take_back.new.self
    (c.take_back.ensures out is.is_out)

pub returns : goal.returns
returns g c = λ out is. (c.take_back.new.self, c.take_back.ensures out is.is_out, c.refuse.ensures)
