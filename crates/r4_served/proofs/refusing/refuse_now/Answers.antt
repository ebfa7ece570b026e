use Rattle.r4_served.proofs.Refused.{one_entry}
use Rattle.r4_served.proofs.refusing.refuse_now.Goals as goal

pub refuse-requires-clause-room : goal.refuse-requires-clause-room
refuse-requires-clause-room g c κs within =
    one_entry c.args.core.now c.args.script c.requires.servable.1.stands.is_script c.requires.room

pub refuse-requires-in-Some-false-clause-room : goal.refuse-requires-in-Some-false-clause-room
refuse-requires-in-Some-false-clause-room g c κs within =
    one_entry c.args.core.now c.args.script c.requires.servable.1.stands.is_script c.requires.room
