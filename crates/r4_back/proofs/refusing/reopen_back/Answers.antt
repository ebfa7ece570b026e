use Rattle.std.proofs.Common.{◌∙◌}
use Rattle.r4_back.proofs.Back.{broken_then, free_then, room_then, script_then, some_then}
use Rattle.r4_back.proofs.refusing.reopen_back.Goals as goal

pub reopen-requires-clause-failed : goal.reopen-requires-clause-failed
reopen-requires-clause-failed g c κs within =
    let (out, is) = c.requires.out in
    broken_then _ _ c.args.core.now c.lawful.ensures.kept c.args.script.0 out is c.take_back.new.self
    (c.take_back.ensures out is.is_out) ∙ c.requires.failed

pub reopen-requires-clause-script : goal.reopen-requires-clause-script
reopen-requires-clause-script g c κs within =
    let (out, is) = c.requires.out in
    script_then _ _ c.args.core.now c.lawful.ensures.kept c.args.script.0 out is c.take_back.new.self
    (c.take_back.ensures out is.is_out)

pub reopen-requires-clause-next : goal.reopen-requires-clause-next
reopen-requires-clause-next g c κs within =
    let (out, is) = c.requires.out in
    some_then _ _ c.args.core.now c.lawful.ensures.kept c.args.script.0 out is c.take_back.new.self
    (c.take_back.ensures out is.is_out)

pub reopen-requires-clause-free : goal.reopen-requires-clause-free
reopen-requires-clause-free g c κs within =
    let (out, is) = c.requires.out in
    free_then _ _ c.args.core.now c.lawful.ensures.kept c.args.script.0 out is c.take_back.new.self
    (c.take_back.ensures out is.is_out)

pub reopen-requires-clause-room : goal.reopen-requires-clause-room
reopen-requires-clause-room g c κs within =
    let (out, is) = c.requires.out in
    room_then _ _ c.args.core.now c.lawful.ensures.kept c.args.script.0 out is c.take_back.new.self
    (c.take_back.ensures out is.is_out)

pub returns : goal.returns
returns g c = λ out is. (c.take_back.new.self, c.take_back.ensures out is.is_out, c.reopen.ensures)
