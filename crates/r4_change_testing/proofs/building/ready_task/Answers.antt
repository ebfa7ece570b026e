use Rattle.r4_change_testing.proofs.Ready.{buildable, edits_suit}
use Rattle.r4_change_testing.proofs.building.ready_task.Goals as goal

pub returns-clause-can : goal.returns-clause-can
returns-clause-can c =
    let (p, h) = c.requires.reach in
    rw (c.in_ok-new.ensures.ok)
    (buildable p c.args.root c.args.command c.args.reach h c.requires.ready c.requires.paths)

pub returns-clause-suits : goal.returns-clause-suits
returns-clause-suits c =
    let (p, h) = c.requires.reach in
    rw (c.in_ok-new.ensures.ok)
    (edits_suit p c.args.root c.args.command c.args.reach h c.requires.ready c.requires.paths
    c.commands_of_leaves_may_ask.ensures.edits)
