use Rattle.std.proofs.Common.{◌∙◌, ap, length, sym}
use Rattle.r4_back.proofs.NextRoom.{room_of_commit, room_of_pushed}
use Rattle.r4_back.proofs.next.refusals_have_room.Goals as goal

pub returns-clause-commit : goal.returns-clause-commit
returns-clause-commit g c = λ s is next.
    let core = c.args.core.now in
    let turns = c.turns.ensures in
    room_of_commit _ _ core c.lawful.ensures.kept
    (ap (λ t. length t.turns) (sym turns) ∙ sym c.count.ensures.turns ∙ c.count.ensures.scripts
    ∙ ap (λ t. length t.job.scripts) turns) s is next

pub returns-clause-pushed : goal.returns-clause-pushed
returns-clause-pushed g c = λ s x is whole.
    room_of_pushed _ _ c.args.core.now c.lawful.ensures.kept s x whole
