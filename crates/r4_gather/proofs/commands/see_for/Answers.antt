use Rattle.std.proofs.Common.{◌∙◌, sym, subst}
use Rattle.std.proofs.lemmas.Result.{on_err_weaker, on_ok_weaker}
use Rattle.r4_content.specs.Meaning.{course, greatest_size}
use Rattle.r4_content.specs.Seen.{of_seen}
use Rattle.r4_gather.specs.Asking.{EndsIn}
use Rattle.r4_gather.proofs.Beginning.{asking_is, later_same}
use Rattle.r4_gather.proofs.commands.see_for.Goals as goal

pub returns-clause-asked : goal.returns-clause-asked
returns-clause-asked g c =
    let new = g.S.Sight.state c.see_course.new.sight in
    let is = asking_is (course greatest_size c.args.command.now) (of_seen new.seen)
    (g.S.Sight.state c.args.sight.now).asked in
    on_ok_weaker c.see_course.result (λ h. sym (h new (later_same new)) ∙ is) c.see_course.ensures.asked

pub returns-clause-stops : goal.returns-clause-stops
returns-clause-stops g c =
    let new = g.S.Sight.state c.see_course.new.sight in
    let is = asking_is (course greatest_size c.args.command.now) (of_seen new.seen)
    (g.S.Sight.state c.args.sight.now).asked in
    on_err_weaker c.see_course.result (λ h. subst (λ xs. EndsIn new.asked xs) is (h new (later_same new)))
    c.see_course.ensures.stops
