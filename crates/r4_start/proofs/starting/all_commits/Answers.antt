use Rattle.std.proofs.Common.{◌≤◌, List, ap, length, subst, ◌∙◌}
use Rattle.std.specs.Prelude.{count_by, sum_by}
use Rattle.std.proofs.lemmas.List.{take_all}
use Rattle.r4_script.specs.declared.job.Script.{Script}
use Rattle.r4_rooms.specs.r4_kept.History.{is_commit}
use Rattle.r4_start.proofs.FirstOwed.{first_owed}
use Rattle.r4_start.proofs.starting.all_commits.Goals as goal

pub returns : goal.returns
returns c =
    c.loop-script.invariant
    ∙ ap (λ (l : List Script). sum_by (λ (s : Script). count_by is_commit s.commands) l)
    (take_all c.loop-script.script-index c.args.job.now.scripts
    (subst (λ (l : List Script). length l ≤ c.loop-script.script-index) c.as_slice-script-items.ensures
    c.loop-script-test.false))
    ∙ first_owed c.args.job.now
