use Rattle.std.proofs.Common.{◌≡◌, take}
use Rattle.std.specs.Prelude.{count_by, sum_by}
use Rattle.r4_script.specs.declared.job.Script.{Script}
use Rattle.r4_rooms.specs.r4_kept.History.{is_commit}
use Rattle.r4_start.proofs.starting.all_commits.Given as goal

abbrev pub invariant-loop-script : goal.invariant-loop-script
invariant-loop-script l =
    l.all ≡ sum_by (λ (s : Script). count_by is_commit s.commands) (take l.script-index l.job.scripts)
