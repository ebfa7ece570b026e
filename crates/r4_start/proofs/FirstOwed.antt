-- The entries that the `commit` commands of a job need.
use Rattle.std.proofs.Common.{◌≡◌, List, [], ◌∷◌, length, replicate, refl, arith}
use Rattle.std.specs.Prelude.{count_by, sum_by}
use Rattle.std.proofs.lemmas.List.Sums.{sum_by-cons}
use Rattle.r4_rooms.specs.r4_kept.History.{is_commit, owed, owed_in}
use Rattle.r4_script.specs.declared.job.Job.{Job}
use Rattle.r4_script.specs.declared.job.Script.{Script}
use Rattle.r4_rooms.specs.r4_turns.Turns.{start, started}

-- each `commit` of a job needs an entry
owed_first : (scripts : List Script) → sum_by (λ (x : Script). count_by is_commit x.commands) scripts
    ≡ owed_in (replicate (length scripts) start) scripts
owed_first [] = refl
owed_first (x ∷ scripts) =
    let e = sum_by-cons (λ (y : Script). count_by is_commit y.commands) x scripts in
    let h = owed_first scripts in
    omega (arith, e, h)

pub first_owed : (job : Job) → sum_by (λ (x : Script). count_by is_commit x.commands) job.scripts ≡ owed (started job)
first_owed job = owed_first job.scripts
