use Rattle.std.proofs.Common.{◌≡◌, sym, ap, ◌∙◌, subst}
use Rattle.r4_outside.specs.Device.{LeavesOnly}
use Rattle.r4_wander.specs.Progress.{Commits, Progress, Stands}
use Rattle.r4_wander.specs.Safe.{ByPart}
use Rattle.r4_commit.specs.Planned.{CommitSeen}
use Rattle.r4_commit.proofs.KeptVolumes.{step_leaves}
use Rattle.r4_commit.proofs.commit_plan.step.Goals as goal

pub returns-clause-needed : goal.returns-clause-needed
returns-clause-needed g c = λ n base chain p m v commits stands other free.
    let same : c.plan.inside.writer ≡ c.args.plan.now.work = ap (λ (s : CommitSeen). s.work) c.plan.view_is in
    c.step.ensures.needed n base chain p m v
    (subst (λ (w : Progress). Commits w n base chain p) (sym same) commits)
    (subst (λ (w : Progress). Stands w base (g.D.Device.state c.args.dev.now)) (sym same) stands)
    (λ is. other (sym (ap (λ (w : Progress). w.part) same) ∙ is)) free

pub returns-clause-volumes : goal.returns-clause-volumes
returns-clause-volumes g c = λ n base chain s atom cells answers next last p m v f h spoken commits stands.
    let same : c.plan.inside.writer ≡ c.args.plan.now.work = ap (λ (s : CommitSeen). s.work) c.plan.view_is in
    let left = c.step.ensures.settles n base chain p
    (subst (λ (w : Progress). Commits w n base chain p) (sym same) commits)
    (subst (λ (w : Progress). Stands w base (g.D.Device.state c.args.dev.now)) (sym same) stands) in
    step_leaves c.args.plan.now.work n base chain s atom cells answers next last p m v (g.D.Device.state c.args.dev.now) (g.D.Device.state c.step.new.dev) f h spoken commits stands c.step.ensures.goes
    (subst (λ (w : Progress). LeavesOnly (g.D.Device.state c.args.dev.now) (g.D.Device.state c.step.new.dev) (ByPart n base chain p w.part)) same left)
