use Rattle.std.proofs.Common.{arith, subst}
use Rattle.std.specs.Option.{option_map}
use Rattle.r4_words.specs.Options.{asked_stop}
use Rattle.r4_run.specs.Generated.{RunsWorkload}
use Rattle.r4_outside.proofs.Lent.{goes_lent}
use Rattle.r4_outside.specs.Device.{Goes}
use Rattle.r4_run.proofs.Scripted.{begins_lent, workload_run, workload_unmade}
use Rattle.r4_run.proofs.generated.run_generated.Goals as goal

pub returns-in_default-clause-runs : goal.returns-in_default-clause-runs
returns-in_default-clause-runs g c =
    let d = g.D.Device.state c.args.dev.now in
    workload_unmade (option_map asked_stop c.args.stop) g.R.Run.start g.R.Run.clock c.args.seed d d _ _ _
    c.tell_memory.ensures.code c.tell_memory.ensures.line

pub returns-clause-runs : goal.returns-clause-runs
returns-clause-runs g c =
    let d = g.D.Device.state in
    let k = g.K.Sink.state in
    let run = c.run_job-code in
    let ran = workload_run (option_map asked_stop c.args.stop) g.R.Run.start g.R.Run.clock c.args.seed
    (d c.args.dev.now) (d run.result.dev.now) _ _ run.result.code _ _ c.in-Ok.job c.in-Ok.ensures.job run.ensures.ran in
    subst (λ x. RunsWorkload c.args.seed (option_map asked_stop c.args.stop) g.R.Run.start g.R.Run.clock
    (d c.args.dev.now) (k c.args.out.now) run.result.code (d x) (k run.new.out))
    (grind (arith, run.ensures.goes.lender)) ran

pub run_job-code-requires-clause-begins : goal.run_job-code-requires-clause-begins
run_job-code-requires-clause-begins g c κs within =
    begins_lent g.R.Run.start g.R.Run.clock _ _ c.requires.begins

pub returns-clause-goes : goal.returns-clause-goes
returns-clause-goes g c =
    let d = g.D.Device.state in
    let run = c.run_job-code in
    subst (λ x. Goes (d c.args.dev.now) (d x)) (grind (arith, run.ensures.goes.lender))
    (goes_lent _ _ (d c.args.dev.now) (d run.result.dev.now) run.ensures.goes)
