use Rattle.std.proofs.Common.{subst}
use Rattle.std.specs.Prelude.{option_map}
use Rattle.r4_words.specs.Options.{asked_stop}
use Rattle.r4_top.specs.Answers.{IsFree}
use Rattle.r4_top.proofs.Completes.{scripts_complete, workload_completes}
use Rattle.r4_top.proofs.top.run_asked.Goals as goal

pub returns-in-None-clause-complete : goal.returns-in-None-clause-complete
returns-in-None-clause-complete g c = λ no_stop u.
    let d = g.D.Device.state in let k = g.K.Sink.state in let s = g.S.Source.state in
    let run = c.run_scripts in
    let free = subst (λ o. IsFree o (s c.args.script.now) (s run.new.script) (d c.args.dev.now) (d run.new.dev)
    (k c.args.out.now) (k run.new.out)) c.in-None.is u in
    scripts_complete g.R.Run.start g.R.Run.clock (s c.args.script.now) (s run.new.script) (d c.args.dev.now)
    (k c.args.out.now) run.result (d run.new.dev) (k run.new.out) (option_map asked_stop c.args.words.stop) no_stop
    run.ensures.goes free run.ensures.runs

pub returns-in-Some-clause-complete : goal.returns-in-Some-clause-complete
returns-in-Some-clause-complete g c = λ no_stop u.
    let d = g.D.Device.state in let k = g.K.Sink.state in let s = g.S.Source.state in
    let run = c.run_generated in
    let free = subst (λ o. IsFree o (s c.args.script.now) (s c.args.script.now) (d c.args.dev.now) (d run.new.dev)
    (k c.args.out.now) (k run.new.out)) c.in-Some.is u in
    workload_completes g.R.Run.start g.R.Run.clock (s c.args.script.now) (s c.args.script.now) (d c.args.dev.now)
    (k c.args.out.now) run.result (d run.new.dev) (k run.new.out) (option_map asked_stop c.args.words.stop) no_stop
    run.ensures.goes c.in-Some.seed free run.ensures.runs
