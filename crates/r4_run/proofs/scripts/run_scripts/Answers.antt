use Rattle.std.proofs.Common.{arith, subst}
use Rattle.std.specs.Option.{option_map}
use Rattle.r4_words.specs.Options.{asked_stop}
use Rattle.r4_run.specs.Scripts.{Runs}
use Rattle.r4_run.proofs.Scripted.{is_run, no_job}
use Rattle.r4_run.proofs.scripts.run_scripts.Goals as goal

pub returns-in-Err-parse-clause-runs : goal.returns-in-Err-parse-clause-runs
returns-in-Err-parse-clause-runs g c =
    let r = c.read_text.ensures in
    let d = g.D.Device.state c.args.dev.now in
    no_job _ _ _ _ _ d d _ _ r.told r.faults c.in-Ok.text.items c.as_slice.result.now c.in-Ok.ensures.job
    c.as_slice.ensures.value _ c.in-Err-parse.fault c.in-Err-parse.ensures.exact c.tell_fault.ensures

pub returns-clause-runs : goal.returns-clause-runs
returns-clause-runs g c =
    let r = c.read_text.ensures in
    let d = g.D.Device.state in
    let k = g.K.Sink.state in
    let ran = is_run _ _ _ _ _ (d c.args.dev.now) (d c.run_text-code.result.dev.now) _ _ r.told r.faults
    c.in-Ok.text.items c.as_slice.result.now c.in-Ok.ensures.job c.as_slice.ensures.value _ _ _ c.in-Ok-parse.job
    c.in-Ok-parse.ensures.exact c.run_text-code.ensures.ran in
    subst (λ x. Runs (option_map asked_stop c.args.stop) g.R.Run.start g.R.Run.clock
    (g.S.Source.state c.args.script.now) (g.S.Source.state c.read_text.new.source)
    (d c.args.dev.now) (k c.args.out.now) c.run_text-code.result.code (d x) (k c.run_text-code.new.out))
    (grind (arith, c.run_text-code.ensures.goes.lender)) ran
