use Rattle.std.proofs.Common.{◌∙◌, Some, ap, refl, subst, sym}
use Rattle.std.specs.Prelude.{Option, option_map}
use Rattle.r4_outside.proofs.Moments.{goes_same}
use Rattle.r4_replay.proofs.Idling.{idle_always}
use Rattle.r4_top.specs.Answers.{HasMoments}
use Rattle.r4_words.specs.Words.{Asked, asked_by}
use Rattle.r4_words.specs.Options.{asked_run}
use Rattle.r4_top.proofs.Completes.{completes_so, one_run, runs_so}
use Rattle.r4_top.proofs.top.r4_main.Goals as goal

pub returns-in-None-clause-any_moment : goal.returns-in-None-clause-any_moment
returns-in-None-clause-any_moment g c = λ quiet.
    let d = g.D.Device.state c.args.dev.now in
    subst (λ (a : Option Asked). HasMoments a d d) (sym (ap (option_map asked_by) c.in-None.is) ∙ c.read_words.ensures.asked) (idle_always d d (goes_same d) refl quiet)

pub returns-in-Some-Run-clause-runs : goal.returns-in-Some-Run-clause-runs
returns-in-Some-Run-clause-runs g c = λ asked is.
    let words = asked_run c.in-Some-Run.words in
    runs_so words asked (one_run words asked _ (sym (ap (option_map asked_by) (c.in-Some-Run.is ∙ ap Some c.in-Some-Run.field-0-is)) ∙ c.read_words.ensures.asked) is)
    _ _ _ _ _ _ _ _ _ c.run_asked.ensures.runs

pub returns-in-Some-Run-clause-complete : goal.returns-in-Some-Run-clause-complete
returns-in-Some-Run-clause-complete g c = λ asked is.
    let words = asked_run c.in-Some-Run.words in
    completes_so words asked (one_run words asked _ (sym (ap (option_map asked_by) (c.in-Some-Run.is ∙ ap Some c.in-Some-Run.field-0-is)) ∙ c.read_words.ensures.asked) is)
    _ _ _ _ _ _ _ c.run_asked.ensures.complete
