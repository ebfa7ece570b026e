-- A run without a stop comes to its end where nothing stands against it.
use Rattle.std.proofs.Common.{◌≡◌, ◌⊎◌, ◌∙◌, ℕ, Option, Some, None, subst}
use Rattle.r4_base.specs.Image.{Image}
use Rattle.r4_outside.specs.Device.{Goes, State}
use Rattle.r4_outside.specs.Sink.{SinkState}
use Rattle.r4_outside.specs.Source.{SourceState}
use Rattle.r4_run.proofs.Completed.{completed, workload_comes}
use Rattle.r4_run.specs.Completing.{IsClear, IsUnhindered}
use Rattle.r4_run.specs.Generated.{RunsWorkload}
use Rattle.r4_run.specs.Scripts.{Runs}
use Rattle.r4_top.specs.Answers.{IsFree, RunsAsked}
use Rattle.r4_words.specs.Options.{RunAsked, StopAsked}
use Rattle.r4_words.specs.Words.{Asked, AsksRun}

module _ (start : Option Image) (clock : Option ℕ) (s s' : SourceState) (d : State) (k : SinkState) (code : ℕ)
    (d' : State) (k' : SinkState) (stop : Option StopAsked) (none : stop ≡ None) (goes : Goes d d') where
  pub scripts_complete : IsUnhindered s s' d d' k k' → Runs stop start clock s s' d k code d' k'
      → (code ≡ 0) ⊎ (code ≡ 9)
  scripts_complete u runs =
      completed start clock s s' d k code d' k' goes u
      (subst (λ x. Runs x start clock s s' d k code d' k') none runs)

  pub workload_completes : (seed : ℕ) → IsClear d d' k k' → RunsWorkload seed stop start clock d k code d' k'
      → (code ≡ 0) ⊎ (code ≡ 9)
  workload_completes seed u runs =
      workload_comes d k code d' k' goes u seed start clock
      (subst (λ x. RunsWorkload seed x start clock d k code d' k') none runs)

-- the words ask for one run
pub one_run : (a b : RunAsked) (o : Option Asked) → Some (AsksRun a) ≡ o → o ≡ Some (AsksRun b) → a ≡ b
one_run a b o is was = let both = is ∙ was in cc (both)

pub runs_so : (a b : RunAsked) → a ≡ b → (start : Option Image) (clock : Option ℕ) (s s' : SourceState) (d : State)
    (k : SinkState) (code : ℕ) (d' : State) (k' : SinkState) → RunsAsked a start clock s s' d k code d' k'
    → RunsAsked b start clock s s' d k code d' k'
runs_so a b same start clock s s' d k code d' k' runs =
    subst (λ (x : RunAsked). RunsAsked x start clock s s' d k code d' k') same runs

pub completes_so : (a b : RunAsked) → a ≡ b → (s s' : SourceState) (d d' : State) (k k' : SinkState) (code : ℕ)
    → (a.stop ≡ None → IsFree a.seed s s' d d' k k' → (code ≡ 0) ⊎ (code ≡ 9))
    → b.stop ≡ None → IsFree b.seed s s' d d' k k' → (code ≡ 0) ⊎ (code ≡ 9)
completes_so a b same s s' d d' k k' code comes =
    subst (λ (x : RunAsked). x.stop ≡ None → IsFree x.seed s s' d d' k k' → (code ≡ 0) ⊎ (code ≡ 9)) same comes
