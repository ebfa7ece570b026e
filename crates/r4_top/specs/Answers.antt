-- What the top call answers (docs/program.md, "Lines and statuses").
use Rattle.std.specs.Prelude.{◌≡◌, ℕ, Option, Some, None, IfSome}
use Rattle.r4_base.specs.Image.{Image}
use Rattle.r4_outside.specs.Device.{State, Untouched}
use Rattle.r4_outside.specs.Sink.{SinkState}
use Rattle.r4_outside.specs.Source.{SourceState}
use Rattle.r4_replay.specs.Replay.{SettlesAlways}
use Rattle.r4_lines.specs.Lines.{usage_line}
use Rattle.r4_lines.specs.Printed.{Prints}
use Rattle.r4_run.specs.Completing.{IsClear, IsUnhindered}
use Rattle.r4_run.specs.Generated.{RunsWorkload}
use Rattle.r4_run.specs.Scripts.{Runs}
use Rattle.r4_words.specs.Options.{RunAsked, StopAsked}
use Rattle.r4_words.specs.Words.{Asked, AsksOffline, AsksRun}
use Rattle.r4_offline.specs.Answers.{Answers as AnswersOffline, HasMoments as HasMomentsOffline}

-- faulty words: the device is not called
pub record RefusesWords (d : State) (k : SinkState) (code : ℕ) (d' : State) (k' : SinkState) : Type 0 where
  pub two : code ≡ 2
  pub idle : Untouched d d'
  pub line : Prints usage_line k k'

-- the words ask for a run
abbrev pub IsRun : Option Asked → Type 0
IsRun None = ⊥
IsRun (Some (AsksOffline asked)) = ⊥
IsRun (Some (AsksRun run)) = Unit {0}

-- What a call answers, by what its words ask for, or faulty words. What a run answers, its trace tells.
abbrev pub Answers : Option Asked → State → SinkState → ℕ → State → SinkState → Type 0
Answers None d k code d' k' = RefusesWords d k code d' k'
Answers (Some (AsksOffline asked)) d k code d' k' = AnswersOffline asked d k code d' k'
Answers (Some (AsksRun run)) d k code d' k' = Unit {0}

-- only a run of scripts reads the source
abbrev pub LeavesSource : Option Asked → (old new : SourceState) → Type 0
LeavesSource None old new = new ≡ old
LeavesSource (Some (AsksOffline asked)) old new = new ≡ old
LeavesSource (Some (AsksRun run)) old new = IfSome run.seed (λ seed. new ≡ old)

-- What crashes leave at any moment of a call on a quiet device; for a run its trace tells that.
abbrev pub HasMoments : Option Asked → State → State → Type 0
HasMoments None d d' = SettlesAlways d d'
HasMoments (Some (AsksOffline asked)) d d' = HasMomentsOffline asked d d'
HasMoments (Some (AsksRun run)) d d' = Unit {0}

-- ---- a run

-- What a run does: of the scripts of the source, or of the generated workload of a seed.
abbrev pub RunsFrom : (seed : Option ℕ) (stop : Option StopAsked) (start : Option Image) (clock : Option ℕ)
    (s s' : SourceState) (d : State) (k : SinkState) (code : ℕ) (d' : State) (k' : SinkState) → Type 0
RunsFrom None stop start clock s s' d k code d' k' = Runs stop start clock s s' d k code d' k'
RunsFrom (Some seed) stop start clock s s' d k code d' k' = RunsWorkload seed stop start clock d k code d' k'

abbrev pub RunsAsked : (asked : RunAsked) (start : Option Image) (clock : Option ℕ) (s s' : SourceState) (d : State)
    (k : SinkState) (code : ℕ) (d' : State) (k' : SinkState) → Type 0
RunsAsked asked start clock s s' d k code d' k' =
    RunsFrom asked.seed asked.stop start clock s s' d k code d' k'

-- Nothing stands against it. Where no scripts are read, it is no matter what the source tells.
abbrev pub IsFree : (seed : Option ℕ) (s s' : SourceState) (d d' : State) (k k' : SinkState) → Type 0
IsFree None s s' d d' k k' = IsUnhindered s s' d d' k k'
IsFree (Some seed) s s' d d' k k' = IsClear d d' k k'
