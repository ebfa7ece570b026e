-- What the two streams tell.
use Rattle.std.specs.Prelude.{ℕ, None}
use Rattle.r4_outside.specs.Source.{SourceState}
use Rattle.r4_outside.specs.Sink.{SinkState}

-- A stream tells its count of faults alone.
abbrev pub input_state : (faults : ℕ) → SourceState
input_state faults = record { rest = None; faults = faults }

abbrev pub output_state : (faults : ℕ) → SinkState
output_state faults = record { written = None; faults = faults }
