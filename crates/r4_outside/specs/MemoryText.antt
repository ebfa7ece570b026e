-- What sources and sinks in memory tell.
use Rattle.std.specs.Prelude.{ℕ, List, drop, Some, vec_capacity}
use Rattle.r4_outside.specs.Source.{SourceState}
use Rattle.r4_outside.specs.Sink.{SinkState}
use Rattle.r4_outside.specs.declared.memory_text.MemorySource.{MemorySource}
use Rattle.r4_outside.specs.declared.memory_text.MemorySink.{MemorySink}

-- the bytes from the place on where the next read begins
abbrev pub source_state : MemorySource → SourceState
source_state s = record { rest = Some (drop s.at s.bytes.items); faults = s.faults }

-- the reads that are to fail
abbrev pub source_fails : MemorySource → List ℕ
source_fails s = s.fails.items

-- all the bytes that were written
abbrev pub sink_state : MemorySink → SinkState
sink_state s = record { written = Some s.bytes.items; faults = s.faults }

-- the writes that are to fail
abbrev pub sink_fails : MemorySink → List ℕ
sink_fails s = s.fails.items

-- how many bytes in all it takes without memory
abbrev pub sink_room : MemorySink → ℕ
sink_room s = vec_capacity s.bytes

-- how many reads were made, and how many writes
abbrev pub source_calls : MemorySource → ℕ
source_calls s = s.made

abbrev pub sink_calls : MemorySink → ℕ
sink_calls s = s.made

-- all the bytes so far
abbrev pub written_of : MemorySink → List ℕ
written_of s = s.bytes.items
