-- What is written of a text, line by line (docs/scripts.md, "The trace").
use Rattle.std.specs.Prelude.{◌≡◌, ◌↔◌, ◌++◌, ℕ, ◌≤◌, List, Some, IsSome}
use Rattle.std.specs.Prelude.{Result, IfErr, OnOk, OnErr}
use Rattle.r4_outside.specs.Device.{Rose}
use Rattle.r4_outside.specs.Sink.{AppendsPart, SinkState}
use Rattle.r4_print.specs.declared.printing.PrintFault.{PrintFault}
use Rattle.r4_print.specs.declared.printing.PrintFault.TheVariants.{Memory, Sink}

-- where the sink failed it counts that
abbrev pub HasCause : (old new : SinkState) → PrintFault → Type 0
HasCause old new Sink = Rose old.faults new.faults
HasCause old new Memory = Unit {0}

-- All the bytes are appended, or a prefix of them, for a cause.
pub record Prints {T : Type 0}
    (bytes : List ℕ) (old : SinkState) (result : Result T PrintFault) (new : SinkState)
    : Type 0 where
  pub told : IsSome new.written ↔ IsSome old.written
  pub faults : old.faults ≤ new.faults
  pub cause : IfErr result (HasCause old new)
  pub whole : (before : List ℕ) → old.written ≡ Some before
      → OnOk result (new.written ≡ Some (before ++ bytes))
  pub part : (before : List ℕ) → old.written ≡ Some before
      → OnErr result (AppendsPart bytes before new.written)
