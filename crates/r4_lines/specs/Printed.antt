-- That a text is printed.
use Rattle.std.specs.Prelude.{◌⊎◌, ℕ, List, Ok, Err}
use Rattle.r4_outside.specs.Sink.{SinkState, Appends}

-- The sink took all of the text.
abbrev pub Gets : List ℕ → SinkState → SinkState → Type 0
Gets text old new = Appends {T = Unit {0}} {E = Unit {0}} text old (Ok tt) new

-- The sink took a prefix of the text, and its count of faults rose.
abbrev pub GetsPart : List ℕ → SinkState → SinkState → Type 0
GetsPart text old new = Appends {T = Unit {0}} {E = Unit {0}} text old (Err tt) new

-- The text is printed, as far as the sink takes it.
abbrev pub Prints : List ℕ → SinkState → SinkState → Type 0
Prints text old new = Gets text old new ⊎ GetsPart text old new
