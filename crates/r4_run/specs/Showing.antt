-- What is shown of a run's trace (docs/program.md, "Running"). What is said of a run takes it as a function of the trace.
use Rattle.std.specs.Prelude.{ℕ, List}
use Rattle.r4_summary.specs.Totals.{summary_text}
use Rattle.r4_trace.specs.Text.{trace_text}
use Rattle.r4_trace.specs.declared.entry.Entry.{Entry}
use Rattle.r4_run.specs.declared.showing.Shown.{Shown}
use Rattle.r4_run.specs.declared.showing.Shown.TheVariants.{Summary, Trace}

abbrev pub text_shown : Shown → (List Entry → List ℕ)
text_shown Trace = trace_text
text_shown (Summary seed) = summary_text seed
