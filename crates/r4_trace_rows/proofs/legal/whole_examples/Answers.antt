use Rattle.r4_trace_rows.proofs.Finished.{apart_whole, captured_whole, inside_whole, usual_whole, waiting_whole}
use Rattle.r4_trace_rows.proofs.legal.whole_examples.Goals as goal

pub returns : goal.returns
returns c = record {
  apart = apart_whole;
  waiting = waiting_whole;
  captured = captured_whole;
  usual = usual_whole;
  inside = inside_whole;
}
