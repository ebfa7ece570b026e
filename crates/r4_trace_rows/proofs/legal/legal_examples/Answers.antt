use Rattle.r4_trace_rows.proofs.Shown.{apart_legal, captured_legal, failing_legal, failing_work_legal, inside_legal, usual_legal, waiting_legal}
use Rattle.r4_trace_rows.proofs.legal.legal_examples.Goals as goal

pub returns : goal.returns
returns c = record {
  apart = apart_legal;
  waiting = waiting_legal;
  captured = captured_legal;
  failing = failing_legal;
  failing_work = failing_work_legal;
  usual = usual_legal;
  inside = inside_legal;
}
