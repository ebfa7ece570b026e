use Rattle.r4_extent_edit.proofs.SpanBorders.{span_blocks, span_holes}
use Rattle.r4_extent_edit.proofs.laws.keys_of_a_span_may_be_cut.Goals as goal

pub returns : goal.returns
returns c = record { whole = span_blocks; holes = span_holes }
