use Rattle.std.proofs.Common.{List, map, ap, sym, ◌∙◌}
use Rattle.std.specs.Arc.{arc_value}
use Rattle.std.specs.List.{list_all}
use Rattle.r4_content.specs.Held.{interval_of, pair_of}
use Rattle.r4_extent_change.specs.r4_measure.r4_cell.Seen.{CellSeen}
use Rattle.r4_extent_growth.specs.Lying.{cut_lies, put_lies}
use Rattle.r4_extent_growth.proofs.InLeaves.{values_lie}
use Rattle.r4_extent_growth.proofs.Tests.{and_on}
use Rattle.r4_extent_growth.proofs.lying.lie_in_leaves.Goals as goal

pub returns-then-cuts_lie : goal.returns-then-cuts_lie
returns-then-cuts_lie c =
    let cells : List CellSeen = map (λ x. arc_value x) c.args.cells.now in
    let e = c.args.edits.now in
    and_on _ _ c.puts_lie.result
    (ap (λ xs. list_all (cut_lies cells) (map interval_of xs)) (sym c.as_slice.ensures.value) ∙ (sym c.cuts_lie.ensures ∙ c.if-cuts_lie.true))
    (c.puts_lie.ensures ∙ (ap (λ xs. list_all (put_lies cells) (map pair_of xs)) c.as_slice-then-cuts_lie.ensures.value
    ∙ sym (values_lie cells e.fills.items e.runs.items (map pair_of e.puts.items))))
