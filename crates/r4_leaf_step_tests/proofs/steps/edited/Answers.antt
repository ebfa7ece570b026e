use Rattle.std.proofs.Common.{◌+◌, ◌^◌, List, sym, subst, arith}
use Rattle.r4_cell.specs.Patch.{by_name}
use Rattle.r4_cell.specs.Seen.{CellSeen}
use Rattle.r4_cell.specs.declared.change.Fresh.{Fresh}
use Rattle.r4_content.specs.Edited.{Edits}
use Rattle.r4_build.specs.r4_leaf_edits.Suiting.{SuitLeaves}
use Rattle.r4_build.specs.r4_measure.Examples.{fresh_root}
use Rattle.r4_build.specs.r4_work.Working.{AreCellsIn}
use Rattle.r4_build_testing.proofs.Lawful.{mixed_suits}
use Rattle.r4_build_testing.proofs.TwoCells.{small_cells}
use Rattle.r4_leaf_step_tests.proofs.steps.edited.Goals as goal

pub edit_each-requires-clause-working : goal.edit_each-requires-clause-working
edit_each-requires-clause-working c =
    let cells : List CellSeen = c.args.cells.now in
    let f : Fresh = record { next = 2 ^ 63; end = 2 ^ 63 + c.from.result } in (
      by_name cells,
      c.in_ok-set.ensures.working (by_name cells) fresh_root f
          (subst (λ (cs : List CellSeen). AreCellsIn (by_name cells) fresh_root f cs) (sym c.as_slice.ensures)
          (small_cells cells c.requires.small f (omega arith))),
    )

pub edit_each-requires-clause-suits : goal.edit_each-requires-clause-suits
edit_each-requires-clause-suits c = subst (λ (e : Edits). SuitLeaves 16384 e) (sym c.requires.mixed) mixed_suits
