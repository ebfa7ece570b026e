use Rattle.std.proofs.Common.{rules, tests, ◌∙◌, ◌==◌}
use Rattle.std.proofs.lemmas.Iterator.{YieldsList-from_slice}
use Rattle.std.proofs.lemmas.Iterator.Search.{any_from_yields_List}
use Rattle.std.specs.Arc.{arc_value}
use Rattle.r4_cell.specs.Seen.{CellSeen}
use Rattle.r4_done.specs.r4_search.Keeping.{Shared}
use Rattle.r4_accounting.proofs.CellLists.{any_cell}
use Rattle.r4_accounting.proofs.counting.has_name.Goals as goal

pub returns : goal.returns
returns c =
    any_from_yields_List (λ (x : Shared). (arc_value x).id == c.args.id.0) _ _ _ c.any.ensures.ran
    (YieldsList-from_slice c.args.cells.now cc) (λ x b q k. search (rules, tests))
    ∙ any_cell (λ (x : CellSeen). x.id == c.args.id.0) c.args.cells.now
