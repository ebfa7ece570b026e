use Rattle.std.proofs.Common.{rules, tests, ◌∙◌}
use Rattle.std.proofs.lemmas.Iterator.{YieldsList-from_slice}
use Rattle.std.proofs.lemmas.Iterator.Consumers.{YieldsList-from_filter, count_from_yields_List}
use Rattle.std.proofs.lemmas.List.Sums.{length-filter}
use Rattle.std.specs.Arc.{arc_value}
use Rattle.r4_done.specs.Doing.{is_more}
use Rattle.r4_done.specs.r4_search.Keeping.{Shared}
use Rattle.r4_accounting.proofs.CellLists.{count_cells}
use Rattle.r4_accounting.proofs.counting.more.Goals as goal

pub returns : goal.returns
returns c =
    count_from_yields_List c.filter.result _ c.count.ensures.ran
    (YieldsList-from_filter _ (λ (x : Shared). is_more c.args.buffer.now (arc_value x))
    (YieldsList-from_slice c.args.new.now cc) c.filter.ensures.closure (λ x r q k. search (rules, tests)))
    ∙ length-filter (λ (x : Shared). is_more c.args.buffer.now (arc_value x)) c.args.new.now
    ∙ count_cells (is_more c.args.buffer.now) c.args.new.now
