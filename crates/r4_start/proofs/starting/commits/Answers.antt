use Rattle.std.proofs.Common.{rules, tests, ◌∙◌}
use Rattle.std.proofs.lemmas.Iterator.{YieldsList-from_slice}
use Rattle.std.proofs.lemmas.Iterator.Consumers.{YieldsList-from_filter, count_from_yields_List}
use Rattle.std.proofs.lemmas.List.Sums.{length-filter}
use Rattle.r4_rooms.specs.r4_kept.History.{is_commit}
use Rattle.r4_start.proofs.starting.commits.Goals as goal

pub returns : goal.returns
returns c =
    count_from_yields_List c.filter.result _ c.count.ensures.ran
    (YieldsList-from_filter _ is_commit (YieldsList-from_slice c.args.script.now.commands cc) c.filter.ensures.closure
    (λ x r q k. search (rules, tests)))
    ∙ length-filter is_commit c.args.script.now.commands
