use Rattle.std.proofs.Common.{map}
use Rattle.std.specs.Arc.{arc_value}
use Rattle.std.proofs.lemmas.Bool.{both_ways}
use Rattle.r4_allowed.proofs.Allowed.{measure}
use Rattle.r4_extent_put.specs.r4_extent_change.r4_measure.r4_cell.Patch.{root_of_pair}
use Rattle.r4_allowed.proofs.Searching.{all_allowed, not_entries}
use Rattle.r4_allowed.proofs.checking.is_allowed.Goals as goal

pub returns-then-are_entries-clause-allowed : goal.returns-then-are_entries-clause-allowed
returns-then-are_entries-clause-allowed c =
    all_allowed (root_of_pair c.args.root.now) (map (λ x. arc_value x) c.args.cells.now) c.args.table.now c.are_entries.result
    c.all_bear.result c.if-are_entries.true c.are_entries.ensures c.all_bear.ensures

pub returns-else-are_entries-clause-allowed : goal.returns-else-are_entries-clause-allowed
returns-else-are_entries-clause-allowed c =
    not_entries (root_of_pair c.args.root.now) (map (λ x. arc_value x) c.args.cells.now) c.args.table.now c.are_entries.result
    c.if-are_entries.false c.are_entries.ensures

pub returns-then-are_entries-clause-budget : goal.returns-then-are_entries-clause-budget
returns-then-are_entries-clause-budget c on t f task =
    let r = root_of_pair c.args.root.now in
    let cells = map (λ x. arc_value x) c.args.cells.now in
    measure t r f cells c.args.table.now task
    ((all_allowed r cells c.args.table.now c.are_entries.result c.all_bear.result c.if-are_entries.true c.are_entries.ensures c.all_bear.ensures).0 on)

pub returns-else-are_entries-clause-budget : goal.returns-else-are_entries-clause-budget
returns-else-are_entries-clause-budget c on t f task = absurd (both_ways c.are_entries.result c.if-are_entries.false on)
