use Rattle.std.proofs.Common.{map, refl}
use Rattle.std.specs.Arc.{arc_value}
use Rattle.std.proofs.lemmas.List.Elements.{All-more}
use Rattle.r4_extent_put.specs.r4_extent_change.r4_measure.r4_cell.Patch.{root_of_pair}
use Rattle.r4_allowed.specs.Allowing.{IsEntry}
use Rattle.r4_allowed.proofs.Searching.{all_there}
use Rattle.r4_allowed.specs.declared.table.Allowance.{Allowance}
use Rattle.r4_allowed.proofs.checking.are_entries.Goals as goal

pub loop-entry-preserved : goal.loop-entry-preserved
loop-entry-preserved c =
    let none : Allowance = record { level = 0; id = record { 0 = 0 }; most = 0 } in
    All-more (IsEntry (root_of_pair c.args.root.now) (map (λ x. arc_value x) c.args.cells.now)) c.args.entries.now
    c.loop-entry.entry-index none c.loop-entry-test.true c.loop-entry.invariant (c.is_entry.ensures.0 c.if-not-is_entry.false)

pub returns : goal.returns
returns c = (
  λ on.
      all_there (IsEntry (root_of_pair c.args.root.now) (map (λ x. arc_value x) c.args.cells.now)) c.args.entries.now
      c.loop-entry.entry-index c.loop-entry-test.false c.loop-entry.invariant,
  λ all. refl,
)
