use Rattle.std.proofs.Common.{rules, ◌≤◌, sym, subst, ◌≡◌}
use Rattle.std.specs.Prelude.{Contains, Some}
use Rattle.r4_base.specs.Key.{rank}
use Rattle.r4_search.specs.Path.{EndsAt}
use Rattle.r4_list.proofs.BodyParts.{part_unfetched}
use Rattle.std.specs.Arc.{arc_value}
use Rattle.r4_base.proofs.Keys.{is_key}
use Rattle.r4_cell.specs.Seen.{CellSeen, node_of}
use Rattle.r4_list.proofs.Lookups.{below_top, ends_level}
use Rattle.r4_list.proofs.Stages.{went_fetched}
use Rattle.r4_list.proofs.BodyStages.{named_printed}
use Rattle.r4_list.proofs.body.print_part.Goals as goal

pub cell_of-requires-clause-below : goal.cell_of-requires-clause-below
cell_of-requires-clause-below g c = below_top c.args.key (is_key c.args.key (search rules) (search rules) (search rules) (search rules) (search rules)) c.requires.first

pub print_in_cell-requires-clause-level : goal.print_in_cell-requires-clause-level
print_in_cell-requires-clause-level g c = subst (λ (x : CellSeen). 1 ≤ x.level) (sym c.deref.ensures) (ends_level (arc_value c.in_ok-cell.cell) _ c.in_ok-cell.ensures.ends)

pub returns-clause-printed : goal.returns-clause-printed
returns-clause-printed g c = named_printed _ (node_of c.deref.result.now).names _ _ _ _ _ _ _ _ _ _ (arc_value c.in_ok-cell.cell) (went_fetched _ _ _ _ _ _ _ c.cell_of.ensures.fetched) c.in_ok-cell.ensures.is_of
    (λ n h. subst (λ (x : CellSeen). Contains (node_of x).names n) c.deref.ensures h) c.print_in_cell.ensures.printed

pub returns-in_err-cell-clause-over : goal.returns-in_err-cell-clause-over
returns-in_err-cell-clause-over g c = λ n image m content o over is file.
    let f = c.in_err-cell.ensures.over n image m content over in
    part_unfetched content c.args.root.now o _ _ _ _ c.in_err-cell.field-0.0 c.from_residual.result f.over f.undamaged c.from_residual.ensures.1

pub returns-clause-over : goal.returns-clause-over
returns-clause-over g c = λ n image m content o over is file.
    let f = c.in_ok-cell.ensures.over n image m content over in
    let d = sym c.deref.ensures in
    c.print_in_cell.ensures.over n image m content o f.over (subst (λ (x : CellSeen). content.store x.id ≡ Some (node_of x)) d f.found)
    (subst (λ (x : CellSeen). rank x.lo ≤ rank c.args.key) d c.in_ok-cell.ensures.from) (subst (λ (x : CellSeen). EndsAt x (rank c.args.key)) d c.in_ok-cell.ensures.ends) is file
