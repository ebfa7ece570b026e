use Rattle.std.proofs.Common.{◌∙◌, ℕ, ap, map, refl, subst, sym}
use Rattle.std.specs.Arc.{arc_value}
use Rattle.std.specs.Prelude.{List}
use Rattle.r4_put_tasks.specs.r4_allowed.Table.{budget_of}
use Rattle.r4_content.specs.Held.{edits_of}
use Rattle.r4_put_tasks.specs.r4_lost_tasks.r4_extent_shrink.r4_extent_change.Beside.{is_turning}
use Rattle.r4_put_tasks.specs.r4_lost_tasks.r4_extent_shrink.r4_extent_growth.Coming.{coming_beside, count_of}
use Rattle.r4_made.specs.Making.{CountsOnce, IsAllowance}
use Rattle.r4_made.proofs.Grown.{can_be_grown, grown_moves}
use Rattle.r4_made.proofs.Made.{own_numbers}
use Rattle.r4_made.proofs.Once.{counts_once}
use Rattle.r4_made.proofs.growing.grown_in.Goals as goal

pub allowance-requires : goal.allowance-requires
allowance-requires c =
    let (t, (r, is)) = c.requires.task in
    let b = c.args.body.now in
    let e = edits_of c.args.edits.now in
    subst CountsOnce (sym (ap (map count_of) c.as_slice.ensures.value ∙ c.in_ok-twigs.ensures))
    (counts_once (coming_beside b e) (is_turning b e) (map (λ x. arc_value x) c.args.cells.now) is.names (λ x. refl))

pub change_of_growing-requires-clause-can : goal.change_of_growing-requires-clause-can
change_of_growing-requires-clause-can c =
    let (t, (r, is)) = c.requires.task in
    let task = c.args.task.now in
    let cells = map (λ x. arc_value x) c.args.cells.now in
    let b = c.args.body.now in
    let e = edits_of c.args.edits.now in
    let table = c.in_ok-_table._table.items in
    let may = c.in_ok-may_be_grown.ensures c.if-not-branch.false in
    let allowed = subst (λ (twigs : List (ℕ × ℕ)). IsAllowance task cells twigs table)
    (ap (map count_of) c.as_slice.ensures.value ∙ c.in_ok-twigs.ensures) c.in_ok-_table.ensures in
    (budget_of table, (t, (r, can_be_grown task cells b e table may allowed t r is)))

pub returns : goal.returns
returns c =
    let (t, (r, is)) = c.requires.task in
    let task = c.args.task.now in
    let cells = map (λ x. arc_value x) c.args.cells.now in
    let b = c.args.body.now in
    let e = edits_of c.args.edits.now in
    let table = c.in_ok-_table._table.items in
    let may = c.in_ok-may_be_grown.ensures c.if-not-branch.false in
    let allowed = subst (λ (twigs : List (ℕ × ℕ)). IsAllowance task cells twigs table)
    (ap (map count_of) c.as_slice.ensures.value ∙ c.in_ok-twigs.ensures) c.in_ok-_table.ensures in
    let d = c.in_ok-change.change in
    let told = c.in_ok-change.ensures in
    record {
      change = told.change;
      move = grown_moves task cells b e d table t r is c.requires.planned may
          (can_be_grown task cells b e table may allowed t r is) told.effect;
      meets = λ t' r' is'. told.meets (budget_of table) t' r'
          (can_be_grown task cells b e table may allowed t' r' is');
      old = told.old;
      new = own_numbers task d c.change_of_growing.new.fresh told.numbers told.new;
    }
