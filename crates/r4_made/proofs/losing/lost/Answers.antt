use Rattle.std.proofs.Common.{◌∙◌, ℕ, ap, map, refl, subst, sym}
use Rattle.std.specs.Arc.{arc_value}
use Rattle.std.specs.Prelude.{Contains, List}
use Rattle.r4_put_tasks.specs.r4_allowed.Table.{budget_of}
use Rattle.r4_put_tasks.specs.r4_build.r4_measure.r4_cell.Patch.{HaveNames}
use Rattle.r4_put_tasks.specs.r4_build.r4_measure.r4_cell.Seen.{CellSeen}
use Rattle.r4_put_tasks.specs.r4_build.r4_patch.Effect.{HasEffect}
use Rattle.r4_put_tasks.specs.r4_build.r4_patch.Joining.{patch_of_change}
use Rattle.r4_content.specs.Held.{edits_of}
use Rattle.r4_put_tasks.specs.r4_lost_tasks.r4_extent_shrink.Shrinking.{twigs_losing}
use Rattle.r4_put_tasks.specs.r4_lost_tasks.r4_extent_shrink.r4_extent_change.Among.{is_losing}
use Rattle.r4_put_tasks.specs.r4_lost_tasks.r4_extent_shrink.r4_extent_change.Losing.{CanLose, lost_keys, lost_values}
use Rattle.r4_put_tasks.specs.r4_lost_tasks.r4_extent_shrink.r4_extent_growth.Coming.{coming_beside, count_of}
use Rattle.r4_made.specs.Making.{CountsOnce, IsAllowance}
use Rattle.r4_made.proofs.Made.{can_be_lost, lost_moves, own_numbers}
use Rattle.r4_made.proofs.Once.{counts_once}
use Rattle.r4_made.proofs.losing.lost.Goals as goal

pub allowance-requires : goal.allowance-requires
allowance-requires c =
    let (t, (r, is)) = c.requires.task in
    let b = c.args.body.now in
    let e = edits_of c.args.edits.now in
    subst CountsOnce (sym (ap (map count_of) c.as_slice.ensures.value ∙ c.in_ok-twigs.ensures))
    (counts_once (coming_beside b e) (is_losing b) (map (λ x. arc_value x) c.as_slice-cells.result.now)
    (subst HaveNames (sym c.as_slice-cells.ensures) is.names) (λ x. refl))

pub change_of_losing-requires-clause-can : goal.change_of_losing-requires-clause-can
change_of_losing-requires-clause-can c =
    let (t, (r, is)) = c.requires.task in
    let task = c.args.task.now in
    let b = c.args.body.now in
    let e = edits_of c.args.edits.now in
    let table = c.in_ok-_table._table.items in
    let may = c.in_ok-may_be_lost.ensures c.if-not-branch.false in
    let allowed = subst (λ (cells : List CellSeen). IsAllowance task cells (twigs_losing b e task.writes) table)
    c.as_slice-cells.ensures (subst (λ (twigs : List (ℕ × ℕ)). IsAllowance task
    (map (λ x. arc_value x) c.as_slice-cells.result.now) twigs table)
    (ap (map count_of) c.as_slice.ensures.value ∙ (c.in_ok-twigs.ensures
    ∙ ap (twigs_losing b e) c.as_slice-cells.ensures)) c.in_ok-_table.ensures) in (
      budget_of table,
      (
        t,
        (
          r,
          subst (λ (cells : List CellSeen). CanLose b e (budget_of table) t r task.fresh cells)
              (sym c.as_slice-cells.ensures) (can_be_lost task b e table may allowed t r is),
        ),
      ),
    )

pub returns : goal.returns
returns c =
    let task = c.args.task.now in
    let b = c.args.body.now in
    let e = edits_of c.args.edits.now in
    let table = c.in_ok-_table._table.items in
    let may = c.in_ok-may_be_lost.ensures c.if-not-branch.false in
    let allowed = subst (λ (cells : List CellSeen). IsAllowance task cells (twigs_losing b e task.writes) table)
    c.as_slice-cells.ensures (subst (λ (twigs : List (ℕ × ℕ)). IsAllowance task
    (map (λ x. arc_value x) c.as_slice-cells.result.now) twigs table)
    (ap (map count_of) c.as_slice.ensures.value ∙ (c.in_ok-twigs.ensures
    ∙ ap (twigs_losing b e) c.as_slice-cells.ensures)) c.in_ok-_table.ensures) in
    let d = c.in_ok-change.change in
    let told = c.in_ok-change.ensures in
    record {
      change = told.change;
      move = lost_moves task b e d c.requires.planned may
          (subst (λ (cells : List CellSeen). HasEffect (patch_of_change d) (lost_keys b e cells) (lost_values e))
          c.as_slice-cells.ensures told.effect);
      meets = λ t r is. told.meets (budget_of table) t r
          (subst (λ (cells : List CellSeen). CanLose b e (budget_of table) t r task.fresh cells)
          (sym c.as_slice-cells.ensures) (can_be_lost task b e table may allowed t r is));
      old = λ x has. subst (λ (cells : List CellSeen). Contains cells x) c.as_slice-cells.ensures (told.old x has);
      new = own_numbers task d c.change_of_losing.new.fresh told.numbers told.new;
    }
