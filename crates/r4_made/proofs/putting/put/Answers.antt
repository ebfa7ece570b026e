use Rattle.std.proofs.Common.{◌∙◌, ℕ, ap, map, refl, subst, sym}
use Rattle.std.specs.Arc.{arc_value}
use Rattle.std.specs.Option.{option_copied}
use Rattle.std.specs.Prelude.{Contains, List}
use Rattle.r4_base.specs.Tree.{Root}
use Rattle.r4_put_tasks.specs.r4_allowed.Table.{budget_of}
use Rattle.r4_put_tasks.specs.r4_build.r4_measure.r4_cell.Patch.{HaveNames, root_of_pair}
use Rattle.r4_put_tasks.specs.r4_build.r4_measure.r4_cell.Seen.{CellSeen}
use Rattle.r4_put_tasks.specs.r4_build.r4_patch.Effect.{HasEffect}
use Rattle.r4_put_tasks.specs.r4_build.r4_patch.Joining.{patch_of_change}
use Rattle.r4_put_tasks.specs.r4_build.r4_patch.Part.{MeetsPart}
use Rattle.r4_content.specs.Held.{edits_of}
use Rattle.r4_put_tasks.specs.r4_lost_tasks.r4_extent_shrink.r4_extent_growth.Coming.{count_of}
use Rattle.r4_put_tasks.specs.r4_build.Building.{set_by}
use Rattle.r4_put_tasks.specs.r4_extent_put.Putting.{CanPut}
use Rattle.r4_put_tasks.specs.r4_extent_put.Taking.{twigs_beside, twigs_putting}
use Rattle.r4_put_tasks.specs.r4_extent_put.Whole.{is_putting, put_keys}
use Rattle.r4_made.specs.Making.{CountsOnce, IsAllowance}
use Rattle.r4_made.proofs.Put.{can_be_put, put_moves}
use Rattle.r4_made.proofs.Made.{own_numbers}
use Rattle.r4_made.proofs.Once.{counts_once}
use Rattle.r4_made.proofs.putting.put.Goals as goal

pub allowance-requires : goal.allowance-requires
allowance-requires c =
    let (t, (r, is)) = c.requires.task in
    let b = option_copied c.args.body in
    let e = edits_of c.args.edits.now in
    subst CountsOnce (sym (ap (map count_of) c.as_slice.ensures.value ∙ c.in_ok-twigs.ensures))
    (counts_once (twigs_beside b e) (is_putting b e) (map (λ x. arc_value x) c.as_slice-cells.result.now)
    (subst HaveNames (sym c.as_slice-cells.ensures) is.names) (λ x. refl))

pub twigs_putting-requires-clause-in_leaves : goal.twigs_putting-requires-clause-in_leaves
twigs_putting-requires-clause-in_leaves c = (c.in_ok-may_be_put.ensures c.if-not-branch.false).may.in_leaves

pub change_of_putting-requires-clause-can : goal.change_of_putting-requires-clause-can
change_of_putting-requires-clause-can c =
    let (t, (r, is)) = c.requires.task in
    let task = c.args.task.now in
    let b = option_copied c.args.body in
    let e = edits_of c.args.edits.now in
    let table = c.in_ok-_table._table.items in
    let may = c.in_ok-may_be_put.ensures c.if-not-branch.false in
    let allowed = subst (λ (cells : List CellSeen). IsAllowance task cells (twigs_putting b e task.writes) table)
    c.as_slice-cells.ensures (subst (λ (twigs : List (ℕ × ℕ)). IsAllowance task
    (map (λ x. arc_value x) c.as_slice-cells.result.now) twigs table)
    (ap (map count_of) c.as_slice.ensures.value ∙ (c.in_ok-twigs.ensures
    ∙ ap (twigs_putting b e) c.as_slice-cells.ensures)) c.in_ok-_table.ensures) in (
      budget_of table,
      (
        t,
        subst (λ (cells : List CellSeen). CanPut b e (budget_of table) t (root_of_pair task.scope.root) task.fresh cells)
            (sym c.as_slice-cells.ensures) (can_be_put task b e table may allowed t r is),
      ),
    )

pub returns : goal.returns
returns c =
    let (t, (r, is)) = c.requires.task in
    let task = c.args.task.now in
    let b = option_copied c.args.body in
    let e = edits_of c.args.edits.now in
    let table = c.in_ok-_table._table.items in
    let may = c.in_ok-may_be_put.ensures c.if-not-branch.false in
    let allowed = subst (λ (cells : List CellSeen). IsAllowance task cells (twigs_putting b e task.writes) table)
    c.as_slice-cells.ensures (subst (λ (twigs : List (ℕ × ℕ)). IsAllowance task
    (map (λ x. arc_value x) c.as_slice-cells.result.now) twigs table)
    (ap (map count_of) c.as_slice.ensures.value ∙ (c.in_ok-twigs.ensures
    ∙ ap (twigs_putting b e) c.as_slice-cells.ensures)) c.in_ok-_table.ensures) in
    let d = c.in_ok-change.change in
    let told = c.in_ok-change.ensures in
    record {
      change = told.change;
      move = put_moves task b e d c.requires.planned may
          (subst (λ (cells : List CellSeen). HasEffect (patch_of_change d) (put_keys b e cells) (set_by e))
          c.as_slice-cells.ensures told.effect);
      meets = λ t' r' is'. subst (λ (q : Root). MeetsPart (patch_of_change d) t' q) is'.root
          (told.meets (budget_of table) t'
          (subst (λ (cells : List CellSeen). CanPut b e (budget_of table) t' (root_of_pair task.scope.root) task.fresh cells)
          (sym c.as_slice-cells.ensures) (can_be_put task b e table may allowed t' r' is')));
      old = λ x has. subst (λ (cells : List CellSeen). Contains cells x) c.as_slice-cells.ensures (told.old x has);
      new = own_numbers task d c.change_of_putting.new.fresh told.numbers told.new;
    }
