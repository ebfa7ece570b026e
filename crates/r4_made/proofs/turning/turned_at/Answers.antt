use Rattle.std.proofs.Common.{◌∙◌, ℕ, ap, map, subst, sym}
use Rattle.std.specs.Arc.{arc_value}
use Rattle.std.specs.Prelude.{List}
use Rattle.r4_put_tasks.specs.r4_allowed.Table.{budget_of}
use Rattle.r4_content.specs.Held.{edits_of}
use Rattle.r4_put_tasks.specs.r4_lost_tasks.r4_extent_shrink.r4_extent_growth.Coming.{count_of}
use Rattle.r4_put_tasks.specs.r4_turned_tasks.r4_extent_turned.MayTurn.{coming_turned}
use Rattle.r4_put_tasks.specs.r4_turned_tasks.r4_extent_turned.r4_extent_turn.TurningIn.{turn_of}
use Rattle.r4_made.specs.Making.{CountsOnce, IsAllowance}
use Rattle.r4_made.proofs.Made.{own_numbers}
use Rattle.r4_made.proofs.Turned.{can_be_turned, one_once, turned_moves}
use Rattle.r4_made.proofs.turning.turned_at.Goals as goal

pub allowance-requires : goal.allowance-requires
allowance-requires c =
    subst CountsOnce (sym (ap (map count_of) c.as_slice.ensures.value ∙ c.in_ok-twigs.ensures))
    (one_once (coming_turned c.args.body.now (edits_of c.args.edits.now) (turn_of c.args.turning.now)))

pub change_of_turning-requires-clause-can : goal.change_of_turning-requires-clause-can
change_of_turning-requires-clause-can c =
    let (t, (r, is)) = c.requires.task in
    let task = c.args.task.now in
    let cells = map (λ x. arc_value x) c.args.cells.now in
    let b = c.args.body.now in
    let e = edits_of c.args.edits.now in
    let x = turn_of c.args.turning.now in
    let table = c.in_ok-_table._table.items in
    let may = c.in_ok-may_turn.ensures.may c.if-not-branch.false in
    let allowed = subst (λ (twigs : List (ℕ × ℕ)). IsAllowance task cells twigs table)
    (ap (map count_of) c.as_slice.ensures.value ∙ c.in_ok-twigs.ensures) c.in_ok-_table.ensures in
    (budget_of table, (t, (r, can_be_turned task cells b e x table may c.requires.among allowed t r is)))

pub returns : goal.returns
returns c =
    let (t, (r, is)) = c.requires.task in
    let task = c.args.task.now in
    let cells = map (λ x. arc_value x) c.args.cells.now in
    let b = c.args.body.now in
    let e = edits_of c.args.edits.now in
    let x = turn_of c.args.turning.now in
    let table = c.in_ok-_table._table.items in
    let may = c.in_ok-may_turn.ensures.may c.if-not-branch.false in
    let allowed = subst (λ (twigs : List (ℕ × ℕ)). IsAllowance task cells twigs table)
    (ap (map count_of) c.as_slice.ensures.value ∙ c.in_ok-twigs.ensures) c.in_ok-_table.ensures in
    let d = c.in_ok-change.change in
    let told = c.in_ok-change.ensures in
    record {
      change = told.change;
      move = turned_moves task cells b e x d table t r c.requires.planned may
          (can_be_turned task cells b e x table may c.requires.among allowed t r is) told.effect;
      meets = λ t' r' is'. told.meets (budget_of table) t' r'
          (can_be_turned task cells b e x table may c.requires.among allowed t' r' is');
      old = told.old;
      new = own_numbers task d c.change_of_turning.new.fresh told.numbers told.new;
    }
