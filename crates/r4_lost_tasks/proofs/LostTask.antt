-- What is made of a task whose body loses blocks moves units as its command means.
use Rattle.std.proofs.Common.{◌≡◌, ℕ, true, false, ap, sym, ◌∙◌}
use Rattle.r4_base.specs.Tree.{Root, Store}
use Rattle.r4_base.specs.Value.{Content, Value}
use Rattle.r4_content.specs.Edited.{Intervals, is_in}
use Rattle.r4_task_moves.specs.r4_extent_shrink.r4_extent_change.Losing.{lost_keys, lost_values}
use Rattle.r4_lost_tasks.specs.Going.{IsLostFor}
use Rattle.r4_task_moves.specs.Doing.{IsBodyMove}
use Rattle.r4_task_moves.proofs.BodyMoves.{is_move}
use Rattle.r4_task_moves.proofs.StoodThere.{stood_there}
use Rattle.r4_task_moves.proofs.SuitedTask.{beside, cuts}
use Rattle.r4_task_moves.specs.r4_extent_moves.Lost.{LosesBody}
use Rattle.r4_task_moves.proofs.r4_extent_moves.LostMoves as lost
use Rattle.r4_task_moves.specs.r4_extent_moves.r4_applied.r4_build.Built.{IsMove, IsPlaceFor, edits_for}
use Rattle.r4_task_moves.specs.r4_extent_moves.r4_applied.r4_build.declared.task.Task.{Task}
use Rattle.r4_task_moves.specs.r4_extent_moves.r4_applied.r4_reach.Touched.{Body}
use Rattle.r4_task_moves.specs.r4_extent_moves.r4_applied.r4_sets_told.r4_cell.Patch.{Patch}

module _ (task : Task) (p : Patch Value) (b : Body) (h : IsLostFor task p b) where
  no_zeros : (k : ℕ) → is_in (edits_for task).zeros k ≡ false
  no_zeros k = ap (λ (rs : Intervals). is_in rs k) h.zeros

  loses : (u : Store Value) (root : Root) (raw n : Content) → IsPlaceFor task u root raw n
      → LosesBody b (edits_for task) u raw task.writes
  loses u root raw n place = record {
    first = h.first;
    losing = h.losing;
    stood = (stood_there task b u root raw n h.body place).extents h.losing.in_extents;
    end = _;
    suits = h.asks.suit;
    goes = h.goes;
    zeros = λ k inside on. absurd (let f : true ≡ false = sym on ∙ no_zeros k in cc);
    cuts = cuts task b u root raw n h.body place;
    beside = beside task b u root raw n h.body place _ h.asks.suit;
  }

  body_move : IsBodyMove task p b (lost_keys b (edits_for task) task.writes) (lost_values (edits_for task))
  body_move = record {
    body = h.body;
    effect = h.effect;
    end = h.end;
    within = h.within;
    moves = λ u root raw n place changes. lost.moves b (edits_for task) u raw n task.writes changes (loses u root raw n place);
  }

  pub moves : IsMove task p
  moves = is_move task p b (lost_keys b (edits_for task) task.writes) (lost_values (edits_for task)) body_move
