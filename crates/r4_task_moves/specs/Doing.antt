-- The change of a task whose command changes a body that stands in extents afterwards
-- (docs/volume.md, "Bodies in extents"). A key is its rank.
use Rattle.std.specs.Prelude.{◌≡◌, ℕ, ◌<◌, Bool, true, Option, Some}
use Rattle.std.specs.Arc.{arc_value}
use Rattle.r4_base.specs.Tree.{Root, Store}
use Rattle.r4_base.specs.Value.{Content, Value}
use Rattle.r4_content.specs.Held.{pairs_of}
use Rattle.r4_turned_moves.specs.r4_extent_moves.Moving.{ChangesBody, MovesBody}
use Rattle.r4_turned_moves.specs.r4_extent_moves.r4_applied.r4_build.Built.{IsPlaceFor, edits_for}
use Rattle.r4_turned_moves.specs.r4_extent_moves.r4_applied.r4_build.declared.task.Task.{Task}
use Rattle.r4_turned_moves.specs.r4_extent_moves.r4_applied.r4_sets_told.r4_cell.Patch.{Patch}
use Rattle.r4_turned_moves.specs.r4_extent_moves.r4_applied.r4_patch.Effect.{HasEffect, Placed}
use Rattle.r4_turned_moves.specs.r4_extent_moves.r4_applied.r4_reach.Touched.{Body, body_on}

-- the body that the task's edits change, if they change one's
abbrev pub body_for : Task → Option Body
body_for task = body_on task.command (pairs_of (arc_value task.seen)) task.scope.in_extents

-- The patch moves the units of these keys, each below some key. Wherever the task may be done, it
-- leaves at each key of the body what is to stand there, and moves no other key but those that the
-- edits change.
pub record IsBodyMove (task : Task) (p : Patch Value) (b : Body) (at : ℕ → Bool)
    (to : ℕ → Option (Placed Value)) : Type 0 where
  pub body : body_for task ≡ Some b
  pub effect : HasEffect p at to
  pub end : ℕ
  pub within : (k : ℕ) → at k ≡ true → k < end
  pub moves : (u : Store Value) (root : Root) (raw n : Content) → IsPlaceFor task u root raw n
      → ChangesBody b (edits_for task) u raw n → MovesBody b (edits_for task) u raw at to
