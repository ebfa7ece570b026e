-- What is made of a task whose cells have extents (docs/volume.md, "Building").
use Rattle.std.specs.Prelude.{◌≡◌, ◌⊎◌, ℕ, ◌^◌, ◌<◌, ◌≤◌, Bool, true, List, Contains, Option, Some}
use Rattle.r4_put_tasks.specs.r4_allowed.Allowing.{IsMeasure}
use Rattle.r4_put_tasks.specs.r4_allowed.Table.{budget_of}
use Rattle.r4_put_tasks.specs.r4_allowed.declared.table.Allowance.{Allowance}
use Rattle.r4_base.specs.Tree.{Root, Store}
use Rattle.r4_base.specs.Value.{Content, Value}
use Rattle.r4_put_tasks.specs.r4_build.Built.{IsMove, IsPlaceFor, IsTaskIn, edits_for}
use Rattle.r4_put_tasks.specs.r4_build.declared.task.Task.{Task}
use Rattle.r4_put_tasks.specs.r4_build.r4_measure.r4_cell.Patch.{IsChange}
use Rattle.r4_put_tasks.specs.r4_build.r4_measure.r4_cell.Seen.{CellSeen}
use Rattle.r4_put_tasks.specs.r4_build.r4_measure.r4_cell.declared.change.Change.{Change}
use Rattle.r4_put_tasks.specs.r4_build.r4_patch.Effect.{HasEffect, Placed}
use Rattle.r4_put_tasks.specs.r4_build.r4_patch.Joining.{ids_of, patch_of_change}
use Rattle.r4_put_tasks.specs.r4_build.r4_patch.Part.{MeetsPart}
use Rattle.r4_put_tasks.specs.r4_build.r4_reach.Touched.{Body, turns_out}
use Rattle.r4_content.specs.Edited.{Edits}
use Rattle.r4_put_tasks.specs.r4_lost_tasks.r4_extent_shrink.r4_extent_demands.Sizes.{AreExtentEdits}
use Rattle.r4_put_tasks.specs.r4_lost_tasks.r4_extent_shrink.r4_extent_growth.Coming.{SufficesFor}
use Rattle.r4_put_tasks.specs.r4_lost_tasks.r4_task_moves.Alike.{StandLike}
use Rattle.r4_put_tasks.specs.r4_lost_tasks.r4_task_moves.Doing.{body_for}

-- These are the task's edits, and the body that they change, if they change one's. Twigs may be
-- asked for them. A body that comes to extents has no more bytes before than afterwards.
pub record IsPlanned (task : Task) (e : Edits) (b : Option Body) : Type 0 where
  pub edits : e ≡ edits_for task
  pub body : b ≡ body_for task
  pub asks : AreExtentEdits b e
  pub longer : (x : Body) → b ≡ Some x → turns_out x ≡ true → x.was ≤ x.now

-- The task may be built in a part of a tree.
abbrev pub MayBeBuilt : Task → Type 0
MayBeBuilt task = (t : Store Value) × ((r : Root) × IsTaskIn t r task)

-- the task with these cells in the place of those that it writes
abbrev pub over : Task → List CellSeen → Task
over task cells = record task { writes = cells }

-- Wherever the task may be done, the cells stand in a tree with the same units.
abbrev pub StandFor : Task → List CellSeen → Type 0
StandFor task cells = (u : Store Value) (root : Root) (raw n : Content)
    → IsPlaceFor task u root raw n → StandLike u cells

-- The table is what may still come in the place of these cells, in each part of a tree in which the
-- task may be built over them; it suffices for these twigs.
pub record IsAllowance (task : Task) (cells : List CellSeen) (twigs : List (ℕ × ℕ))
    (table : List Allowance) : Type 0 where
  pub measure : (t : Store Value) (r : Root) → IsTaskIn t r (over task cells)
      → IsMeasure t r cells table
  pub suffices : SufficesFor (budget_of table) twigs

-- What the one change does to units the other does too.
abbrev pub DoesAs : (d c : Change) → Type 0
DoesAs d c = (at : ℕ → Bool) (to : ℕ → Option (Placed Value))
    → HasEffect (patch_of_change d) at to → HasEffect (patch_of_change c) at to

-- Where these cells stand for those that the task writes, a change that does to units what this one
-- does moves them as the task's command means. It is one of each part of a tree in which the task
-- may be built over them. Its old cells are among them, and its new ones have their numbers, or the
-- task's.
pub record IsMadeIn (task : Task) (cells : List CellSeen) (d : Change) : Type 0 where
  pub change : IsChange d.old d.new d.root
  pub move : StandFor task cells → (c : Change) → DoesAs d c → IsMove task (patch_of_change c)
  pub meets : (t : Store Value) (r : Root) → IsTaskIn t r (over task cells)
      → MeetsPart (patch_of_change d) t r
  pub old : (c : CellSeen) → Contains d.old c → Contains cells c
  pub new : (c : CellSeen) → Contains d.new c
      → Contains (ids_of d.old) c.id
      ⊎ ((task.fresh.next ≤ c.id) × (c.id < task.fresh.end))

-- The change moves units as the task's command means. It is one of each part of a tree in which the
-- task may be built. Its old cells are cells that the task writes, and its new ones have their
-- numbers, or the task's.
pub record IsMadeOf (task : Task) (d : Change) : Type 0 where
  pub change : IsChange d.old d.new d.root
  pub move : IsMove task (patch_of_change d)
  pub meets : (t : Store Value) (r : Root) → IsTaskIn t r task
      → MeetsPart (patch_of_change d) t r
  pub old : (c : CellSeen) → Contains d.old c → Contains task.writes c
  pub new : (c : CellSeen) → Contains d.new c
      → Contains (ids_of d.old) c.id
      ⊎ ((task.fresh.next ≤ c.id) × (c.id < task.fresh.end))

-- Counts for one number are one count.
abbrev pub CountsOnce : List (ℕ × ℕ) → Type 0
CountsOnce twigs = (x y : ℕ × ℕ) → Contains twigs x → Contains twigs y → x.0 ≡ y.0 → x.1 ≡ y.1

-- It is that body where it stood so, with no more bytes than a file may have; one that comes to
-- extents has no more bytes before than afterwards.
pub record IsSizedAs (change : Body) (in_extents : Bool) (b : Body) : Type 0 where
  pub is : b ≡ record change { in_extents = in_extents }
  pub was : b.was ≤ 2 ^ 30
  pub now : b.now ≤ 2 ^ 30
  pub longer : turns_out b ≡ true → b.was ≤ b.now
