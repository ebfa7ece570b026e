-- What was built of a command, by its task (docs/volume.md, "Building").
use Rattle.std.specs.Prelude.{◌≡◌, ◌⊎◌, ℕ, ◌+◌, ◌*◌, ◌^◌, ◌<◌, ◌≤◌, ◌&&◌, ◌++◌, if◌then◌else◌, true}
use Rattle.std.specs.Prelude.{false}
use Rattle.std.specs.Prelude.{List, Contains, IsSome, Option, Some, length}
use Rattle.std.specs.Arc.{arc_value}
use Rattle.r4_base.specs.Tree.{IsTree, Node, Root, Store}
use Rattle.r4_base.specs.Value.{Content, Value}
use Rattle.r4_base.specs.Volume.{HasExtents, HasFiles, HasStat, HasTails, HasUnits, IsObject, IsVisible}
use Rattle.r4_base.specs.Volume.{byte_rank, is_directory}
use Rattle.r4_base.specs.declared.items.Attr.{Attr}
use Rattle.r4_base.specs.declared.items.Target.{Target}
use Rattle.r4_measure.specs.r4_cell.Patch.{HaveNames, IsChange, Patch, by_name, place, root_of_pair}
use Rattle.r4_measure.specs.r4_cell.Seen.{CellSeen, node_of}
use Rattle.r4_measure.specs.r4_cell.declared.change.Root.{Root as RootPair}
use Rattle.r4_measure.specs.r4_cell.declared.change.Change.{Change}
use Rattle.r4_measure.specs.r4_cell.declared.change.Fresh.{Fresh}
use Rattle.r4_content.specs.Counts.{is_okay, stats_in}
use Rattle.r4_content.specs.Course.{ending}
use Rattle.r4_content.specs.Edited.{Edits, Intervals, Pairs, changed, is_in}
use Rattle.r4_content.specs.Fields.{HasBytePaths, NamesUnused}
use Rattle.r4_content.specs.Held.{pairs_of}
use Rattle.r4_content.specs.Lawful.{IsLawful}
use Rattle.r4_content.specs.Meaning.{course, greatest_size, makes_object}
use Rattle.r4_content.specs.Seen.{of_seen}
use Rattle.r4_content.specs.Units.{MovesUnits}
use Rattle.r4_content.specs.declared.command.Command.{Command}
use Rattle.r4_content.specs.declared.reply.Reply.{Reply}
use Rattle.r4_measure.specs.r4_patch.Effect.{HasEffect, IsSetAt, Placed}
use Rattle.r4_measure.specs.r4_patch.Joining.{ids_of, patch_of_change}
use Rattle.r4_measure.specs.r4_patch.Part.{MeetsPart}
use Rattle.r4_measure.specs.r4_path.Steps.{IsFree}
use Rattle.r4_measure.specs.r4_reach.Answer.{IsReachOf}
use Rattle.r4_measure.specs.r4_reach.Touched.{body_on, edits_on, reads_on}
use Rattle.r4_measure.specs.r4_work.Working.{AreCellsIn}
use Rattle.r4_measure.specs.Budget.{AreSeen, AreUnplaced}
use Rattle.r4_turns.specs.declared.out.Scope.{Scope}
use Rattle.r4_build.specs.Building.{CanBuild, most_new, set_by}
use Rattle.r4_build.specs.declared.counting.ObjectCounts.{ObjectCounts}
use Rattle.r4_build.specs.declared.task.Task.{Task}

-- the edits and the reply that the task's command means, on what was seen
abbrev pub edits_for : Task → Edits
edits_for task = edits_on task.command (pairs_of (arc_value task.seen))

abbrev pub reply_for : Task → Reply
reply_for task = (ending (course greatest_size task.command) (of_seen (pairs_of (arc_value task.seen)))).reply

-- the objects that it makes and takes away (docs/commands.md, "Objects born and gone")
abbrev pub born_for : Task → ℕ
born_for task = if makes_object task.command && is_okay (reply_for task) then 1 else 0

abbrev pub gone_for : Task → ℕ
gone_for task = stats_in (edits_for task).cuts

-- A task's cells are those of a part of a tree with this root, of cells of bytes, where its numbers are free: 64 for
-- each cell. Where all
-- that the command changes lies in leaves, its edits may be made there, and no more new cells come than are told.
pub record IsBuildable (c : Command) (s : Pairs) (x : Scope) (t : Store Value) (r : Root) (f : Fresh)
    (cells : List CellSeen) : Type 0 where
  pub root : root_of_pair x.root ≡ r
  pub height : r.height ≤ 8
  pub seen : AreSeen t
  pub cells_in : AreCellsIn t r f cells
  pub names : HaveNames cells
  pub unplaced : AreUnplaced f
  pub numbers : f.next + 64 * length cells ≤ f.end
  pub leaves : x.in_leaves ≡ true → CanBuild (body_on c s x.in_extents) (edits_on c s)
      (reads_on c s x.in_extents) t r f cells
  pub few : x.in_leaves ≡ true → most_new (body_on c s x.in_extents) (edits_on c s)
      (reads_on c s x.in_extents) t r cells ≤ x.most

-- So it is of the task, on what was seen for it.
abbrev pub IsTaskIn : Store Value → Root → Task → Type 0
IsTaskIn t r task =
    IsBuildable task.command (pairs_of (arc_value task.seen)) task.scope t r task.fresh task.writes

-- ---- where a task may be done (docs/sets.md)

-- the cells of a task's reach, those that it reads and those that it writes
abbrev pub IsOfTask : Task → CellSeen → Type 0
IsOfTask task c = Contains (task.reads ++ task.writes) c

-- The task was given what its command reaches, and has seen, among the cells that a reading met in
-- the tree of that time, and where the body that it changes stood; there it may be built.
pub record IsTaskOf
    (pair : RootPair) (met : List CellSeen) (rises : Option RootPair) (task : Task) : Type 0 where
  pub reach : IsReachOf pair task.command met task.reads task.writes rises
  pub seen : reach.seen ≡ pairs_of (arc_value task.seen)
  pub kind : reach.in_extents ≡ task.scope.in_extents
  pub can : IsTaskIn (by_name met) (root_of_pair pair) task

-- The tree has the cells of the task's reach, and none of its numbers; where the task has the cell
-- of the root that was met, the tree has that root.
pub record HasReachOf (u : Store Value) (root : Root) (pair : RootPair) (task : Task) : Type 0 where
  pub stand : (c : CellSeen) → IsOfTask task c → u c.id ≡ Some (node_of c)
  pub free : IsFree task.fresh.next task.fresh.end u
  pub top : (c : CellSeen) → IsOfTask task c → c.id ≡ (root_of_pair pair).id
      → root ≡ root_of_pair pair

-- A tree of all atoms with these units, of which n is visible. The reach of the task stands in it,
-- and its command can be done there: the paths are of bytes, and the id is no object's.
pub record IsPlaceFor (task : Task) (u : Store Value) (root : Root) (raw n : Content) : Type 0 where
  pub pair : RootPair
  pub met : List CellSeen
  pub rises : Option RootPair
  pub given : IsTaskOf pair met rises task
  pub there : HasReachOf u root pair task
  pub tree : IsTree u root
  pub units : HasUnits u raw
  pub files : HasFiles u raw
  pub visible : IsVisible raw n
  pub lawful : IsLawful greatest_size n
  pub paths : HasBytePaths task.command
  pub unused : NamesUnused n task.command

pub record BuiltSeen : Type 0 where
  pub task : Task
  pub change : Change
  pub reply : Reply
  pub objects : ObjectCounts

-- ---- what a change does to units

-- All that the task's command changes lies in leaves, and the patch sets just what its edits set.
pub record IsPlain (task : Task) (p : Patch Value) : Type 0 where
  pub leaves : task.scope.in_leaves ≡ true
  pub effect : HasEffect p (is_in (changed (edits_for task))) (set_by (edits_for task))

-- The key is that of a byte of an object of which the edits change a byte.
pub record IsBesideByte (e : Edits) (k : ℕ) : Type 0 where
  pub object : Target
  pub is : IsObject object
  pub at : ℕ
  pub within : at < 2 ^ 64
  pub key : k ≡ byte_rank object at
  pub other : ℕ
  pub small : other < 2 ^ 64
  pub changes : is_in (changed e) (byte_rank object other) ≡ true

-- The units of these keys, each of them changed by the task's edits or beside such a byte, are moved as the edits say
-- of the content n, whose units are `raw` before and `after` afterwards; and with the patch in place each file stands in
-- the tree u as files do.
pub record MovesAsMeant (task : Task) (p : Patch Value) (u : Store Value) (raw n after : Content)
    (keys : Intervals) : Type 0 where
  pub own : (k : ℕ) → is_in keys k ≡ true
      → (is_in (changed (edits_for task)) k ≡ true) ⊎ IsBesideByte (edits_for task) k
  pub units : MovesUnits (edits_for task) n raw after keys
  pub kinds : (o : Target) (a : Attr) → HasStat after o a → is_directory a ≡ false
      → HasTails (place p u) o a.size ⊎ HasExtents (place p u) o a.size

-- The patch moves the units of these keys: wherever the task may be done, as its command means.
pub record IsMove (task : Task) (p : Patch Value) : Type 0 where
  pub keys : Intervals
  pub to : ℕ → Option (Placed Value)
  pub effect : HasEffect p (is_in keys) to
  pub moves : (u : Store Value) (root : Root) (raw n after : Content)
      → IsPlaceFor task u root raw n → MeetsPart p u root → IsSetAt (is_in keys) to raw after
      → MovesAsMeant task p u raw n after keys

-- ---- what was built

-- The reply is the command's, and so are the objects that it makes and takes away. The change is one of each part of a
-- tree in which the task's edits may be made; it sets just what they set, in leaves, or moves units as the command
-- means. Its old cells are cells that the task writes, and its new ones have their numbers, or the task's; there are no
-- more of them than were told.
pub record IsBuilt (x : BuiltSeen) : Type 0 where
  pub reply : x.reply ≡ reply_for x.task
  pub born : x.objects.born ≡ born_for x.task
  pub gone : x.objects.gone ≡ gone_for x.task
  pub change : IsChange x.change.old x.change.new x.change.root
  pub made : IsPlain x.task (patch_of_change x.change)
      ⊎ IsMove x.task (patch_of_change x.change)
  pub meets : (t : Store Value) (r : Root) → IsTaskIn t r x.task
      → MeetsPart (patch_of_change x.change) t r
  pub few : length x.change.new ≤ x.task.scope.most
  pub old : (c : CellSeen) → Contains x.change.old c → Contains x.task.writes c
  pub new : (c : CellSeen) → Contains x.change.new c
      → Contains (ids_of x.change.old) c.id
      ⊎ ((x.task.fresh.next ≤ c.id) × (c.id < x.task.fresh.end))

-- Where the change has a new root, it has an old cell of the root's number.
abbrev pub HasOldRoot : BuiltSeen → Root → Type 0
HasOldRoot x r = IsSome (patch_of_change x.change).root
    → (c : Node Value) × ((patch_of_change x.change).old r.id ≡ Some c)
