-- Which tasks stand, and which nodes each of them holds.
use Rattle.std.specs.Prelude.{◌≡◌, ◌≢◌, ℕ, ◌+◌, ◌<◌, ◌≤◌, min, length, List, All, [], ◌∷◌, ◌++◌, slice_index_or, slice_set, count_by, Option, Some, None, is_some, IsSome, Result, Ok, Err, Bool, true, false, nat_eq, if◌then◌else◌}
use Rattle.std.specs.List.{position, list_any}
use Rattle.std.specs.Map.{lookup}
use Rattle.std.specs.Option.{option_map, option_or}
use Rattle.r4_base.specs.declared.things.NodeId.{NodeId}
use Rattle.r4_base.specs.declared.things.TaskId.{TaskId}
use Rattle.r4_locks.specs.declared.things.Mode.{Mode}
use Rattle.r4_locks.specs.declared.things.Mode.TheVariants.{Reads, Writes}
use Rattle.r4_locks.specs.declared.things.Held.{Held}
use Rattle.r4_locks.specs.declared.things.Held.TheVariants.{Free, Read, Write}
use Rattle.r4_locks.specs.declared.things.TakeFault.{TakeFault}
use Rattle.r4_locks.specs.declared.things.TakeFault.TheVariants.{Busy, Memory}
use Rattle.r4_locks.specs.Modes.{conflicts, joined, is_reading, is_writing}

-- the nodes that a task holds, each with its mode, and of how many more it can keep the modes
pub record TaskSeen : Type 0 where
  pub holds : List (ℕ × Mode)
  pub room : ℕ

-- for each number the task that stands under it, and of how many more nodes the holders can be kept
pub record LocksSeen : Type 0 where
  pub tasks : List (Option TaskSeen)
  pub spare : ℕ
  -- whether there is a place for one more task
  pub lets_in : Bool

abbrev pub task_at : LocksSeen → (task : ℕ) → Option TaskSeen
task_at t task = slice_index_or t.tasks task None

abbrev pub stands : LocksSeen → (task : ℕ) → Bool
stands t task = is_some (task_at t task)

abbrev pub IsTask : LocksSeen → (task : ℕ) → Type 0
IsTask t task = IsSome (task_at t task)

abbrev pub mode_in : Option TaskSeen → (node : ℕ) → Option Mode
mode_in None node = None
mode_in (Some task) node = lookup (nat_eq node) task.holds

-- in which mode a task holds a node
abbrev pub mode_of : LocksSeen → (task node : ℕ) → Option Mode
mode_of t task node = mode_in (task_at t task) node

-- how many tasks read a node, and how many write it
abbrev pub readers : List (Option TaskSeen) → (node : ℕ) → ℕ
readers tasks node = count_by (λ task. is_reading (mode_in task node)) tasks

abbrev pub writers : List (Option TaskSeen) → (node : ℕ) → ℕ
writers tasks node = count_by (λ task. is_writing (mode_in task node)) tasks

-- Who holds a node.
abbrev pub IsHeldBy : List (Option TaskSeen) → (node : ℕ) → Held → Type 0
IsHeldBy tasks node Free = (readers tasks node ≡ 0) × (writers tasks node ≡ 0)
IsHeldBy tasks node (Read many) = (readers tasks node ≡ many) × (0 < many) × (writers tasks node ≡ 0)
IsHeldBy tasks node (Write by) =
    (readers tasks node ≡ 0) × (writers tasks node ≡ 1) × (mode_in (slice_index_or tasks by.0 None) node ≡ Some Writes)

abbrev pub IsHeld : LocksSeen → (node : ℕ) → Held → Type 0
IsHeld t node held = IsHeldBy t.tasks node held

-- No two tasks hold one node where one of them writes it.
abbrev pub AreHolds : LocksSeen → Type 0
AreHolds t = (node j k : ℕ) → j ≢ k → mode_of t j node ≡ Some Writes → mode_of t k node ≡ None

-- ---- what stands in the way

-- the tasks but for this one
abbrev pub others : Option TaskId → List (Option TaskSeen) → List (Option TaskSeen)
others None tasks = tasks
others (Some who) tasks = slice_set tasks who.0 None

-- the smallest other task that holds a node in a mode that conflicts
abbrev pub smallest_holder : LocksSeen → (mine : Option TaskId) → (wanted : Mode) → (node : ℕ) → Option TaskId
smallest_holder t mine wanted node =
    option_map (λ k. record { 0 = k }) (position (λ task. conflicts wanted (mode_in task node)) (others mine t.tasks))

-- the first of these nodes that another task holds in a mode that conflicts, and the smallest such task
abbrev pub first_conflict : LocksSeen → (mine : Option TaskId) → (wanted : Mode) → List NodeId → Option (NodeId × TaskId)
first_conflict t mine wanted [] = None
first_conflict t mine wanted (node ∷ rest) =
    option_or (option_map (λ holder. (node, holder)) (smallest_holder t mine wanted node.0)) (first_conflict t mine wanted rest)

-- the nodes that are to be written come before those that are to be read
abbrev pub conflict_of : LocksSeen → (mine : Option TaskId) → (reads writes : List NodeId) → Option (NodeId × TaskId)
conflict_of t mine reads writes = option_or (first_conflict t mine Writes writes) (first_conflict t mine Reads reads)

-- Another task than this one holds a node in a mode that conflicts.
pub record Conflicts (t : LocksSeen) (mine : Option TaskId) (wanted : Mode) (node : ℕ) (holder : TaskId) : Type 0 where
  pub another : mine ≢ Some holder
  pub holds : conflicts wanted (mode_of t holder.0 node) ≡ true

-- It is the smallest such task.
pub record IsSmallestHolder (t : LocksSeen) (mine : Option TaskId) (wanted : Mode) (node : ℕ) (holder : TaskId) : Type 0 where
  pub holds : Conflicts t mine wanted node holder
  pub smallest : (other : TaskId) → Conflicts t mine wanted node other → holder.0 ≤ other.0

-- No other task holds the node in a mode that conflicts.
abbrev pub IsFree : LocksSeen → Option TaskId → (wanted : Mode) → (node : ℕ) → Type 0
IsFree t mine wanted node = (holder : TaskId) → Conflicts t mine wanted node holder → ⊥

-- The node is the first of the names that is not free, and the task is the smallest one that holds it so.
pub record IsFirstConflict (t : LocksSeen) (mine : Option TaskId) (wanted : Mode) (names : List NodeId) (node : NodeId) (holder : TaskId) : Type 0 where
  pub before : List NodeId
  pub after : List NodeId
  pub place : names ≡ before ++ node ∷ after
  pub free : All (λ name. IsFree t mine wanted name.0) before
  pub holds : IsSmallestHolder t mine wanted node.0 holder

-- No other task holds a node in a mode that conflicts.
abbrev pub IsClear : LocksSeen → (who : ℕ) → (wanted : Mode) → (node : ℕ) → Type 0
IsClear t who wanted node = (k : ℕ) → k ≢ who → conflicts wanted (mode_of t k node) ≡ false

-- ---- what is taken

abbrev pub is_named : List NodeId → ℕ → Bool
is_named names node = list_any (λ (name : NodeId). nat_eq name.0 node) names

-- the mode of a node once these names are taken
abbrev pub mode_with : (wanted : Mode) → List NodeId → ℕ → Option Mode → Option Mode
mode_with wanted names node mode = if is_named names node then Some (joined mode wanted) else mode

-- of how many nodes a task can take hold without memory
abbrev pub room_in : Option TaskSeen → ℕ
room_in None = 0
room_in (Some task) = task.room

abbrev pub room_of : LocksSeen → (task : ℕ) → ℕ
room_of t task = min t.spare (room_in (task_at t task))

-- There is room for these names.
abbrev pub HasRoom : LocksSeen → (task : ℕ) → (reads writes : List NodeId) → Type 0
HasRoom t task reads writes = length reads + length writes ≤ room_of t task

-- The room of each task has become smaller by so many names at most.
abbrev pub UsesRoom : (old new : LocksSeen) → (names : ℕ) → Type 0
UsesRoom old new names = (task : ℕ) → room_of old task ≤ room_of new task + names

-- The task holds what it held and these nodes.
abbrev pub Takes : (old new : LocksSeen) → (task : ℕ) → (reads writes : List NodeId) → Type 0
Takes old new task reads writes =
    (node : ℕ) → mode_of new task node ≡ mode_with Reads reads node (mode_with Writes writes node (mode_of old task node))

-- The task stands and holds nothing.
pub record IsNew (t : LocksSeen) (task : ℕ) : Type 0 where
  pub stands : IsTask t task
  pub empty : (node : ℕ) → mode_of t task node ≡ None

-- All other tasks are as before.
abbrev pub OthersAsBefore : (old new : LocksSeen) → (task : ℕ) → Type 0
OthersAsBefore old new task = (k : ℕ) → k ≢ task → task_at new k ≡ task_at old k

-- Each task is as it was.
abbrev pub SameTasks : (old new : LocksSeen) → Type 0
SameTasks old new = (task : ℕ) → task_at new task ≡ task_at old task

-- There is a place for the new task, which has room for so many nodes, and so has the table.
pub record CanLetIn (t : LocksSeen) (new names : ℕ) : Type 0 where
  pub place : t.lets_in ≡ true
  pub room : names ≤ t.spare
  pub own_room : names ≤ new

-- A new task holds these nodes, each in its mode, and nothing else; the others hold what they held.
pub record TakesNew (old new : LocksSeen) (task : ℕ) (reads writes : List NodeId) : Type 0 where
  pub unused : task_at old task ≡ None
  pub stands : IsTask new task
  pub modes : (node : ℕ) → mode_of new task node
      ≡ mode_with Reads reads node (mode_with Writes writes node None)
  pub others : OthersAsBefore old new task

-- Each task stands with the same holds.
abbrev pub AsBefore : (old new : LocksSeen) → Type 0
AsBefore old new = (task : ℕ) → (stands new task ≡ stands old task) × ((node : ℕ) → mode_of new task node ≡ mode_of old task node)

-- what a call that takes nodes names
abbrev pub busy_of : Result (Unit {0}) TakeFault → Option (NodeId × TaskId)
busy_of (Ok done) = None
busy_of (Err (Busy node holder)) = Some (node, holder)
busy_of (Err Memory) = None
