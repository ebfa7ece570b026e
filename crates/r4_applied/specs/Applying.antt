-- What was built of a command, in the tree of all atoms (docs/sets.md; docs/volume.md, "Building").
use mathlib.Core.Logic.{inl, inr}
use Rattle.std.specs.Prelude.{◌≡◌, ◌⊎◌, ℕ, ◌<◌, ◌≤◌, ◌++◌, [], List, Option, None, false}
use Rattle.std.specs.Arc.{arc_value}
use Rattle.r4_base.specs.Tree.{Holds, Root, Store}
use Rattle.r4_base.specs.Value.{Content, Value}
use Rattle.r4_build.specs.Built.{BuiltSeen, HasReachOf, IsBuilt, IsMove, IsOfTask, IsPlain, IsTaskOf}
use Rattle.r4_build.specs.Built.{edits_for}
use Rattle.r4_build.specs.declared.task.Task.{Task}
use Rattle.r4_sets_told.specs.r4_cell.Patch.{Patch}
use Rattle.r4_sets_told.specs.r4_cell.Seen.{CellSeen, node_of}
use Rattle.r4_sets_told.specs.r4_patch.Joining.{patch_of_change}
use Rattle.r4_sets_told.specs.r4_cell.declared.change.Root.{Root as RootPair}
use Rattle.r4_content.specs.Edited.{Intervals, changed}
use Rattle.r4_content.specs.Fields.{HasBytePaths, NamesUnused}
use Rattle.r4_content.specs.Held.{pairs_of}
use Rattle.r4_content.specs.Lawful.{IsLawful}
use Rattle.r4_content.specs.Locality.{commands}
use Rattle.r4_content.specs.Meaning.{greatest_size}
use Rattle.r4_build.specs.r4_reach.Touched.{reads_on}
use Rattle.r4_sets_told.specs.r4_sets.Change.{IsFree as IsFreeFor}
use Rattle.r4_sets_told.specs.r4_sets.Session.{IsTreeOf, Session, all_done}
use Rattle.r4_sets_told.specs.r4_trace.Traced.{IsSealed, atom_in}

-- ---- what was built of it

-- It was built of such a task, whose reach stands in the tree with this content, in which its
-- command can be done: the paths are of bytes, and the id is no object's.
pub record IsBuiltOver
    (x : BuiltSeen) (u : Store Value) (root : Root) (n : Content) : Type 0 where
  pub built : IsBuilt x
  pub pair : RootPair
  pub met : List CellSeen
  pub rises : Option RootPair
  pub task : IsTaskOf pair met rises x.task
  pub there : HasReachOf u root pair x.task
  pub tree : IsTreeOf u root n
  pub lawful : IsLawful greatest_size n
  pub paths : HasBytePaths x.task.command
  pub unused : NamesUnused n x.task.command

-- the keys whose units the change moves besides those that the edits change: none where it is plain
abbrev pub moved_by : (task : Task) (p : Patch Value) → IsPlain task p ⊎ IsMove task p → Intervals
moved_by task p (inl plain) = []
moved_by task p (inr move) = move.keys

-- the keys that change: those that the task's edits change, and those that are moved
abbrev pub changed_by : (x : BuiltSeen) → IsBuilt x → Intervals
changed_by x built =
    moved_by x.task (patch_of_change x.change) built.made ++ changed (edits_for x.task)

-- these, and those that its command reads
abbrev pub touched_by : (x : BuiltSeen) → IsBuilt x → Intervals
touched_by x built =
    reads_on x.task.command (pairs_of (arc_value x.task.seen)) false ++ changed_by x built

-- The key lies in a cell of the task's reach.
pub record IsInReach (task : Task) (k : ℕ) : Type 0 where
  pub cell : CellSeen
  pub among : IsOfTask task cell
  pub holds : Holds (node_of cell) k

-- ---- in a session

-- It was built over the cells in memory, and the content of all commands that were done; the atom
-- of its transaction is not sealed, and no other one owns a cell of the task's reach, nor any a
-- number of the task.
pub record CanApply (x : BuiltSeen) (was : Session) (txn : ℕ) : Type 0 where
  pub over : IsBuiltOver x was.memory was.root (all_done (commands greatest_size) was)
  pub unsealed : IsSealed was.trace (atom_in was.trace txn) → ⊥
  pub own : (c : CellSeen) → IsOfTask x.task c → IsFreeFor was (atom_in was.trace txn) c.id
  pub fresh : (i : ℕ) → x.task.fresh.next ≤ i → i < x.task.fresh.end → was.owner i ≡ None
