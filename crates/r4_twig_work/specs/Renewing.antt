-- Data blocks with other bytes in their place (docs/volume.md, "The working set").
use Rattle.std.specs.Prelude.{◌≡◌, ◌↔◌, ◌⊎◌, ℕ, ◌+◌, ◌≤◌, Bool, true, false, List, length, map, Contains, Option}
use Rattle.std.specs.Prelude.{None, Some}
use Rattle.r4_base.specs.Key.{rank}
use Rattle.r4_base.specs.Tree.{Root, Store}
use Rattle.r4_base.specs.Value.{Value}
use Rattle.r4_measure.specs.r4_cell.Patch.{HaveNames, IsChange}
use Rattle.r4_measure.specs.r4_cell.Seen.{CellSeen, node_of}
use Rattle.r4_measure.specs.r4_cell.declared.change.Change.{Change}
use Rattle.r4_measure.specs.r4_cell.declared.change.Fresh.{Fresh}
use Rattle.r4_measure.specs.r4_patch.Effect.{in_extent}
use Rattle.r4_measure.specs.r4_patch.Joining.{ids_of, patch_of_change}
use Rattle.r4_measure.specs.r4_patch.Part.{MeetsPart}
use Rattle.r4_measure.specs.r4_path.Levels.{units_of_cells}
use Rattle.r4_measure.specs.r4_work.Order.{HasKey}
use Rattle.r4_measure.specs.r4_work.Remaking.{Changes}
use Rattle.r4_measure.specs.r4_work.Working.{IsPutInPlace, IsWorking, now_of, root_of, standing}
use Rattle.r4_measure.specs.r4_work.declared.working.WorkingSet.{WorkingSet}

-- a data block, and the one that comes in its place
pub record Renewal : Type 0 where
  pub old : CellSeen
  pub new : CellSeen

-- It has the name and the range of the old one, which are those of 4096 bytes.
pub record IsRenewal (p : Renewal) : Type 0 where
  pub number : p.new.id ≡ p.old.id
  pub old_level : p.old.level ≡ 0
  pub new_level : p.new.level ≡ 0
  pub lo : rank p.new.lo ≡ rank p.old.lo
  pub hi : rank p.new.hi ≡ rank p.old.hi
  pub wide : rank p.old.hi ≡ rank p.old.lo + 4096
  pub whole : length p.new.block ≡ 4096

abbrev pub olds_of : List Renewal → List CellSeen
olds_of ps = map (λ p. p.old) ps

abbrev pub news_of : List Renewal → List CellSeen
news_of ps = map (λ p. p.new) ps

-- Blocks of this part of a tree, no two of one name, with others in their place.
pub record AreRenewals (t : Store Value) (ps : List Renewal) : Type 0 where
  pub each : (p : Renewal) → Contains ps p → IsRenewal p
  pub stand : (p : Renewal) → Contains ps p → t p.old.id ≡ Some (node_of p.old)
  pub names : HaveNames (olds_of ps)

-- The set is one of this part of a tree, and these cells are such blocks of it and what comes in their place.
pub record IsRenewable (t : Store Value) (r : Root) (f : Fresh) (w : WorkingSet)
    (olds news : List CellSeen) (ps : List Renewal) : Type 0 where
  pub working : IsWorking t r f w
  pub old_are : olds ≡ olds_of ps
  pub new_are : news ≡ news_of ps
  pub are : AreRenewals (now_of w t) ps
  pub numbers : f.next ≤ f.end

-- ---- what that does to units

-- At the keys of a set, each of which one of the blocks has, the new blocks have these values, and elsewhere what the old
-- ones had.
pub record Renews (ps : List Renewal) (at : ℕ → Bool) (to : ℕ → Option Value) : Type 0 where
  pub held : (k : ℕ) → at k ≡ true → (p : Renewal) × Contains ps p × HasKey p.old k
  pub there : (k : ℕ) (v : Value) → at k ≡ true
      → Contains (units_of_cells (news_of ps)) (k, v) ↔ (to k ≡ Some v)
  pub others : (k : ℕ) (v : Value) → at k ≡ false
      → Contains (units_of_cells (news_of ps)) (k, v)
      ↔ Contains (units_of_cells (olds_of ps)) (k, v)

-- Whatever these do, the set after does.
abbrev pub DoesRenew : (w now : WorkingSet) → List Renewal → Type 0
DoesRenew w now ps = (at : ℕ → Bool) (to : ℕ → Option Value) → Renews ps at to
    → Changes w now at (λ k. in_extent (to k))

-- ---- what stands then

-- these go and those come, under the same root
abbrev pub renewing : (olds news : List CellSeen) → Change
renewing olds news = record { old = olds; new = news; root = None }

abbrev pub AllStand : WorkingSet → List CellSeen → Type 0
AllStand w cells = (c : CellSeen) → Contains cells c → Contains (standing w) c

-- No more cells stand than before, and where no two that stood had one number, as many. An old cell of the change was one
-- before, or is one of the task's that was not replaced till then; those that were old cells are. A new cell has the
-- number of an old one, or of one that was new before.
pub record StandAsBefore (w now : WorkingSet) : Type 0 where
  pub few : length (standing now) ≤ length (standing w)
  pub as_many : HaveNames (standing w) → length (standing now) ≡ length (standing w)
  pub old : (c : CellSeen) → Contains now.change.old c
      → Contains w.change.old c ⊎ Contains w.kept c
  pub still_old : (c : CellSeen) → Contains w.change.old c → Contains now.change.old c
  pub kept : (c : CellSeen) → Contains now.kept c → Contains w.kept c
  pub new : (c : CellSeen) → Contains now.change.new c
      → Contains (ids_of now.change.old) c.id ⊎ Contains (ids_of w.change.new) c.id

-- Cells came in the place of others, under their numbers, and that is put in place as one change: they stand now, and so
-- do the cells that stood and have none of these numbers, and no other ones. The fresh numbers are as they were.
pub record IsRenewed (t : Store Value) (r : Root) (f : Fresh) (w now : WorkingSet)
    (olds news : List CellSeen) : Type 0 where
  pub numbers : ids_of news ≡ ids_of olds
  pub change : IsChange olds news None
  pub meets : MeetsPart (patch_of_change (renewing olds news)) (now_of w t) (root_of w r)
  pub put : IsPutInPlace w (renewing olds news) now
  pub stand : (c : CellSeen) → Contains (standing now) c ↔ (Contains news c
      ⊎ (Contains (standing w) c × (Contains (ids_of olds) c.id → ⊥)))
  pub as_before : AllStand w olds → StandAsBefore w now
  pub working : IsWorking t r f now
