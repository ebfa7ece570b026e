-- A node that is parted in two, and the path above it (docs/volume.md, "Edits").
use Rattle.std.specs.Prelude.{◌≡◌, ◌⊎◌, ℕ, ◌+◌, ◌≤◌, ◌==◌, if◌then◌else◌, List, [], ◌∷◌, Contains, drop, length, reverse, take}
use Rattle.std.specs.Prelude.{Option, None, Some}
use Rattle.r4_base.specs.Key.{rank}
use Rattle.r4_base.specs.Node.{items_of}
use Rattle.r4_base.specs.Tree.{Root, Store}
use Rattle.r4_base.specs.Value.{Value}
use Rattle.r4_path.specs.r4_branch.Pieces.{names_of, pieces_in}
use Rattle.r4_path.specs.r4_cell.Seen.{CellSeen, node_of}
use Rattle.r4_path.specs.r4_cell.declared.change.Change.{Change}
use Rattle.r4_path.specs.r4_cell.declared.change.Fresh.{Fresh}
use Rattle.r4_path.specs.r4_patch.Joining.{ids_of}
use Rattle.r4_path.specs.Grafts.{IsTwigRow}
use Rattle.r4_path.specs.Growing.{IsPathIn}
use Rattle.r4_path.specs.Levels.{AreNeeded, HasLevels, HaveMkfsIdOf, IsLongEnough, IsRootNeeded, KeepMkfsIds, Keeps, units_of_cells}
use Rattle.r4_path.specs.Sharing.{AreSome, IsSound}
use Rattle.r4_path.specs.Steps.{CountUp, IsStep, Step, fresh_ids, olds}
use Rattle.r4_path.specs.Nodes.{IsPointable}

-- How many units the cell may be parted between: of a leaf its stat data, entries and bytes, of a twig its pointers and the
-- units of its extents, and above it pointers alone.
abbrev pub unit_count : CellSeen → ℕ
unit_count c =
    if c.level == 1 then length (node_of c).units
    else (if c.level == 2 then length (pieces_in (items_of c.block)) else length (items_of c.block))

-- The cell has two units or more, and is the lowest of a path of this part of a tree, with the cells above it that a new
-- pointer may ask for.
pub record IsPartedIn (t : Store Value) (r : Root) (c : CellSeen) (ups : List CellSeen) (fresh : Fresh) : Type 0 where
  pub path : IsPathIn t r (c ∷ ups) fresh
  pub enough : IsLongEnough r 1 c ups
  pub units : 2 ≤ unit_count c

-- The lowest step parts the cell in two, of which neither is empty, with all its units in their order; the steps go up the
-- path, with the next numbers. The mkfs_ids are kept.
pub record Parts (c : CellSeen) (ups : List CellSeen) (before after : Fresh) (change : Change) : Type 0 where
  pub lowest : Step
  pub more : List Step
  pub over : Option CellSeen
  pub levels : HasLevels (lowest ∷ more) over change
  pub old : lowest.old ≡ c
  pub ups_are : olds more ≡ take (length more) ups
  pub two : length lowest.new ≡ 2
  pub some : AreSome lowest.new
  pub units : units_of_cells lowest.new ≡ (node_of c).units
  pub keep : (u : Step) → Contains more u → Keeps u
  pub needed : AreNeeded (lowest ∷ more)
  pub root_needed : IsRootNeeded (lowest ∷ more) over
  pub root_able : (d : CellSeen) → over ≡ Some d → IsPointable d.id
  pub mkfs_ids : KeepMkfsIds (lowest ∷ more) over
  pub root_units : (d : CellSeen) → over ≡ Some d → (node_of d).units ≡ []
  pub counts : CountUp before.next (fresh_ids (lowest ∷ more) over)
  pub number : after ≡ record before { next = before.next + length (fresh_ids (lowest ∷ more) over) }

-- Cells share out what the cell named and its extents, with numbers that were taken and its mkfs_id.
pub record IsSharedOut (c : CellSeen) (before after : Fresh) (s : Step) : Type 0 where
  pub old : s.old ≡ c
  pub step : IsStep None s
  pub sound : (d : CellSeen) → Contains s.new d → IsSound d
  pub counts : CountUp before.next (ids_of (drop 1 s.new))
  pub number : after ≡ record before { next = before.next + length (drop 1 s.new) }
  pub mkfs_id : HaveMkfsIdOf c s.new

-- Twigs share out the pieces of a twig, with numbers that were taken and its mkfs_id.
pub record ArePiecesShared (c : CellSeen) (before after : Fresh) (s : Step) : Type 0 where
  pub level : c.level ≡ 2
  pub names : names_of (rank c.hi) (pieces_in (items_of c.block)) ≡ (node_of c).names
  pub row : IsTwigRow c (pieces_in (items_of c.block)) before after s

-- The cell is parted in two, of which neither is empty, with all its units in their order: between items or within one of a
-- leaf, or within an extent.
pub record IsParted (c : CellSeen) (before after : Fresh) (s : Step) : Type 0 where
  pub two : length s.new ≡ 2
  pub some : AreSome s.new
  pub units : units_of_cells s.new ≡ (node_of c).units
  pub parts : IsSharedOut c before after s ⊎ ArePiecesShared c before after s

-- ---- the same of a path that is given from the top down

abbrev pub IsPartedUp : Store Value → Root → Fresh → List CellSeen → Type 0
IsPartedUp t r fresh [] = ⊥
IsPartedUp t r fresh (c ∷ ups) = IsPartedIn t r c ups fresh

abbrev pub IsSplitIn : Store Value → Root → (path : List CellSeen) → Fresh → Type 0
IsSplitIn t r path fresh = IsPartedUp t r fresh (reverse path)

abbrev pub PartsUp : (before after : Fresh) → Change → List CellSeen → Type 0
PartsUp before after change [] = ⊥
PartsUp before after change (c ∷ ups) = Parts c ups before after change

abbrev pub Splits : (path : List CellSeen) → (before after : Fresh) → Change → Type 0
Splits path before after change = PartsUp before after change (reverse path)
