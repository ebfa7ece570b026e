-- Which of the cells that were met is named as another one than it is (docs/volume.md, "Reach"). A key is its rank.
use Rattle.std.specs.Prelude.{◌≡◌, ◌⊎◌, ℕ, ◌+◌, ◌-◌, ◌*◌, ◌^◌, ◌<◌, ◌≤◌, List, [], ◌∷◌, Contains}
use Rattle.std.specs.Prelude.{if◌then◌else◌, nat_lt, Option, None, Some, length}
use Rattle.std.specs.List.{flat_map}
use Rattle.r4_base.specs.Cell.{run_names}
use Rattle.r4_base.specs.Key.{offset_of, rank, top}
use Rattle.r4_base.specs.Tree.{Name}
use Rattle.r4_base.specs.declared.items.CellFault.{CellFault}
use Rattle.r4_base.specs.declared.items.CellFault.TheVariants.{Dir, Extent, Level, Node, Pointer}
use Rattle.r4_base.specs.declared.items.CellFault.TheVariants.{Range, Stat, Tail}
use Rattle.r4_cell.specs.Patch.{HaveNames}
use Rattle.r4_cell.specs.Seen.{CellSeen, node_of}
use Rattle.r4_cell.specs.declared.change.Root.{Root}
use Rattle.r4_search.specs.Path.{root_name}
use Rattle.r4_search.specs.Place.{child_name}
use Rattle.r4_search.specs.Pool.{IsNamed, StandsInMemory, place_fault}
use Rattle.r4_search.specs.declared.pool.FetchFault.{FetchFault}
use Rattle.r4_search.specs.declared.pool.FetchFault.TheVariants.{Damaged, Memory, Read}
use Rattle.r4_judging.specs.declared.misfit.Misfit.{Misfit}
use Rattle.r4_judging.specs.declared.named.Named.{Named}
use Rattle.r4_judging.specs.declared.named.Named.TheVariants.{Blocks, Child}

-- One of these names is the number of a cell that was met, at another level or for another range.
pub record Misnames (ns : List Name) (met : List CellSeen) (c : CellSeen) (f : CellFault) : Type 0
  where
    pub among : Contains met c
    pub name : Name
    pub named : Contains ns name
    pub id : name.id ≡ c.id
    pub fault : place_fault name c ≡ Some f

-- all that the cells name
abbrev pub all_names : List CellSeen → List Name
all_names cells = flat_map (λ (c : CellSeen). (node_of c).names) cells

-- ---- the first of them: by level from the root, then by range; another level comes before another range

abbrev pub fault_turn : CellFault → ℕ
fault_turn (Node fault) = 1
fault_turn (Stat fault) = 1
fault_turn (Dir fault) = 1
fault_turn (Extent fault) = 1
fault_turn Tail = 1
fault_turn Pointer = 1
fault_turn Level = 0
fault_turn (Range item) = 1

unfoldable pub turn : (level lo : ℕ) → CellFault → ℕ
turn level lo f = ((255 - level) * 2 ^ 256 + lo) * 2 + fault_turn f

abbrev pub turn_of : Misfit → ℕ
turn_of m = turn m.level (rank m.lo) m.fault

-- the one whose turn is first, the former of two with one turn
abbrev pub first_of : Option Misfit → Option Misfit → Option Misfit
first_of None other = other
first_of (Some m) None = Some m
first_of (Some m) (Some n) = if nat_lt (turn_of n) (turn_of m) then Some n else Some m

-- It is one of the cells and faults of a kind, and no other one comes before it.
pub record IsFirst (Is : CellSeen → CellFault → Type 0) (m : Misfit) : Type 0 where
  pub cell : CellSeen
  pub is : Is cell m.fault
  pub id : cell.id ≡ m.block.0
  pub level : cell.level ≡ m.level
  pub lo : cell.lo ≡ m.lo
  pub first : (c : CellSeen) (f : CellFault) → Is c f → turn_of m ≤ turn c.level (rank c.lo) f

-- the first of a kind, or there is none
abbrev pub IsFirstOf : (CellSeen → CellFault → Type 0) → Option Misfit → Type 0
IsFirstOf Is None = (c : CellSeen) (f : CellFault) → Is c f → ⊥
IsFirstOf Is (Some m) = IsFirst Is m

-- of the cells that these names misname it is the first, or there is none
abbrev pub IsJudged : List Name → List CellSeen → Option Misfit → Type 0
IsJudged ns met o = IsFirstOf (Misnames ns met) o

-- ---- what one pointer names, or one unit of an extent

abbrev pub names_meant : Named → List Name
names_meant (Child child) = child_name child ∷ []
names_meant (Blocks start count lo) = run_names (rank lo) start count

abbrev pub number_from : Named → ℕ
number_from (Child child) = child.id.0
number_from (Blocks start count lo) = start

abbrev pub number_count : Named → ℕ
number_count (Child child) = 1
number_count (Blocks start count lo) = count

-- the keys of its blocks are of one body, and of a tree
abbrev pub FitKeys : Named → Type 0
FitKeys (Child child) = Unit {0}
FitKeys (Blocks start count lo) = (offset_of lo + 4096 * count ≤ 2 ^ 64)
    × (rank lo + 4096 * count ≤ top)

-- ---- cells that hang together

-- one that was met names the cell
pub record IsNamedAmong (met : List CellSeen) (c : CellSeen) : Type 0 where
  pub up : CellSeen
  pub above : Contains met up
  pub name : Name
  pub named : Contains (node_of up).names name
  pub is : IsNamed name c

-- They have different names, and each is the root's or named by one of them. There is one at least.
pub record HangTogether (root : Root) (met : List CellSeen) : Type 0 where
  pub height : 2 ≤ root.height
  pub names : HaveNames met
  pub some : CellSeen
  pub one : Contains met some
  pub hung : (c : CellSeen) → Contains met c → IsNamed (root_name root) c ⊎ IsNamedAmong met c

-- It is a node or a data block by itself.
pub record IsSound (c : CellSeen) : Type 0 where
  pub whole : length c.block ≡ 4096
  pub stands : StandsInMemory c
  pub level : c.level < 256

-- ---- the answer

-- The fault is that of the first cell that is misnamed, with its block.
abbrev pub IsRefusal : List CellSeen → FetchFault → Type 0
IsRefusal met (Read at faults) = ⊥
IsRefusal met (Damaged at fault) =
    (m : Misfit) × IsFirst (Misnames (all_names met) met) m × (at ≡ m.block) × (fault ≡ m.fault)
IsRefusal met Memory = Unit {0}
