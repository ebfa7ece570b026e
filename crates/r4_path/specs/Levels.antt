-- A change that climbs a path, level by level (docs/volume.md, "Edits").
use Rattle.std.specs.Prelude.{◌≡◌, ◌≢◌, ◌⊎◌, ℕ, suc, ◌+◌, ◌*◌, ◌^◌, ◌<◌, ◌≤◌, List, [], ◌∷◌, ◌++◌, All, Contains, drop, length}
use Rattle.std.specs.Prelude.{map, take, Option, None, Some}
use Rattle.std.specs.Arc.{arc_value}
use Rattle.r4_base.specs.Extents.{pointer_of}
use Rattle.r4_base.specs.Key.{least, rank, top}
use Rattle.r4_base.specs.Node.{Item, items_of, mkfs_id_of}
use Rattle.r4_base.specs.Tree.{IsNode, Root}
use Rattle.r4_base.specs.Value.{Value}
use Rattle.r4_patch.specs.r4_cell.Seen.{CellSeen, node_of}
use Rattle.r4_patch.specs.r4_cell.declared.change.Change.{Change}
use Rattle.r4_patch.specs.r4_cell.declared.change.Fresh.{Fresh}
use Rattle.r4_patch.specs.Joining.{ids_of}
use Rattle.r4_path.specs.Nodes.{IsPointable, pointer_item, weight}
use Rattle.r4_path.specs.Sharing.{AreFilled, IsSound, items_of_cells}
use Rattle.r4_path.specs.Steps.{Climbs, CountUp, Ends, Follow, IsStep, Step, fresh_ids, name_of, news, olds, root_pair}
use Rattle.r4_path.specs.declared.level.Level.{Level}

-- what contracts see of a level
abbrev pub step_of : Level → Step
step_of l = record { old = arc_value l.old; new = l.new }

-- the units of all the cells, one after the other
abbrev pub units_of_cells : List CellSeen → List (ℕ × Value)
units_of_cells [] = []
units_of_cells (c ∷ cells) = (node_of c).units ++ units_of_cells cells

-- The new cells are one or two, with the old one's own units in their order. Above level 2, of two each has items of 1024
-- bytes or more.
pub record Keeps (s : Step) : Type 0 where
  pub few : length s.new ≤ 2
  pub units : units_of_cells s.new ≡ (node_of s.old).units
  pub filled : 3 ≤ s.old.level → length s.new ≡ 2 → AreFilled s.new

-- the cells have the mkfs_id of the one in whose place they stand
abbrev pub HaveMkfsIdOf : (old : CellSeen) → (cells : List CellSeen) → Type 0
HaveMkfsIdOf old cells = (c : CellSeen) → Contains cells c → mkfs_id_of c.block ≡ mkfs_id_of old.block

-- Each new cell has the mkfs_id of the one in whose place it stands, and a new root that of the highest old cell.
abbrev pub KeepMkfsIds : List Step → (over : Option CellSeen) → Type 0
KeepMkfsIds [] over = ⊥
KeepMkfsIds (s ∷ []) None = HaveMkfsIdOf s.old s.new
KeepMkfsIds (s ∷ []) (Some c) = HaveMkfsIdOf s.old s.new × (mkfs_id_of c.block ≡ mkfs_id_of s.old.block)
KeepMkfsIds (s ∷ (u ∷ us)) over = HaveMkfsIdOf s.old s.new × KeepMkfsIds (u ∷ us) over

-- Over a step there is another one only where several cells came. The cell of that one is parted only where it has no room for
-- pointers to them.
abbrev pub AreNeeded : List Step → Type 0
AreNeeded [] = Unit {0}
AreNeeded (s ∷ []) = Unit {0}
AreNeeded (s ∷ (u ∷ us)) =
    (length s.new ≢ 1)
    × (weight (items_of u.old.block) + 46 * length (drop 1 s.new) ≤ 4068 → length u.new ≡ 1)
    × AreNeeded (u ∷ us)

-- The items of the cells in the place of a parent are its own, and behind the pointer to the old cell of the level below stand
-- pointers to those that came beside it.
pub record HasRow (b s : Step) : Type 0 where
  pub before : List Item
  pub pointer : Item
  pub behind : List Item
  pub was : items_of s.old.block ≡ before ++ pointer ∷ behind
  pub plugin : pointer.plugin ≡ 3
  pub to : pointer_of pointer.body ≡ Some b.old.id
  pub now : items_of_cells s.new ≡ before ++ pointer ∷ (map pointer_item (drop 1 b.new) ++ behind)

-- So at each level above the lowest one; and a new root points to the cells below it.
abbrev pub AreRows : List Step → (over : Option CellSeen) → Type 0
AreRows [] over = Unit {0}
AreRows (s ∷ []) None = Unit {0}
AreRows (s ∷ []) (Some c) = (length s.new ≢ 1) × (items_of c.block ≡ map pointer_item s.new)
AreRows (s ∷ (u ∷ us)) over = HasRow s u × AreRows (u ∷ us) over

-- A new root stands only over a step of which several cells came.
abbrev pub IsRootNeeded : List Step → (over : Option CellSeen) → Type 0
IsRootNeeded [] over = over ≡ None
IsRootNeeded (s ∷ []) None = Unit {0}
IsRootNeeded (s ∷ []) (Some c) = length s.new ≢ 1
IsRootNeeded (s ∷ (u ∷ us)) over = IsRootNeeded (u ∷ us) over

-- The parent names the old cell, and may name the few new cells in its place.
pub record IsUnder (b : Step) (parent : CellSeen) : Type 0 where
  pub named : Contains (node_of parent).names (name_of b.old)
  pub low : 1 ≤ b.old.level
  pub up : parent.level ≡ suc b.old.level
  pub range : rank parent.lo < rank parent.hi
  pub first : ids_of b.new ≡ b.old.id ∷ ids_of (drop 1 b.new)
  pub ranges : Follow b.old.level (rank b.old.lo) (rank b.old.hi) b.new
  pub able : All (λ c. IsPointable c.id) (drop 1 b.new)
  pub few : length b.new ≤ 45

-- A step over another one: the cells in the place of the parent, with numbers that were taken. There is one where the new
-- pointers fit into the parent, and else there are two.
pub record IsStepOver (b : Step) (parent : CellSeen) (before after : Fresh) (s : Step) : Type 0 where
  pub old : s.old ≡ parent
  pub step : IsStep (Some b) s
  pub sound : (c : CellSeen) → Contains s.new c → IsSound c
  pub counts : CountUp before.next (ids_of (drop 1 s.new))
  pub number : after ≡ record before { next = before.next + length (drop 1 s.new) }
  pub one : weight (items_of parent.block) + 46 * length (drop 1 b.new) ≤ 4068 → length s.new ≡ 1
  pub two : 4068 < weight (items_of parent.block) + 46 * length (drop 1 b.new) → length s.new ≡ 2
  pub keeps : Keeps s
  pub mkfs_id : HaveMkfsIdOf s.old s.new
  pub row : HasRow b s

-- ---- up a path, from the lowest cell on

-- each cell names the one before it, one level below
abbrev pub Leads : CellSeen → List CellSeen → Type 0
Leads b [] = Unit {0}
Leads b (c ∷ cells) = Contains (node_of c).names (name_of b) × (c.level ≡ suc b.level) × (rank c.lo < rank c.hi) × Leads c cells

-- So many cells come beside the one that has this one's name. The next one has room for pointers to them, or is parted in two;
-- where there is none, the cell is a root below level 8.
abbrev pub Suffices : (come : ℕ) → CellSeen → List CellSeen → Type 0
Suffices come c [] = (rank c.lo ≡ least) × (rank c.hi ≡ top) × (c.level < 8) × IsPointable c.id
Suffices come c (d ∷ cells) = (weight (items_of d.block) + 46 * come ≤ 4068) ⊎ Suffices 1 d cells

-- The same, where the last of the cells is known by the name of the root.
abbrev pub IsLongEnough : Root → (come : ℕ) → CellSeen → List CellSeen → Type 0
IsLongEnough r come c [] = (c.id ≡ r.id) × (c.level < 8)
IsLongEnough r come c (d ∷ cells) = (weight (items_of d.block) + 46 * come ≤ 4068) ⊎ IsLongEnough r 1 d cells

-- The cells in the place of one, with the cells above it, up to where the change may end, and numbers for what is to come.
pub record CanClimb (s : Step) (ups : List CellSeen) (fresh : Fresh) : Type 0 where
  pub low : 1 ≤ s.old.level
  pub first : ids_of s.new ≡ s.old.id ∷ ids_of (drop 1 s.new)
  pub ranges : Follow s.old.level (rank s.old.lo) (rank s.old.hi) s.new
  pub able : All (λ c. IsPointable c.id) (drop 1 s.new)
  pub few : length s.new ≤ 45
  pub leads : Leads s.old ups
  pub enough : (length s.new ≡ 1) ⊎ Suffices (length (drop 1 s.new)) s.old ups
  pub unplaced : 2 ^ 63 ≤ fresh.next
  pub numbers : fresh.next + length ups < fresh.end
  pub end : fresh.end < 2 ^ 64

-- The steps above a step, and the new root where there is one. All keep the mkfs_ids where the step itself does.
pub record Climbed (s : Step) (ups : List CellSeen) (before after : Fresh) (were are : List Step)
    (over : Option CellSeen) : Type 0 where
  pub more : List Step
  pub steps : are ≡ were ++ s ∷ more
  pub climbs : Climbs (Some s) more
  pub needed : AreNeeded (s ∷ more)
  pub rows : AreRows (s ∷ more) over
  pub root_needed : IsRootNeeded (s ∷ more) over
  pub root_able : (c : CellSeen) → over ≡ Some c → IsPointable c.id
  pub olds_are : olds more ≡ take (length more) ups
  pub sound : (c : CellSeen) → Contains (news more None) c → IsSound c
  pub keep : (u : Step) → Contains more u → Keeps u
  pub mkfs_ids : HaveMkfsIdOf s.old s.new → KeepMkfsIds (s ∷ more) over
  pub root_units : (c : CellSeen) → over ≡ Some c → (node_of c).units ≡ []
  pub root_node : (c : CellSeen) → over ≡ Some c → IsNode (node_of c)
  pub counts : CountUp before.next (fresh_ids more over)
  pub number : after ≡ record before { next = before.next + length (fresh_ids more over) }
  pub within : after.next ≤ after.end
  pub ends : (r : Root) → (length s.new ≡ 1) ⊎ IsLongEnough r (length (drop 1 s.new)) s.old ups → Ends r (s ∷ more) over

-- The change has the cells of these steps, and the new root where there is one.
pub record HasLevels (steps : List Step) (over : Option CellSeen) (c : Change) : Type 0 where
  pub old : c.old ≡ olds steps
  pub new : c.new ≡ news steps over
  pub pair : c.root ≡ root_pair over

-- The change has this lowest step, and those above it that it asks for.
pub record Rises (s : Step) (ups : List CellSeen) (before after : Fresh) (c : Change) : Type 0 where
  pub steps : List Step
  pub over : Option CellSeen
  pub climbed : Climbed s ups before after [] steps over
  pub levels : HasLevels steps over c
