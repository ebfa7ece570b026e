-- The faults of a tree, in the order in which a walk from the left meets them, a node before its children
-- (docs/check.md).
use Rattle.std.specs.Prelude.{◌≡◌, ◌⊎◌, ℕ, zero, suc, List, [], ◌∷◌, ◌++◌, Bool, true, false, ◌||◌, ◌==◌, Option}
use Rattle.std.specs.Prelude.{Some, None, if◌then◌else◌, Contains, count_by, fold, sum_by, unwrap_or}
use Rattle.std.specs.Option.{is_none, option_or}
use Rattle.r4_base.specs.Bitmap.{is_marked}
use Rattle.r4_base.specs.Cell.{cell_fault, cell_of}
use Rattle.r4_base.specs.Image.{Image, block_at}
use Rattle.r4_base.specs.Tree.{Name, Node}
use Rattle.r4_base.specs.Value.{Value}
use Rattle.r4_base.specs.Volume.{is_stat_value}
use Rattle.r4_base.specs.declared.items.CellFault.{CellFault}
use Rattle.r4_base.specs.declared.superblock.Super40.{Super40}
use Rattle.r4_list.specs.Lists.{root_name_of}
use Rattle.r4_check_objects.specs.Faults.{fault_at}
use Rattle.r4_check_objects.specs.Held.{held_in}
use Rattle.r4_check_objects.specs.Objects.{object_faults}
use Rattle.r4_check_objects.specs.declared.fault.Fault.{Fault}
use Rattle.r4_check_objects.specs.declared.held.Held.{Held}
use Rattle.r4_check_objects.specs.declared.fault.What.{What}
use Rattle.r4_check_objects.specs.declared.fault.What.TheVariants.{Cell, Twice, Unmarked}

-- What a walk has met so far.
pub record Walk : Type 0 where
  -- the blocks that were reached, the last one first
  pub reached : List ℕ
  -- what is wrong with them, in order
  pub faults : List Fault
  -- the cells that were accepted, each with its block, the last one first
  pub cells : List (ℕ × Node Value)
  -- no node was refused, and no block was reached twice
  pub whole : Bool

-- nothing yet
abbrev pub nothing_met : Walk
nothing_met = record { reached = []; faults = []; cells = []; whole = true }

-- whether the number is one of these
abbrev pub is_among : ℕ → List ℕ → Bool
is_among b [] = false
is_among b (x ∷ xs) = x == b || is_among b xs

abbrev pub is_reached : Walk → ℕ → Bool
is_reached w b = is_among b w.reached

-- the cell that a name means, and why its block may not stand there
abbrev pub cell_at : Image → Name → Node Value
cell_at image n = cell_of n.level n.lo n.hi (block_at image n.id)

abbrev pub refusal_at : (blocks : ℕ) → Image → Name → Option CellFault
refusal_at blocks image n = cell_fault false blocks n.level n.lo n.hi (block_at image n.id)

-- what is wrong with a block that is reached for the first time: its bit, else the block
abbrev pub wrong_with : (marked : Bool) → Option CellFault → Option What
wrong_with false f = Some Unmarked
wrong_with true None = None
wrong_with true (Some f) = Some (Cell f)

-- the block has this fault, if any
abbrev pub faults_at : (block : ℕ) → Option What → List Fault
faults_at b None = []
faults_at b (Some what) = fault_at b what ∷ []

abbrev pub with_fault : (block : ℕ) → Option What → Walk → Walk
with_fault b what w = record w { faults = w.faults ++ faults_at b what }

-- the block is reached; and its cell is one of the tree
abbrev pub with_reached : (block : ℕ) → Walk → Walk
with_reached b w = record w { reached = b ∷ w.reached }

abbrev pub with_cell : (block : ℕ) → Node Value → Walk → Walk
with_cell b c w = record w { cells = (b, c) ∷ w.cells }

-- the tree is not whole
abbrev pub with_gap : Walk → Walk
with_gap w = record w { whole = false }

-- a block that was reached before, and one that is reached for the first time, with its cell or refused
abbrev pub met_again : (block : ℕ) → Walk → Walk
met_again b w = with_fault b (Some Twice) (with_gap w)

abbrev pub met_first : (block : ℕ) → (marked : Bool) → Option CellFault → Node Value → Walk → Walk
met_first b marked None c w = with_fault b (wrong_with marked None) (with_cell b c (with_reached b w))
met_first b marked (Some f) c w = with_fault b (wrong_with marked (Some f)) (with_gap (with_reached b w))

unfoldable pub meet : (blocks : ℕ) → Image → Walk → Name → Walk
meet blocks image w n =
    if is_reached w n.id then met_again n.id w else
    met_first n.id (is_marked image n.id) (refusal_at blocks image n) (cell_at image n) w

-- what is looked at below a name: what its cell names, where it is reached for the first time and not refused
unfoldable pub names_below : (blocks : ℕ) → Image → Walk → Name → List Name
names_below blocks image w n =
    if is_reached w n.id then [] else
    if is_none (refusal_at blocks image n) then (cell_at image n).names else
    []

-- To look at a name, and at what is below it, at most so many levels.
unfoldable pub look : (levels blocks : ℕ) → Image → Walk → Name → Walk
look zero blocks image w n = meet blocks image w n
look (suc levels) blocks image w n =
    fold (look levels blocks image) (meet blocks image w n) (names_below blocks image w n)

abbrev pub look_at : (levels blocks : ℕ) → Image → Walk → List Name → Walk
look_at levels blocks image w names = fold (look levels blocks image) w names

-- the walk over the tree that a superblock names
abbrev pub walk_of : Super40 → Image → Walk
walk_of s image = look s.tree_height s.block_count image nothing_met (root_name_of s)

-- how many stat data the cells have
abbrev pub stats_in : Node Value → ℕ
stats_in c = count_by (λ u. is_stat_value u.1) c.units

abbrev pub stats_met : List (ℕ × Node Value) → ℕ
stats_met cells = sum_by (λ c. stats_in c.1) cells

abbrev pub objects_met : Walk → ℕ
objects_met w = stats_met w.cells

-- ---- the objects that the cells hold, and what is wrong with them

-- what the cells hold, from the left
abbrev pub found_in : List (ℕ × Node Value) → List Held
found_in [] = []
found_in (c ∷ cells) = found_in cells ++ held_in c.0 c.1

-- the block of the leftmost leaf
abbrev pub leaf_at : (block : ℕ) → Node Value → Option ℕ
leaf_at b c = if c.level == 1 then Some b else None

abbrev pub leaf_in : List (ℕ × Node Value) → Option ℕ
leaf_in [] = None
leaf_in (c ∷ cells) = option_or (leaf_in cells) (leaf_at c.0 c.1)

-- the faults of objects, where the tree is whole; where it has no leaf, the root stands for the leftmost one
abbrev pub objects_wrong : Super40 → Walk → List Fault
objects_wrong s w = if w.whole then object_faults s (unwrap_or (leaf_in w.cells) s.root_block) (found_in w.cells) else []

abbrev pub with_faults : List Fault → Walk → Walk
with_faults more w = record w { faults = w.faults ++ more }

abbrev pub judged : Super40 → Walk → Walk
judged s w = with_faults (objects_wrong s w) w

-- the walk over a tree and the faults of its objects, and all faults
abbrev pub check_of : Super40 → Image → Walk
check_of s image = judged s (walk_of s image)

abbrev pub faults_of : Super40 → Image → List Fault
faults_of s image = (check_of s image).faults

-- the walk has the cell that a name means
abbrev pub HasCell : Image → Walk → Name → Type 0
HasCell image w n = Contains w.cells (n.id, cell_at image n)

-- the name is the root's, or a cell of the walk has it
abbrev pub IsNamedIn : (root : Name) → Walk → Name → Type 0
IsNamedIn root w n = (n ≡ root) ⊎ ((j : ℕ) × (d : Node Value) × Contains w.cells (j, d) × Contains d.names n)
