-- How many cells may still come in the place of each of a tree (docs/volume.md, "What may still come").
use Rattle.std.specs.Prelude.{◌≡◌, ◌≢◌, ◌⊎◌, ℕ, suc, ◌+◌, ◌*◌, ◌^◌, ◌<◌, ◌≤◌, ◌==◌, if◌then◌else◌, List, [], ◌∷◌}
use Rattle.std.specs.Prelude.{drop, length, min, sum_by, Contains, Option, None, Some}
use Rattle.r4_base.specs.Extents.{pointer_of}
use Rattle.r4_base.specs.Node.{Item, items_of}
use Rattle.r4_base.specs.Tree.{Node, Root, Store}
use Rattle.r4_base.specs.Value.{Value}
use Rattle.r4_reach.specs.r4_cell.Seen.{CellSeen, node_of}
use Rattle.r4_reach.specs.r4_cell.declared.change.Fresh.{Fresh}
use Rattle.r4_reach.specs.r4_patch.Joining.{ids_of}
use Rattle.r4_reach.specs.r4_path.Nodes.{weight}
use Rattle.r4_reach.specs.r4_path.Steps.{Step, news}

-- by its level and its number, how many cells may still come in the place of a cell
abbrev pub Budget : Type 0
Budget = (level id : ℕ) → ℕ

abbrev pub of_target : (ℕ → ℕ) → Option ℕ → ℕ
of_target b None = 0
of_target b (Some i) = b i

-- what may come of the cell that an item points to
abbrev pub of_item : (ℕ → ℕ) → Item → ℕ
of_item b it = if it.plugin == 3 then of_target b (pointer_of it.body) else 0

-- of all cells that the items point to
abbrev pub below : (ℕ → ℕ) → List Item → ℕ
below b items = sum_by (of_item b) items

-- of how many of them something may come
abbrev pub grows : (ℕ → ℕ) → List Item → ℕ
grows b items = sum_by (λ (it : Item). min 1 (of_item b it)) items

-- A node suffices for what comes below it: all pointers have room; or none comes; or each leaf that grows parts the
-- twig once; or, above the twigs, it may be parted once for each 1024 bytes that are too many.
abbrev pub Bears : (under own : ℕ → ℕ) → (level : ℕ) → List Item → (id : ℕ) → Type 0
Bears under own level items id =
    (weight items + 46 * below under items ≤ 4068)
    ⊎ ((below under items ≡ 0)
    ⊎ (((level ≡ 2) × (grows under items ≤ own id))
    ⊎ ((3 ≤ level) × (weight items + 46 * below under items ≤ 4068 + 1024 * own id))))

-- ---- how many cells there may be in the end

-- these, and what may come in the place of each
abbrev pub cells_from : Budget → List CellSeen → ℕ
cells_from b cells = sum_by (λ (c : CellSeen). 1 + b c.level c.id) cells

-- and a new root
abbrev pub most_from : Budget → Root → List CellSeen → ℕ
most_from b r cells = cells_from b cells + min 1 (b r.height r.id)

-- ---- a change

-- the number is one of the fresh ones
abbrev pub IsFresh : Fresh → ℕ → Type 0
IsFresh f i = (f.next ≤ i) × (i < f.end)

-- The numbers are of nodes that have no block yet.
abbrev pub AreUnplaced : Fresh → Type 0
AreUnplaced f = (2 ^ 63 ≤ f.next) × (f.end < 2 ^ 64)

-- nothing more comes in the place of these cells
abbrev pub none_at : List CellSeen → (ℕ → ℕ) → ℕ → ℕ
none_at [] g i = g i
none_at (c ∷ cs) g i = if c.id == i then 0 else none_at cs g i

-- what is left where the new cells of a step stand, and these cells but one
abbrev pub spent_on : (left : ℕ → ℕ) → Step → ℕ
spent_on left s = sum_by (λ (c : CellSeen). left c.id) s.new + length (drop 1 s.new)

-- At a level so much is left where the new cells of a step stand. A leaf is edited once.
pub record IsSpent (f : Fresh) (was left : ℕ → ℕ) (s : Step) : Type 0 where
  pub less : (i : ℕ) → (IsFresh f i → ⊥) → left i ≤ was i
  pub spent : spent_on left s ≤ was s.old.id
  pub small : (i : ℕ) → left i ≤ 87
  pub others : (i : ℕ) → (Contains (ids_of s.new) i → ⊥) → left i ≡ was i
  pub once : s.old.level ≡ 1 → (c : CellSeen) → Contains s.new c → left c.id ≡ 0

-- No item points to a fresh number.
abbrev pub HasNoFresh : Fresh → List Item → Type 0
HasNoFresh f items =
    (it : Item) (i : ℕ) → Contains items it → it.plugin ≡ 3 → pointer_of it.body ≡ Some i
    → IsFresh f i → ⊥

-- from a level on, the new cells of the steps above it suffice for what is left below them, and so does a new root
abbrev pub AllBear : Budget → (l : ℕ) → List Step → (over : Option CellSeen) → Type 0
AllBear b l [] None = Unit {0}
AllBear b l [] (Some c) = Bears (b l) (b (suc l)) (suc l) (items_of c.block) c.id
AllBear b l (u ∷ us) over =
    ((c : CellSeen) → Contains u.new c → Bears (b l) (b (suc l)) (suc l) (items_of c.block) c.id)
    × AllBear b (suc l) us over

-- what the steps above a level make, and what is left there, was in the budget
abbrev pub AreSpent : (b left : Budget) → (l : ℕ) → List Step → Type 0
AreSpent b left l [] = Unit {0}
AreSpent b left l (u ∷ us) =
    (spent_on (left (suc l)) u ≤ b (suc l) u.old.id) × AreSpent b left (suc l) us

-- What is left of a budget after a change that has these steps above a level of which this is left.
pub record Rises (r : Root) (f : Fresh) (b : Budget) (l : ℕ) (left : ℕ → ℕ) (more : List Step)
    (over : Option CellSeen) : Type 0 where
  pub after : Budget
  pub at : after l ≡ left
  pub low : (k : ℕ) → k < l → after k ≡ b k
  pub less : (k i : ℕ) → (IsFresh f i → ⊥) → after k i ≤ b k i
  pub small : (k i : ℕ) → after k i ≤ 87
  pub others : (k i : ℕ) → k ≢ l → (Contains (ids_of (news more over)) i → ⊥) → after k i ≡ b k i
  pub bear : AllBear after l more over
  pub spent : AreSpent b after l more
  pub new_root : (c : CellSeen) → over ≡ Some c
      → (l < c.level) × (c.level ≤ 8) × (after c.level c.id ≡ 0) × (1 ≤ b r.height r.id)

-- The old cell of a step above a level suffices for what comes below it, and points to no fresh number.
pub record IsUp (f : Fresh) (b : Budget) (l : ℕ) (u : Step) : Type 0 where
  pub level : u.old.level ≡ suc l
  pub old : IsFresh f u.old.id → ⊥
  pub clean : HasNoFresh f (items_of u.old.block)
  pub bears : Bears (b l) (b (suc l)) (suc l) (items_of u.old.block) u.old.id

abbrev pub AreUp : Fresh → Budget → (l : ℕ) → List Step → Type 0
AreUp f b l [] = Unit {0}
AreUp f b l (u ∷ us) = IsUp f b l u × AreUp f b (suc l) us

-- Each node suffices for what comes below it, no more than 87 cells may come of one, and the root may be parted only
-- below level 8.
pub record IsBudget (t : Store Value) (r : Root) (b : Budget) : Type 0 where
  pub bears : (i : ℕ) (c : Node Value) (l : ℕ) → t i ≡ Some c → c.level ≡ suc l → 1 ≤ l
      → Bears (b l) (b (suc l)) (suc l) (items_of c.block) i
  pub small : (l i : ℕ) → b l i ≤ 87
  pub root : 1 ≤ b r.height r.id → r.height < 8

-- what stands is cells of bytes
abbrev pub AreSeen : Store Value → Type 0
AreSeen t = (i : ℕ) (c : Node Value) → t i ≡ Some c → (x : CellSeen) × (c ≡ node_of x)
