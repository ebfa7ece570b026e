-- Which of the cells that were met are read and written (docs/volume.md, "Reach"). A key is its rank.
use Rattle.std.specs.Prelude.{◌≡◌, ◌≢◌, ◌⊎◌, ◌↔◌, ℕ, ◌+◌, ◌*◌, ◌^◌, ◌<◌, ◌≤◌, ◌==◌, if◌then◌else◌, Bool, true}
use Rattle.std.specs.Prelude.{List, [], ◌∷◌, ◌++◌, All, AllPairs, Contains, drop, map, nat_eq, slice_get}
use Rattle.std.specs.Prelude.{Option, Some, None}
use Rattle.std.specs.Arc.{arc_value}
use Rattle.std.specs.Map.{lookup}
use Rattle.std.specs.Option.{option_map}
use Rattle.r4_base.specs.Cell.{item_names, next_key}
use Rattle.r4_base.specs.Key.{rank}
use Rattle.r4_base.specs.Node.{Item, items_of}
use Rattle.r4_base.specs.Tree.{Name, Node, Root, Store}
use Rattle.r4_base.specs.Value.{Value}
use Rattle.r4_search.specs.r4_cell.Patch.{HaveNames, by_name}
use Rattle.r4_search.specs.r4_cell.Seen.{CellSeen, node_of}
use Rattle.r4_reach.specs.r4_patch.Part.{IsPart}
use Rattle.r4_reach.specs.Demand.{Demand, ask, heard_one}
use Rattle.r4_reach.specs.Needs.{Ask}
use Rattle.r4_reach.specs.Reach.{IsRead, IsReadAt, IsRootAsking, IsWritten, IsWrittenAt}
use Rattle.r4_search.specs.Place.{child_name}
use Rattle.r4_search.specs.declared.inside.Child.{Child}
use Rattle.r4_marking.specs.declared.demands.Asking.{Asking}
use Rattle.r4_marking.specs.declared.demands.Heard.{Heard}
use Rattle.r4_marking.specs.declared.marking.Marks.{Marks}

-- ---- what cells ask for, as code holds it

abbrev pub ask_seen : Asking → Ask
ask_seen a = record { more = a.more; gone = a.gone }

abbrev pub heard_seen : Heard → Name × Ask
heard_seen h = (child_name h.child, ask_seen h.ask)

-- what is held for each number
abbrev pub asks_seen : List (ℕ × Asking) → ℕ → Option Ask
asks_seen entries i = option_map ask_seen (lookup (nat_eq i) entries)

-- So many pointers at most are asked for by what stands below a level: a node has 88 pointers, each of 46 bytes.
abbrev pub most_for : (level : ℕ) → ℕ
most_for level = 64 * 8 ^ level

abbrev pub AreSmall : (most : ℕ) → List Heard → Type 0
AreSmall most heard = All (λ (h : Heard). h.ask.more ≤ most) heard

-- what is held for the nodes of these names, in their order
abbrev pub heard_by_id : (ℕ → Option Ask) → List Name → List (Name × Ask)
heard_by_id f [] = []
heard_by_id f (n ∷ ns) =
    if n.level == 0 then heard_by_id f ns else heard_one n (f n.id) (heard_by_id f ns)

-- what is held for them is little
abbrev pub HearsLittle : (ℕ → Option Ask) → (most : ℕ) → List Name → Type 0
HearsLittle f most ns =
    (n : Name) (a : Ask) → Contains ns n → 1 ≤ n.level → f n.id ≡ Some a → a.more ≤ most

-- ---- a node's pointers

-- what this item names at a place of the cell
abbrev pub names_at : CellSeen → (place : ℕ) → Item → List Name
names_at c place item =
    item_names c.level (next_key (rank c.hi) (drop (place + 1) (items_of c.block))) item

-- what the item at a place of the cell names
abbrev pub NamesAt : CellSeen → (place : ℕ) → List Name → Type 0
NamesAt c place names = (item : Item) → slice_get (items_of c.block) place ≡ Some item
    → names_at c place item ≡ names

-- It names this node.
pub record IsChildAt (c : CellSeen) (place : ℕ) (child : Child) : Type 0 where
  pub names : NamesAt c place (child_name child ∷ [])
  pub node : 1 ≤ (child_name child).level

-- It names data blocks, or nothing.
abbrev pub NoChildAt : CellSeen → (place : ℕ) → Type 0
NoChildAt c place = (item : Item) → slice_get (items_of c.block) place ≡ Some item → (n : Name)
    → Contains (names_at c place item) n
    → n.level ≡ 0

-- What is held for the names at the place comes behind the others.
abbrev pub HearsAt :
    CellSeen → (place : ℕ) → (ℕ → Option Ask) → (old new : List (Name × Ask)) → Type 0
HearsAt c place f old new = (item : Item) → slice_get (items_of c.block) place ≡ Some item → new
    ≡ old ++ heard_by_id f (names_at c place item)

-- ---- the cells that were met

-- They stand by level, the lowest first.
abbrev pub AreLevels : List CellSeen → Type 0
AreLevels met = (i j : ℕ) (c d : CellSeen) → slice_get met i ≡ Some c → slice_get met j ≡ Some d
    → i < j → c.level ≤ d.level

-- They have different names, are a part of a tree and stand by level.
pub record AreMet (met : List CellSeen) (root : Root) : Type 0 where
  pub names : HaveNames met
  pub part : IsPart (by_name met) root
  pub levels : AreLevels met

-- What is held is what each of these cells asks for, and nothing else is held.
pub record AreAsks (d : Demand Ask) (t : Store Value) (cells : List CellSeen) (f : ℕ → Option Ask)
    : Type 0 where
  pub asks : (c : CellSeen) → Contains cells c → f c.id ≡ ask d t c.level (node_of c)
  pub none : (i : ℕ) → ((c : CellSeen) → Contains cells c → c.id ≢ i) → f i ≡ None
  pub small : (c : CellSeen) (a : Ask) → Contains cells c → f c.id ≡ Some a
      → a.more ≤ most_for (c.level + 1)

-- What a cell asks for is held under its number, where nothing was held, and all else is as before.
pub record IsNoted (d : Demand Ask) (c : CellSeen) (old new : ℕ → Option Ask) : Type 0 where
  pub node : old c.id ≡ None → 1 ≤ c.level
      → new c.id ≡ d.asks (node_of c) (heard_by_id old (node_of c).names)
  pub data_block : c.level ≡ 0 → new c.id ≡ old c.id
  pub others : (i : ℕ) → i ≢ c.id → new i ≡ old i
  pub small : (a : Ask) → old c.id ≡ None → new c.id ≡ Some a → a.more ≤ most_for (c.level + 1)

-- ---- what is read and written

-- one of the cells turns, and has the leaf of this number beside
abbrev pub StandsBeside : Demand Ask → List CellSeen → ℕ → Type 0
StandsBeside d cells i = (c : CellSeen) × Contains cells c × (d.turns (node_of c) ≡ true)
    × ((n : Name) × Contains (d.beside (node_of c)) n × (n.id ≡ i))

-- The numbers are those of the leaves beside these cells.
abbrev pub AreBeside : Demand Ask → List CellSeen → List ℕ → Type 0
AreBeside d cells ids = (i : ℕ) → Contains ids i ↔ StandsBeside d cells i

-- The numbers of the leaves beside a cell that turns come behind the others.
abbrev pub AddsBeside : Demand Ask → CellSeen → (old new : List ℕ) → Type 0
AddsBeside d c old new = new
    ≡ old ++ (if d.turns (node_of c) then map (λ (n : Name). n.id) (d.beside (node_of c)) else [])

-- A changed key lies there, or the twig turns, or it stands beside one that does, or is asked for something.
abbrev pub IsWrittenBy : Demand Ask → CellSeen → (ℕ → Option Ask) → List ℕ → Type 0
IsWrittenBy d c f beside = IsWrittenAt d (node_of c) ⊎ ((d.turns (node_of c) ≡ true)
    ⊎ (Contains beside c.id ⊎ (heard_by_id f (node_of c).names ≢ [])))

-- Of cells that are read and those that are written: the cell comes behind the latter, or the former, or neither.
abbrev pub AddsMark : Demand Ask → (ℕ → Option Ask) → List ℕ → CellSeen
    → (reads writes more_reads more_writes : List CellSeen) → Type 0
AddsMark d f beside c reads writes more_reads more_writes =
    (IsWrittenBy d c f beside × (more_writes ≡ writes ++ c ∷ []) × (more_reads ≡ reads))
    ⊎ ((¬ (IsWrittenBy d c f beside)) × (more_writes ≡ writes)
    × ((IsReadAt d (node_of c) × (more_reads ≡ reads ++ c ∷ []))
    ⊎ ((¬ (IsReadAt d (node_of c))) × (more_reads ≡ reads))))

-- The cell comes behind those that are written or read, if it is.
abbrev pub MarksOne : Demand Ask → (ℕ → Option Ask) → List ℕ → CellSeen → (old new : Marks) → Type 0
MarksOne d f beside c old new =
    (new.rises ≡ old.rises)
    × (AddsMark d f beside c (map arc_value old.reads.items) (map arc_value old.writes.items)
    (map arc_value new.reads.items) (map arc_value new.writes.items))

-- What holds of each two of the cells, in their order, holds of these too.
abbrev pub KeepsOrder : (cells chosen : List CellSeen) → Type 0
KeepsOrder cells chosen =
    (r : CellSeen → CellSeen → Bool) → AllPairs (λ (c e : CellSeen). r c e ≡ true) cells
    → AllPairs (λ (c e : CellSeen). r c e ≡ true) chosen

-- These of the cells are of the kind, in the order of the cells.
pub record AreChosen (kind : ℕ → Type 0) (cells chosen : List CellSeen) : Type 0 where
  pub are : (c : CellSeen) → Contains chosen c ↔ (Contains cells c × kind c.id)
  pub order : KeepsOrder cells chosen

-- The cells that are read and those that are written, and what the root asks for.
pub record AreMarks (d : Demand Ask) (met : List CellSeen) (root : Root)
    (reads writes : List CellSeen) (rises : Option Ask) : Type 0 where
  pub read : AreChosen (IsRead d (by_name met)) met reads
  pub written : AreChosen (IsWritten d (by_name met)) met writes
  pub rising : (a : Ask) → (rises ≡ Some a) ↔ IsRootAsking d (by_name met) root a

abbrev pub AreMarksOf : Demand Ask → List CellSeen → Root → Marks → Type 0
AreMarksOf d met root m =
    AreMarks d met root (map arc_value m.reads.items) (map arc_value m.writes.items)
    (option_map ask_seen m.rises)
