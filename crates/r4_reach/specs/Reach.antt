-- Which cells of a tree a command reads and writes (docs/volume.md, "Reach"). A key is its rank.
use Rattle.std.specs.Prelude.{◌≡◌, ◌≢◌, ◌⊎◌, ℕ, ◌-◌, ◌<◌, ◌≤◌, ◌==◌, [], Bool, true, false, Contains, Some}
use Rattle.r4_base.specs.Key.{key_of_rank, least, minor_of, top}
use Rattle.r4_base.specs.Tree.{InName, InNode, IsData, Name, Node, Root, Store}
use Rattle.r4_base.specs.Value.{Value}
use Rattle.r4_reach.specs.Demand.{Covers, Demand, Spans, ask, heard}

abbrev pub is_body : (key : ℕ) → Bool
is_body k = minor_of (key_of_rank k) == 4

abbrev pub Touches : {A : Type 0} → Demand A → (key : ℕ) → Type 0
Touches d k = (d.reads k ≡ true) ⊎ (d.changes k ≡ true)

-- the key lies in the leaf or the data block, or in an extent of the twig
abbrev pub IsAt : Node Value → (key : ℕ) → Type 0
IsAt c k = ((c.level < 2) × InNode c k) ⊎ Spans c k

-- ---- by their keys

-- A changed key lies in the leaf or the data block; or in an extent of the twig, and is no body's.
abbrev pub IsWrittenAt : {A : Type 0} → Demand A → Node Value → Type 0
IsWrittenAt d c = (k : ℕ) × (d.changes k ≡ true) × (((c.level < 2) × InNode c k) ⊎ (Spans c k × (is_body k ≡ false)))

-- A key that is read lies there, or a body's key that is changed in an extent of the twig.
abbrev pub IsReadAt : {A : Type 0} → Demand A → Node Value → Type 0
IsReadAt d c = (k : ℕ) × (((d.reads k ≡ true) × IsAt c k) ⊎ ((d.changes k ≡ true) × (is_body k ≡ true) × Spans c k))

-- ---- all of them

-- a twig that turns has it beside
abbrev pub IsBeside : {A : Type 0} → Demand A → Store Value → ℕ → Type 0
IsBeside d t i = (j : ℕ) × (c : Node Value) × (n : Name) × (t j ≡ Some c) × (d.turns c ≡ true)
    × Contains (d.beside c) n × (n.id ≡ i)

-- a cell that it names asks it for something
abbrev pub IsAsked : {A : Type 0} → Demand A → Store Value → Node Value → Type 0
IsAsked d t c = heard (ask d t (c.level - 1)) t c.names ≢ []

abbrev pub IsWritten : {A : Type 0} → Demand A → Store Value → ℕ → Type 0
IsWritten d t i = (c : Node Value) × (t i ≡ Some c)
    × (IsWrittenAt d c ⊎ ((d.turns c ≡ true) ⊎ (IsBeside d t i ⊎ IsAsked d t c)))

-- the cell is read or written
abbrev pub IsReached : {A : Type 0} → Demand A → Store Value → ℕ → Type 0
IsReached d t i = IsWritten d t i ⊎ ((c : Node Value) × (t i ≡ Some c) × IsReadAt d c)

-- what is written is not also read
abbrev pub IsRead : {A : Type 0} → Demand A → Store Value → ℕ → Type 0
IsRead d t i = IsReached d t i × (¬ (IsWritten d t i))

-- the root asks for something: the root pair changes
abbrev pub IsRootAsking : {A : Type 0} → Demand A → Store Value → Root → A → Type 0
IsRootAsking d t r a = (c : Node Value) × (t r.id ≡ Some c) × (ask d t r.height c ≡ Some a)

-- ---- a part of a tree that has what is reached

-- For each key that is touched it has the leaf, or the twig with the extent, and there the block; and for each twig
-- that turns, what
-- stands beside.
pub record HasTouched {A : Type 0} (d : Demand A) (t : Store Value) : Type 0 where
  pub piece : (k : ℕ) → Touches d k → least ≤ k → k < top → (i : ℕ) × (c : Node Value) × (t i ≡ Some c) × Covers c k
  pub block : (i : ℕ) (c : Node Value) (n : Name) (k : ℕ) → t i ≡ Some c → Contains c.names n → IsData n → InName n k
      → Touches d k → (b : Node Value) × (t n.id ≡ Some b)
  pub beside : (i : ℕ) (c : Node Value) (n : Name) → t i ≡ Some c → d.turns c ≡ true → Contains (d.beside c) n
      → (b : Node Value) × (t n.id ≡ Some b)

-- the second has each cell that is reached in the first
abbrev pub HasReached : {A : Type 0} → Demand A → (t u : Store Value) → Type 0
HasReached d t u = (i : ℕ) (c : Node Value) → IsReached d t i → t i ≡ Some c → u i ≡ Some c

-- where the first one's root asks for something, it is the second one's
abbrev pub HasRoot : {A : Type 0} → Demand A → (t : Store Value) → (root other : Root) → Type 0
HasRoot {A} d t root other = (a : A) → IsRootAsking d t root a → other ≡ root
