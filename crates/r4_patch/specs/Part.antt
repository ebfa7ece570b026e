-- Parts of a tree: what has been read of one, also where the rest of it is no tree (docs/volume.md, "Changes").
use Rattle.std.specs.Prelude.{◌≡◌, ℕ, ◌≤◌, ◌⊎◌, if◌then◌else◌, Bool, IsTrue, Contains, None, Some}
use Rattle.r4_base.specs.Key.{least, top}
use Rattle.r4_base.specs.Tree.{Name, Node, Store, Root, Fits, IsNode}
use Rattle.r4_base.specs.Value.{Value}
use Rattle.r4_cell.specs.Patch.{Patch, NamesId, IsChange, Meets}
use Rattle.r4_cell.specs.declared.change.Change.{Change}
use Rattle.r4_patch.specs.Joining.{AreApart, patch_of_change}

-- Cells that hang together as in a tree: what a cell names fits where it is there, and each cell but the root is named by one that is there.
pub record IsPart {V : Type 0} (t : Store V) (root : Root) : Type 0 where
  pub nodes : (i : ℕ) (c : Node V) → t i ≡ Some c → IsNode c
  pub root_node : Node V
  pub root_is : t root.id ≡ Some root_node
  pub root_level : root_node.level ≡ root.height
  pub root_lo : root_node.lo ≡ least
  pub root_hi : root_node.hi ≡ top
  pub height : 2 ≤ root.height
  pub none_above : (i : ℕ) (c : Node V) → t i ≡ Some c → c.level ≤ root.height
  pub named : (i : ℕ) (c d : Node V) (n : Name) → t i ≡ Some c → Contains c.names n → t n.id ≡ Some d → Fits n d
  pub reached : (i : ℕ) (c : Node V) → t i ≡ Some c → (i ≡ root.id) ⊎ NamesId t i

-- what a cell names is there
abbrev pub IsWhole : {V : Type 0} → Store V → Type 0
IsWhole {V} t = (i : ℕ) (c : Node V) (n : Name) → t i ≡ Some c → Contains c.names n → (d : Node V) × (t n.id ≡ Some d)

-- the cells of a set
abbrev pub cut : {V : Type 0} → (ℕ → Bool) → Store V → Store V
cut keep t i = if keep i then t i else None

-- with a cell the set has those that name it
abbrev pub IsClosed : {V : Type 0} → (ℕ → Bool) → Store V → Type 0
IsClosed {V} keep t = (i : ℕ) (c d : Node V) (n : Name) → t i ≡ Some c → Contains c.names n → t n.id ≡ Some d → IsTrue (keep n.id) → IsTrue (keep i)

-- no cell that is there names a new cell that is no old one
abbrev pub IsUnnamed : {V : Type 0} → Patch V → Store V → Type 0
IsUnnamed {V} p t = (i : ℕ) (c : Node V) → p.new i ≡ Some c → p.old i ≡ None → NamesId t i → ⊥

-- The part meets the patch, and the names of its new cells are free among the names too: else a cell may name a new one that does not fit.
-- In a tree they are, since what is named is there.
pub record MeetsPart {V : Type 0} (p : Patch V) (t : Store V) (root : Root) : Type 0 where
  pub meets : Meets p t root
  pub unnamed : IsUnnamed p t

-- both are changes of this part, and no new cell of one has the name of a new cell of the other
pub record AreOfOnePart (one two : Change) (t : Store Value) (root : Root) : Type 0 where
  pub part : IsPart t root
  pub one_is : IsChange one.old one.new one.root
  pub two_is : IsChange two.old two.new two.root
  pub one_meets : Meets (patch_of_change one) t root
  pub two_meets : Meets (patch_of_change two) t root
  pub new_apart : AreApart one.new two.new
