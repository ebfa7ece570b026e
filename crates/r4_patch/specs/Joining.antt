-- Two changes as one.
use Rattle.std.specs.Prelude.{◌≡◌, ℕ, ◌≤◌, ◌++◌, List, map, Contains}
use Rattle.std.specs.Option.{option_or}
use Rattle.r4_base.specs.Tree.{Store, Root, IsTree}
use Rattle.r4_base.specs.Value.{Value}
use Rattle.r4_cell.specs.Seen.{CellSeen}
use Rattle.r4_cell.specs.Patch.{Patch, patch_of, IsChange, Meets}
use Rattle.r4_cell.specs.declared.change.Change.{Change}
use Rattle.r4_patch.specs.declared.joining.JoinFault.{JoinFault}
use Rattle.r4_patch.specs.declared.joining.JoinFault.TheVariants.{Meet, Memory as NoMemory}

abbrev pub ids_of : List CellSeen → List ℕ
ids_of cells = map (λ c. c.id) cells

-- no two cells of the two lists have one name
abbrev pub AreApart : List CellSeen → List CellSeen → Type 0
AreApart some others = (i : ℕ) → Contains (ids_of some) i → Contains (ids_of others) i → ⊥

-- it is in both, and no smaller number is
pub record IsFirstShared (ids others : List ℕ) (i : ℕ) : Type 0 where
  pub one : Contains ids i
  pub other : Contains others i
  pub least : (j : ℕ) → Contains ids j → Contains others j → i ≤ j

-- The old cells are one's and then two's, and the new cells two's and then one's. The root is two's, or else one's.
pub record IsJoined (one two c : Change) : Type 0 where
  pub old : c.old ≡ one.old ++ two.old
  pub new : c.new ≡ two.new ++ one.new
  pub root : c.root ≡ option_or two.root one.root

-- the node of the smallest number of which both have an old cell
abbrev pub IsJoinFault : Change → Change → JoinFault → Type 0
IsJoinFault one two (Meet node) = IsFirstShared (ids_of one.old) (ids_of two.old) node.0
IsJoinFault one two NoMemory = Unit

abbrev pub patch_of_change : Change → Patch Value
patch_of_change c = patch_of c.old c.new c.root

-- both are changes of this tree, and no new cell of one has the name of a new cell of the other
pub record AreOfOneTree (one two : Change) (t : Store Value) (root : Root) : Type 0 where
  pub tree : IsTree t root
  pub one_is : IsChange one.old one.new one.root
  pub two_is : IsChange two.old two.new two.root
  pub one_meets : Meets (patch_of_change one) t root
  pub two_meets : Meets (patch_of_change two) t root
  pub new_apart : AreApart one.new two.new
