-- Changes along a path of a tree, level by level (docs/volume.md, "Edits").
use Rattle.std.specs.Prelude.{◌≡◌, ◌≢◌, ◌↔◌, ◌⊎◌, ℕ, suc, ◌+◌, ◌<◌, ◌≤◌, List, [], ◌∷◌, ◌++◌, map, drop, length, Contains}
use Rattle.std.specs.Prelude.{Option, None, Some}
use Rattle.std.specs.Option.{option_map}
use Rattle.r4_base.specs.Key.{least, rank, top}
use Rattle.r4_base.specs.Tree.{IsNode, Name, Root, Span, Store}
use Rattle.r4_base.specs.Value.{Value}
use Rattle.r4_patch.specs.r4_cell.Patch.{NamesId}
use Rattle.r4_patch.specs.r4_cell.Seen.{CellSeen, node_of}
use Rattle.r4_patch.specs.r4_cell.declared.change.Fresh.{Fresh}
use Rattle.r4_patch.specs.r4_cell.declared.change.Root.{Root as RootPair}
use Rattle.r4_patch.specs.Joining.{ids_of}
use Rattle.r4_patch.specs.Part.{IsPart}

-- One level of a change: an old cell of the path, and the new cells that take its place.
pub record Step : Type 0 where
  pub old : CellSeen
  pub new : List CellSeen

-- ---- the cells of a path

-- the name by which a cell is named
abbrev pub name_of : CellSeen → Name
name_of c = record { id = c.id; level = c.level; lo = rank c.lo; hi = rank c.hi }

abbrev pub IsNamedBy : (below : Option CellSeen) → CellSeen → Type 0
IsNamedBy None c = Unit {0}
IsNamedBy (Some b) c = Contains (node_of c).names (name_of b)

-- The cells stand in the tree one above the other, the lowest first: each names the one before it.
abbrev pub Ascends : Store Value → (below : Option CellSeen) → List CellSeen → Type 0
Ascends t below [] = Unit {0}
Ascends t below (c ∷ cells) = (t c.id ≡ Some (node_of c)) × (1 ≤ c.level) × IsNamedBy below c × Ascends t (Some c) cells

-- ---- one level

-- The cells have this level, and their ranges follow each other from one key to another.
abbrev pub Follow : (level lo hi : ℕ) → List CellSeen → Type 0
Follow level lo hi [] = lo ≡ hi
Follow level lo hi (c ∷ cells) = (c.level ≡ level) × (rank c.lo ≡ lo) × (lo < rank c.hi) × Follow level (rank c.hi) hi cells

-- one of the cells names it
abbrev pub AreNaming : List CellSeen → Name → Type 0
AreNaming cells n = (c : CellSeen) × Contains cells c × Contains (node_of c).names n

-- one of the cells has this extent
abbrev pub AreSpanning : List CellSeen → Span → Type 0
AreSpanning cells s = (c : CellSeen) × Contains cells c × Contains (node_of c).spans s

-- it is the name of one of the cells
abbrev pub IsNameOf : List CellSeen → Name → Type 0
IsNameOf cells n = (c : CellSeen) × Contains cells c × (n ≡ name_of c)

-- What is named afterwards: what the old cell named, but that the new cells of the level below stand for the old one there.
abbrev pub IsNamedAfter : (below : Option Step) → (old : CellSeen) → Name → Type 0
IsNamedAfter None old n = Contains (node_of old).names n
IsNamedAfter (Some b) old n = (Contains (node_of old).names n × (n ≢ name_of b.old)) ⊎ IsNameOf b.new n

-- The new cells share out the old one's range, what it named and its extents; the first of them has its name.
pub record IsStep (below : Option Step) (s : Step) : Type 0 where
  pub first : ids_of s.new ≡ s.old.id ∷ ids_of (drop 1 s.new)
  pub ranges : Follow s.old.level (rank s.old.lo) (rank s.old.hi) s.new
  pub names : (n : Name) → AreNaming s.new n ↔ IsNamedAfter below s.old n
  pub spans : (x : Span) → AreSpanning s.new x ↔ Contains (node_of s.old).spans x

-- each step over the one before it, the lowest first
abbrev pub Climbs : (below : Option Step) → List Step → Type 0
Climbs below [] = Unit {0}
Climbs below (s ∷ steps) = IsStep below s × Climbs (Some s) steps

-- ---- the highest level

-- A new root over the new cells in the place of the old root.
pub record IsRootOver (r : Root) (s : Step) (c : CellSeen) : Type 0 where
  pub was : s.old.id ≡ r.id
  pub level : c.level ≡ suc s.old.level
  pub lo : rank c.lo ≡ least
  pub hi : rank c.hi ≡ top
  pub names : (n : Name) → Contains (node_of c).names n ↔ IsNameOf s.new n
  pub spans : (x : Span) → Contains (node_of c).spans x → ⊥

-- The highest old cell has one new cell in its place, or it was the root, and there is a new root.
abbrev pub Ends : Root → List Step → (over : Option CellSeen) → Type 0
Ends r [] over = ⊥
Ends r (s ∷ []) None = (c : CellSeen) × (s.new ≡ c ∷ [])
Ends r (s ∷ []) (Some c) = IsRootOver r s c
Ends r (s ∷ (u ∷ us)) over = Ends r (u ∷ us) over

-- ---- the whole change

abbrev pub olds : List Step → List CellSeen
olds steps = map (λ s. s.old) steps

abbrev pub news : List Step → (over : Option CellSeen) → List CellSeen
news [] None = []
news [] (Some c) = c ∷ []
news (s ∷ steps) over = s.new ++ news steps over

abbrev pub root_pair : (over : Option CellSeen) → Option RootPair
root_pair over = option_map (λ c. record { id = record { 0 = c.id }; height = c.level }) over

-- the names that no old cell had: all but each first one's
abbrev pub fresh_ids : List Step → (over : Option CellSeen) → List ℕ
fresh_ids [] None = []
fresh_ids [] (Some c) = c.id ∷ []
fresh_ids (s ∷ steps) over = ids_of (drop 1 s.new) ++ fresh_ids steps over

-- the numbers are n, n + 1 and so on
abbrev pub CountUp : (n : ℕ) → List ℕ → Type 0
CountUp n [] = Unit {0}
CountUp n (i ∷ ids) = (i ≡ n) × CountUp (n + 1) ids

-- Numbers were taken, or none; there are no others than before.
abbrev pub OnlyTakes : (before after : Fresh) → Type 0
OnlyTakes before after = (before.next ≤ after.next) × (after.next ≤ after.end) × (after.end ≡ before.end)

-- No cell has a number from one up to another, and none names one.
pub record IsFree {V : Type 0} (from to : ℕ) (t : Store V) : Type 0 where
  pub cells : (i : ℕ) → from ≤ i → i < to → t i ≡ None
  pub names : (i : ℕ) → from ≤ i → i < to → NamesId t i → ⊥

-- A change along a path of a part of a tree, with new numbers from a free one on.
pub record IsPathChange (t : Store Value) (r : Root) (from : ℕ) (steps : List Step) (over : Option CellSeen) : Type 0 where
  pub part : IsPart t r
  pub path : Ascends t None (olds steps)
  pub climbs : Climbs None steps
  pub ends : Ends r steps over
  pub nodes : (c : CellSeen) → Contains (news steps over) c → IsNode (node_of c)
  pub counts : CountUp from (fresh_ids steps over)
  pub free : IsFree from (from + length (fresh_ids steps over)) t
