-- Changes in which several cells of a level, beside each other, give way to others that share out
-- the same range (docs/volume.md, "Edits").
use Rattle.std.specs.Prelude.{◌≡◌, ◌↔◌, ◌⊎◌, ℕ, suc, ◌≤◌, List, [], ◌∷◌, ◌++◌, Contains}
use Rattle.std.specs.Prelude.{Option, None, Some}
use Rattle.r4_base.specs.Key.{least, rank, top}
use Rattle.r4_base.specs.Tree.{IsNode, Name, Root, Span, Store}
use Rattle.r4_base.specs.Value.{Value}
use Rattle.r4_cell.specs.Patch.{HaveNames, Patch, patch_of}
use Rattle.r4_cell.specs.Seen.{CellSeen, node_of}
use Rattle.r4_patch.specs.Joining.{ids_of}
use Rattle.r4_patch.specs.Part.{IsPart}
use Rattle.r4_path.specs.Steps.{AreNaming, AreSpanning, Follow, IsNameOf, name_of, root_pair}
use Rattle.r4_path.specs.Twigs.{IsUnused}

-- One level of a change: the cells that go, and those that come in their place.
pub record Row : Type 0 where
  pub old : List CellSeen
  pub new : List CellSeen

-- the cells stand in the tree
abbrev pub AreThere : Store Value → List CellSeen → Type 0
AreThere t cells = (c : CellSeen) → Contains cells c → t c.id ≡ Some (node_of c)

-- What is named afterwards: what the old cells named, but that the new cells of the row below stand
-- for its old ones.
abbrev pub AreNamedAfter : (below s : Row) → Name → Type 0
AreNamedAfter b s n = (AreNaming s.old n × (IsNameOf b.old n → ⊥)) ⊎ IsNameOf b.new n

-- Cells of a level that stand beside each other, and others that share out the same range. They
-- name what is below.
pub record IsRow (t : Store Value) (level : ℕ) (b s : Row) : Type 0 where
  pub from : ℕ
  pub to : ℕ
  pub were : Follow level from to s.old
  pub are : Follow level from to s.new
  pub there : AreThere t s.old
  pub leads : (c : CellSeen) → Contains b.old c → AreNaming s.old (name_of c)
  pub names : (n : Name) → AreNaming s.new n ↔ AreNamedAfter b s n

-- the new cells have the extents of the old ones
abbrev pub KeepsSpans : Row → Type 0
KeepsSpans s = (x : Span) → AreSpanning s.new x ↔ AreSpanning s.old x

-- Each row over the one before it, the lowest first. (Twigs over a row of leaves keep their
-- extents. Where they do not, the leaves are what goes and comes below the twigs.)
abbrev pub Mounts : Store Value → (level : ℕ) → (below : Row) → List Row → Type 0
Mounts t l b [] = Unit {0}
Mounts t l b (s ∷ rows) = IsRow t l b s × (l ≡ 2 → KeepsSpans s) × Mounts t (suc l) s rows

-- ---- the highest level

-- One cell has one in its place, of its name. (Their range and level are the row's.)
pub record IsKept (s : Row) : Type 0 where
  pub was : CellSeen
  pub is : CellSeen
  pub old : s.old ≡ was ∷ []
  pub new : s.new ≡ is ∷ []
  pub id : is.id ≡ was.id

-- A new root over the new cells in the place of the old root.
pub record IsOver (r : Root) (s : Row) (c : CellSeen) : Type 0 where
  pub was : CellSeen
  pub old : s.old ≡ was ∷ []
  pub id : was.id ≡ r.id
  pub level : c.level ≡ suc was.level
  pub lo : rank c.lo ≡ least
  pub hi : rank c.hi ≡ top
  pub names : (n : Name) → AreNaming (c ∷ []) n ↔ IsNameOf s.new n
  pub spans : (x : Span) → AreSpanning (c ∷ []) x → ⊥

-- the highest row has one cell in the place of its old one, or a new root stands over it
abbrev pub EndsRow : Root → Row → (over : Option CellSeen) → Type 0
EndsRow r s None = IsKept s
EndsRow r s (Some c) = IsOver r s c

-- The highest row has one old cell.
abbrev pub EndsIn : Root → Row → List Row → (over : Option CellSeen) → Type 0
EndsIn r s [] over = EndsRow r s over
EndsIn r s (u ∷ us) over = EndsIn r u us over

-- ---- the whole change

-- the cells of all the rows that go, and those that come
abbrev pub olds_in : List Row → List CellSeen
olds_in [] = []
olds_in (s ∷ rows) = s.old ++ olds_in rows

abbrev pub news_in : List Row → (over : Option CellSeen) → List CellSeen
news_in [] None = []
news_in [] (Some c) = c ∷ []
news_in (s ∷ rows) over = s.new ++ news_in rows over

-- The cells that go, and those that come: what is below the lowest row, and the rows.
abbrev pub all_olds : (b s : Row) → List Row → List CellSeen
all_olds b s more = b.old ++ olds_in (s ∷ more)

abbrev pub all_news : (b s : Row) → List Row → (over : Option CellSeen) → List CellSeen
all_news b s more over = b.new ++ news_in (s ∷ more) over

abbrev pub rows_patch : (b s : Row) → List Row → (over : Option CellSeen) → Patch Value
rows_patch b s more over = patch_of (all_olds b s more) (all_news b s more over) (root_pair over)

-- A change of rows of a part of a tree, and of the leaves and data blocks that go and come below
-- the lowest one, where that is one of twigs. Each number of a new cell is an old cell's, or
-- unused.
pub record IsRowChange (t : Store Value) (r : Root) (level : ℕ) (b s : Row) (more : List Row)
    (over : Option CellSeen) : Type 0 where
  pub part : IsPart t r
  pub branch : 1 ≤ level
  pub gone : AreThere t b.old
  pub low_old : (c : CellSeen) → Contains b.old c → c.level ≤ 1
  pub low_new : (c : CellSeen) → Contains b.new c → c.level ≤ 1
  pub lowest : IsRow t level b s
  pub mounts : Mounts t (suc level) s more
  pub ends : EndsIn r s more over
  pub nodes : (c : CellSeen) → Contains (all_news b s more over) c → IsNode (node_of c)
  pub old_names : HaveNames b.old
  pub new_names : HaveNames (all_news b s more over)
  pub each : (c : CellSeen) → Contains (all_news b s more over) c
      → Contains (ids_of (all_olds b s more)) c.id ⊎ IsUnused t c.id

-- ---- rows alone

-- nothing goes and nothing comes
abbrev pub no_row : Row
no_row = record { old = []; new = [] }

-- The same without anything below the lowest row.
pub record IsPlainRowChange (t : Store Value) (r : Root) (level : ℕ) (s : Row) (more : List Row)
    (over : Option CellSeen) : Type 0 where
  pub part : IsPart t r
  pub branch : 1 ≤ level
  pub lowest : IsRow t level no_row s
  pub mounts : Mounts t (suc level) s more
  pub ends : EndsIn r s more over
  pub nodes : (c : CellSeen) → Contains (news_in (s ∷ more) over) c → IsNode (node_of c)
  pub new_names : HaveNames (news_in (s ∷ more) over)
  pub each : (c : CellSeen) → Contains (news_in (s ∷ more) over) c
      → Contains (ids_of (olds_in (s ∷ more))) c.id ⊎ IsUnused t c.id
