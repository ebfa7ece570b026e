-- Changes of a twig, and of the leaves and data blocks below it (docs/volume.md, "Edits").
use Rattle.std.specs.Prelude.{◌≡◌, ◌≢◌, ◌↔◌, ◌⊎◌, ℕ, ◌+◌, ◌≤◌, List, ◌∷◌, ◌++◌, drop, length, AllPairs, Contains, Option, None}
use Rattle.std.specs.Prelude.{Some}
use Rattle.r4_base.specs.Key.{rank}
use Rattle.r4_base.specs.Tree.{InNode, InSpan, IsNode, Name, Root, Span, Store}
use Rattle.r4_base.specs.Value.{Value}
use Rattle.r4_patch.specs.r4_cell.Patch.{HaveNames, NamesId}
use Rattle.r4_patch.specs.r4_cell.Seen.{CellSeen, node_of}
use Rattle.r4_patch.specs.Joining.{ids_of}
use Rattle.r4_patch.specs.Part.{IsPart}
use Rattle.r4_path.specs.Steps.{AreNaming, AreSpanning, Ascends, Climbs, CountUp, Ends, Follow, IsFree, IsNameOf, Step}
use Rattle.r4_path.specs.Steps.{fresh_ids, name_of, news, olds}

-- What goes and what comes below a twig: leaves and data blocks.
pub record Below : Type 0 where
  pub old : List CellSeen
  pub new : List CellSeen

-- the key lies in one of these leaves or in an extent of these twigs
abbrev pub CoversBelow : (twigs below : List CellSeen) → ℕ → Type 0
CoversBelow twigs below k = ((c : CellSeen) × Contains below c × (c.level ≡ 1) × InNode (node_of c) k) ⊎
    ((x : Span) × AreSpanning twigs x × InSpan x k)

-- The new twigs share out the old one's range, and the first has its name. They name what it named, but for what goes, and
-- what comes.
pub record IsTwigStep (b : Below) (s : Step) : Type 0 where
  pub level : s.old.level ≡ 2
  pub first : ids_of s.new ≡ s.old.id ∷ ids_of (drop 1 s.new)
  pub ranges : Follow s.old.level (rank s.old.lo) (rank s.old.hi) s.new
  pub goes : (c : CellSeen) → Contains b.old c → Contains (node_of s.old).names (name_of c)
  pub names : (n : Name) → AreNaming s.new n ↔ ((Contains (node_of s.old).names n × (IsNameOf b.old n → ⊥)) ⊎ IsNameOf b.new n)

-- no cell has the number, and none names one
abbrev pub IsUnused : Store Value → ℕ → Type 0
IsUnused t i = (t i ≡ None) × (NamesId t i → ⊥)

-- What comes below has the number of a cell that goes, or one that is unused and is not among the others that are taken,
-- which are unused too. No number is taken twice.
pub record HaveNumbers (t : Store Value) (b : Below) (taken : List ℕ) : Type 0 where
  pub old : HaveNames b.old
  pub new : HaveNames b.new
  pub each : (c : CellSeen) → Contains b.new c → Contains (ids_of b.old) c.id ⊎ (IsUnused t c.id × (Contains taken c.id → ⊥))
  pub once : AllPairs (λ (i j : ℕ). i ≢ j) taken
  pub unused : (i : ℕ) → Contains taken i → IsUnused t i

-- The numbers of what comes below, but for those of cells that go, count up, and so do the others that are taken. They lie
-- between numbers that are free, these before those or behind them.
pub record AreCounted (t : Store Value) (b : Below) (from to : ℕ) (mine taken : List ℕ) : Type 0 where
  pub free : IsFree from to t
  pub each : (c : CellSeen) → Contains b.new c → Contains (ids_of b.old) c.id ⊎ Contains mine c.id
  pub first : ℕ
  pub next : ℕ
  pub counts_mine : CountUp first mine
  pub counts_taken : CountUp next taken
  pub from_mine : from ≤ first
  pub to_mine : first + length mine ≤ to
  pub from_taken : from ≤ next
  pub to_taken : next + length taken ≤ to
  pub apart : (first + length mine ≤ next) ⊎ (next + length taken ≤ first)

-- A change of a twig of a part of a tree, of what goes and comes below it, and of the nodes above it along a path.
pub record IsTwigChange (t : Store Value) (r : Root) (b : Below) (s : Step) (more : List Step)
    (over : Option CellSeen) : Type 0 where
  pub part : IsPart t r
  pub path : Ascends t None (olds (s ∷ more))
  pub gone : (c : CellSeen) → Contains b.old c → t c.id ≡ Some (node_of c)
  pub step : IsTwigStep b s
  pub climbs : Climbs (Some s) more
  pub ends : Ends r (s ∷ more) over
  pub nodes : (c : CellSeen) → Contains (b.new ++ news (s ∷ more) over) c → IsNode (node_of c)
  pub numbers : HaveNumbers t b (fresh_ids (s ∷ more) over)

-- The same cells, in another order; no two have one name.
pub record IsReordered (cells others : List CellSeen) : Type 0 where
  pub same : (c : CellSeen) → Contains cells c ↔ Contains others c
  pub names : HaveNames others
