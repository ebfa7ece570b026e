-- Which cells that were met hold the keys that a command changes (docs/volume.md, "Reach"). A key is its rank.
use Rattle.std.specs.Prelude.{◌≡◌, ℕ, ◌<◌, ◌≤◌, Bool, true, false, Contains, Option, None, Some}
use Rattle.r4_base.specs.Key.{least, rank, top}
use Rattle.r4_base.specs.Tree.{InSpan, Span}
use Rattle.r4_cell.specs.Seen.{CellSeen, node_of}
use Rattle.r4_cell.specs.declared.change.Root.{Root}
use Rattle.r4_seeing.specs.r4_search.Pool.{Goes, PoolState}
use Rattle.r4_seeing.specs.r4_search.declared.pool.FetchFault.{FetchFault}
use Rattle.r4_seeing.specs.Looking.{AreHung}
use Rattle.r4_seeing.specs.r4_sight.Stretches.{StopsAt}

-- ---- one key

-- A leaf that was met has the key.
pub record IsInLeaf (p : PoolState) (key : ℕ) : Type 0 where
  pub leaf : CellSeen
  pub met : p.met leaf.id ≡ Some leaf
  pub level : leaf.level ≡ 1
  pub from : rank leaf.lo ≤ key
  pub below : key < rank leaf.hi

-- The key lies in the range of an extent of a twig that was met.
pub record IsInExtent (p : PoolState) (key : ℕ) : Type 0 where
  pub twig : CellSeen
  pub met : p.met twig.id ≡ Some twig
  pub span : Span
  pub among : Contains (node_of twig).spans span
  pub within : InSpan span key

-- The leaf with a key has keys up to this end; or it is in an extent.
abbrev pub EndsLeaf : PoolState → (key : ℕ) → Option ℕ → Type 0
EndsLeaf p key None = IsInExtent p key
EndsLeaf p key (Some end) = (key < end) × ((k : ℕ) → key ≤ k → k < end → IsInLeaf p k)

-- ---- keys

-- Each key of a tree that is one of these is in a leaf.
abbrev pub AreInLeaves : PoolState → (keys : ℕ → Bool) → Type 0
AreInLeaves p keys = (k : ℕ) → keys k ≡ true → least ≤ k → k < top → IsInLeaf p k

-- A key of a tree that is one of them is in an extent.
abbrev pub IsOneInExtent : PoolState → (keys : ℕ → Bool) → Type 0
IsOneInExtent p keys = (k : ℕ) × (least ≤ k) × (k < top) × (keys k ≡ true) × IsInExtent p k

-- All of them are in leaves, or one is in an extent.
abbrev pub AreHeld : PoolState → (keys : ℕ → Bool) → (in_leaves : Bool) → Type 0
AreHeld p keys true = AreInLeaves p keys
AreHeld p keys false = IsOneInExtent p keys

-- Each cell that was met from then on has one of the keys.
abbrev pub MeetsFor : (keys : ℕ → Bool) → (old new : PoolState) → Type 0
MeetsFor keys old new = (i : ℕ) (c : CellSeen) → new.met i ≡ Some c → old.met i ≡ None
    → (key : ℕ) × (keys key ≡ true) × (rank c.lo ≤ key) × (key < rank c.hi)

-- A way to one of the keys ended early, which is a key of a tree.
pub record StopsFor (keys : ℕ → Bool) (old : PoolState) (e : FetchFault) (new : PoolState)
    : Type 0 where
  pub key : ℕ
  pub low : least ≤ key
  pub high : key < top
  pub is : keys key ≡ true
  pub mid : PoolState
  pub before : Goes old mid
  pub stops : StopsAt key mid e new
  pub after : Goes mid new

-- What a call does that meets the cells of some keys: it goes on.
pub record Touches (root : Root) (keys : ℕ → Bool) (old new : PoolState) : Type 0 where
  pub goes : Goes old new
  pub hung : AreHung old root → AreHung new root
  pub met : MeetsFor keys old new
