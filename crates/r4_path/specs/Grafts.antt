-- A twig that is packed anew, and the path above it (docs/volume.md, "Edits").
use Rattle.std.specs.Prelude.{◌≡◌, ◌≢◌, ◌↔◌, ◌⊎◌, ℕ, ◌+◌, ◌-◌, ◌/◌, ◌<◌, ◌≤◌, List, [], ◌∷◌, ◌++◌, AllPairs, Contains, drop}
use Rattle.std.specs.Prelude.{length, map, reverse, take, Option, None, Some}
use Rattle.r4_base.specs.Key.{rank}
use Rattle.r4_base.specs.Node.{mkfs_id_of}
use Rattle.r4_base.specs.Tree.{IsData, IsNode, Name, Root, Store}
use Rattle.r4_base.specs.Value.{Value}
use Rattle.r4_base.specs.declared.key.Key.{Key}
use Rattle.r4_graft.specs.r4_branch.Pieces.{AreTwigPieces, names_of, twig_bytes, units_of}
use Rattle.r4_graft.specs.r4_branch.Twigs.{AreFewTwigs, PacksTwigs}
use Rattle.r4_graft.specs.r4_branch.declared.piece.TwigPiece.{TwigPiece}
use Rattle.r4_graft.specs.r4_branch.declared.twig.Twig.{Twig}
use Rattle.r4_patch.specs.r4_cell.Patch.{HaveNames}
use Rattle.r4_patch.specs.r4_cell.Seen.{CellSeen, node_of}
use Rattle.r4_patch.specs.r4_cell.declared.change.Change.{Change}
use Rattle.r4_patch.specs.r4_cell.declared.change.Fresh.{Fresh}
use Rattle.r4_patch.specs.Joining.{ids_of}
use Rattle.r4_path.specs.Growing.{IsPathIn}
use Rattle.r4_path.specs.Levels.{AreNeeded, AreRows, HasLevels, HaveMkfsIdOf, IsLongEnough, IsRootNeeded, KeepMkfsIds}
use Rattle.r4_path.specs.Levels.{Keeps}
use Rattle.r4_path.specs.Levels.{units_of_cells}
use Rattle.r4_path.specs.Sharing.{IsSound}
use Rattle.r4_path.specs.Steps.{AreNaming, Climbs, CountUp, Ends, Follow, IsFree, IsNameOf, Step, fresh_ids, name_of, news}
use Rattle.r4_path.specs.Steps.{olds}
use Rattle.r4_path.specs.Twigs.{Below, IsTwigChange, IsUnused}
use Rattle.r4_path.specs.Nodes.{IsPointable}

-- ---- the cells of twigs

-- The cells of these twigs, each up to where the next one begins, the last up to a key. The first has this name, and the
-- others the next numbers.
abbrev pub twig_cells : (id next : ℕ) → (hi : Key) → List Twig → List CellSeen
twig_cells id next hi [] = []
twig_cells id next hi (x ∷ []) = record { id = id; level = 2; lo = x.lo; hi = hi; block = x.block } ∷ []
twig_cells id next hi (x ∷ (y ∷ more)) =
    record { id = id; level = 2; lo = x.lo; hi = y.lo; block = x.block } ∷ twig_cells next (next + 1) hi (y ∷ more)

-- Some pieces are shared out to the twigs, for this range.
abbrev pub ArePackedTwigs : (lo hi : ℕ) → List Twig → Type 0
ArePackedTwigs lo hi twigs = (qs : List TwigPiece) × PacksTwigs lo hi qs twigs

-- Each of the twigs has this mkfs_id.
abbrev pub TwigsHaveMkfsId : ℕ → List Twig → Type 0
TwigsHaveMkfsId id twigs = (x : Twig) → Contains twigs x → mkfs_id_of x.block ≡ id

-- The twigs have these pieces in their order, share out the twig's range, and are not more than are needed. All have its
-- mkfs_id.
pub record AreTwigsOf (twig : CellSeen) (qs : List TwigPiece) (twigs : List Twig) : Type 0 where
  pub packs : PacksTwigs (rank twig.lo) (rank twig.hi) qs twigs
  pub few : AreFewTwigs qs twigs
  pub mkfs_id : TwigsHaveMkfsId (mkfs_id_of twig.block) twigs

-- How many cells come beside the twig's one at most: one for each 1024 bytes that are too many for a twig, or a part of these.
abbrev pub extra_twigs : List TwigPiece → ℕ
extra_twigs qs = (twig_bytes qs - 4068 + 1023) / 1024

-- Twigs of these pieces come in the place of a twig, with numbers that were taken and its mkfs_id.
pub record IsTwigRow (twig : CellSeen) (qs : List TwigPiece) (before after : Fresh) (s : Step) : Type 0 where
  pub old : s.old ≡ twig
  pub first : ids_of s.new ≡ twig.id ∷ ids_of (drop 1 s.new)
  pub ranges : Follow 2 (rank twig.lo) (rank twig.hi) s.new
  pub names : (n : Name) → AreNaming s.new n ↔ Contains (names_of (rank twig.hi) qs) n
  pub units : units_of_cells s.new ≡ units_of qs
  pub sound : (c : CellSeen) → Contains s.new c → IsSound c
  pub counts : CountUp before.next (ids_of (drop 1 s.new))
  pub number : after ≡ record before { next = before.next + length (drop 1 s.new) }
  pub mkfs_id : HaveMkfsIdOf twig s.new

-- The same, and they are no more than are needed: each but the last had no room for the next one's first piece.
pub record IsTwigLevel (twig : CellSeen) (qs : List TwigPiece) (before after : Fresh) (s : Step) : Type 0 where
  pub row : IsTwigRow twig qs before after s
  pub twigs : List Twig
  pub packs : PacksTwigs (rank twig.lo) (rank twig.hi) qs twigs
  pub cells : s.new ≡ twig_cells twig.id before.next twig.hi twigs
  pub one : twig_bytes qs ≤ 4068 → length s.new ≡ 1
  pub several : 4068 < twig_bytes qs → (2 ≤ length s.new) × (length s.new ≤ 1 + extra_twigs qs)

-- ---- a twig that is to have other pieces

-- The twig is the lowest of a path of this part of a tree, with the cells above it that pointers to further twigs may ask
-- for, where it is to have these pieces. There are numbers for all that may come.
pub record IsGraftedIn (t : Store Value) (r : Root) (qs : List TwigPiece) (twig : CellSeen) (ups : List CellSeen)
    (fresh : Fresh) : Type 0 where
  pub path : IsPathIn t r (twig ∷ ups) fresh
  pub level : twig.level ≡ 2
  pub pieces : AreTwigPieces (rank twig.lo) (rank twig.hi) qs
  pub bytes : twig_bytes qs ≤ 16000
  pub enough : (twig_bytes qs ≤ 4068) ⊎ IsLongEnough r (extra_twigs qs) twig ups
  pub numbers : fresh.next + (1 + length ups) + extra_twigs qs < fresh.end

-- The lowest step puts one cell in the twig's place, or more, where its pieces do not fit into one; these have the pieces in
-- their order. The steps go up the path, with the next numbers; each has the items that it had, with pointers to the new
-- cells behind the one to the old cell below it. Where the path is long enough for a root, they end there. The mkfs_ids are
-- kept.
pub record Grafts (twig : CellSeen) (ups : List CellSeen) (qs : List TwigPiece) (before after : Fresh)
    (change : Change) : Type 0 where
  pub lowest : Step
  pub more : List Step
  pub over : Option CellSeen
  pub middle : Fresh
  pub levels : HasLevels (lowest ∷ more) over change
  pub level : IsTwigLevel twig qs before middle lowest
  pub ups_are : olds more ≡ take (length more) ups
  pub climbs : Climbs (Some lowest) more
  pub keep : (u : Step) → Contains more u → Keeps u
  pub needed : AreNeeded (lowest ∷ more)
  pub rows : AreRows (lowest ∷ more) over
  pub root_needed : IsRootNeeded (lowest ∷ more) over
  pub root_able : (d : CellSeen) → over ≡ Some d → IsPointable d.id
  pub mkfs_ids : KeepMkfsIds (lowest ∷ more) over
  pub sound : (c : CellSeen) → Contains (news (lowest ∷ more) None) c → IsSound c
  pub root_units : (d : CellSeen) → over ≡ Some d → (node_of d).units ≡ []
  pub root_node : (d : CellSeen) → over ≡ Some d → IsNode (node_of d)
  pub ends : (r : Root) → (twig_bytes qs ≤ 4068) ⊎ IsLongEnough r (extra_twigs qs) twig ups → Ends r (lowest ∷ more) over
  pub counts : CountUp before.next (fresh_ids (lowest ∷ more) over)
  pub number : after ≡ record before { next = before.next + length (fresh_ids (lowest ∷ more) over) }
  pub within : after.next ≤ after.end

-- ---- the same of a path that is given from the top down

abbrev pub IsGraftedUp : Store Value → Root → List TwigPiece → Fresh → List CellSeen → Type 0
IsGraftedUp t r qs fresh [] = ⊥
IsGraftedUp t r qs fresh (twig ∷ ups) = IsGraftedIn t r qs twig ups fresh

abbrev pub IsGraftIn : Store Value → Root → (path : List CellSeen) → List TwigPiece → Fresh → Type 0
IsGraftIn t r path qs fresh = IsGraftedUp t r qs fresh (reverse path)

abbrev pub GraftsUp : List TwigPiece → (before after : Fresh) → Change → List CellSeen → Type 0
GraftsUp qs before after change [] = ⊥
GraftsUp qs before after change (twig ∷ ups) = Grafts twig ups qs before after change

abbrev pub GraftsAt : (path : List CellSeen) → List TwigPiece → (before after : Fresh) → Change → Type 0
GraftsAt path qs before after change = GraftsUp qs before after change (reverse path)

-- ---- what goes and comes below

-- The change with these old cells before its own, and these new cells before its own.
pub record HasBelow (old new : List CellSeen) (change c : Change) : Type 0 where
  pub old_is : c.old ≡ old ++ change.old
  pub new_is : c.new ≡ new ++ change.new
  pub root_is : c.root ≡ change.root

-- The cells are data blocks of these names.
pub record AreBlocksOf (data_names : List Name) (cells : List CellSeen) : Type 0 where
  pub names : map name_of cells ≡ data_names
  pub whole : (c : CellSeen) → Contains cells c → length c.block ≡ 4096

-- The pieces name what the twig named, but for what goes, and what comes: cells below it, and data blocks of these names.
pub record IsGraftOf (t : Store Value) (twig : CellSeen) (qs : List TwigPiece) (b : Below) (data_names : List Name) : Type 0 where
  pub goes : (c : CellSeen) → Contains b.old c → Contains (node_of twig).names (name_of c)
  pub gone : (c : CellSeen) → Contains b.old c → t c.id ≡ Some (node_of c)
  pub names : (n : Name) → Contains (names_of (rank twig.hi) qs) n ↔
      ((Contains (node_of twig).names n × (IsNameOf b.old n → ⊥)) ⊎ (IsNameOf b.new n ⊎ Contains data_names n))
  pub nodes : (c : CellSeen) → Contains b.new c → IsNode (node_of c)
  pub blocks : (n : Name) → Contains data_names n → IsData n

-- The number is unused, and none of those from one up to another.
abbrev pub IsUnusedBeside : Store Value → (from to : ℕ) → ℕ → Type 0
IsUnusedBeside t from to i = IsUnused t i × ((i < from) ⊎ (to ≤ i))

-- What comes below has the number of a cell that goes, or one that is unused and beside those that the change took. No two
-- have one.
pub record HaveGraftNumbers (t : Store Value) (b : Below) (data_names : List Name) (from to : ℕ) : Type 0 where
  pub old : HaveNames b.old
  pub new : HaveNames b.new
  pub each : (c : CellSeen) → Contains b.new c → Contains (ids_of b.old) c.id ⊎ IsUnusedBeside t from to c.id
  pub blocks : (n : Name) → Contains data_names n → IsUnusedBeside t from to n.id
  pub once : AllPairs (λ (i j : ℕ). i ≢ j) (map (λ n. n.id) data_names)
  pub apart : (c : CellSeen) (n : Name) → Contains b.new c → Contains data_names n → c.id ≢ n.id

-- The numbers of what comes below, but for those of cells that go, count up from a free one, and were taken before the
-- change took some; those of data blocks are unused and beside all free ones.
pub record AreCountedBelow (t : Store Value) (b : Below) (data_names : List Name) (first : ℕ) (before : Fresh) : Type 0 where
  pub mine : List ℕ
  pub old : HaveNames b.old
  pub new : HaveNames b.new
  pub each : (c : CellSeen) → Contains b.new c → Contains (ids_of b.old) c.id ⊎ Contains mine c.id
  pub counts : CountUp first mine
  pub ends : first + length mine ≤ before.next
  pub free : IsFree first before.end t
  pub blocks : (n : Name) → Contains data_names n → IsUnusedBeside t first before.end n.id
  pub once : AllPairs (λ (i j : ℕ). i ≢ j) (map (λ n. n.id) data_names)

-- A twig of a part of a tree is packed anew, along its path; below it go and come cells, and data blocks come.
pub record IsGraft (t : Store Value) (r : Root) (twig : CellSeen) (ups : List CellSeen) (qs : List TwigPiece) (b : Below)
    (blocks : List CellSeen) (before after : Fresh) (change : Change) : Type 0 where
  pub data_names : List Name
  pub grafted : IsGraftedIn t r qs twig ups before
  pub grafts : Grafts twig ups qs before after change
  pub of : IsGraftOf t twig qs b data_names
  pub blocks_are : AreBlocksOf data_names blocks
  pub numbers : HaveGraftNumbers t b data_names before.next after.next

-- The change is one of a twig: of its cells and those below it, with these data blocks.
pub record IsTwigGraft (t : Store Value) (r : Root) (b : Below) (blocks : List CellSeen) (change : Change) : Type 0 where
  pub lowest : Step
  pub more : List Step
  pub over : Option CellSeen
  pub levels : HasLevels (lowest ∷ more) over change
  pub is : IsTwigChange t r (record { old = b.old; new = b.new ++ blocks }) lowest more over

-- ---- all of it, of a path that is given from the top down

-- A twig of a part of a tree may be packed anew, while these cells below it go and come, and these data blocks come.
pub record IsGraftBelow (t : Store Value) (r : Root) (qs : List TwigPiece) (b : Below) (blocks : List CellSeen) (first : ℕ)
    (fresh : Fresh) (twig : CellSeen) (ups : List CellSeen) : Type 0 where
  pub data_names : List Name
  pub grafted : IsGraftedIn t r qs twig ups fresh
  pub of : IsGraftOf t twig qs b data_names
  pub blocks_are : AreBlocksOf data_names blocks
  pub counted : AreCountedBelow t b data_names first fresh

abbrev pub IsGraftBelowUp : Store Value → Root → List TwigPiece → Below → (blocks : List CellSeen) → (first : ℕ) → Fresh
    → List CellSeen → Type 0
IsGraftBelowUp t r qs b blocks first fresh [] = ⊥
IsGraftBelowUp t r qs b blocks first fresh (twig ∷ ups) = IsGraftBelow t r qs b blocks first fresh twig ups

abbrev pub IsGraftBelowIn : Store Value → Root → (path : List CellSeen) → List TwigPiece → Below → (blocks : List CellSeen)
    → (first : ℕ) → Fresh → Type 0
IsGraftBelowIn t r path qs b blocks first fresh = IsGraftBelowUp t r qs b blocks first fresh (reverse path)

-- The change has the cells of a graft, behind those that go and come below it.
pub record GraftsBelow (path : List CellSeen) (qs : List TwigPiece) (b : Below) (before after : Fresh) (c : Change) : Type 0 where
  pub change : Change
  pub grafts : GraftsAt path qs before after change
  pub below : HasBelow b.old b.new change c
