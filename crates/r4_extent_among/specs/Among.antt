-- Values that come among the extents of a twig, where no leaf is, and are no bytes of a body in
-- extents (docs/volume.md, "Bodies in extents"). A key is its rank.
use Rattle.std.specs.Prelude.{◌≡◌, ℕ, ◌+◌, ◌-◌, ◌*◌, ◌/◌, ◌≤◌, ◌==◌, List, [], ◌∷◌, ◌++◌}
use Rattle.std.specs.Prelude.{length, Bool, Contains, Option}
use Rattle.std.specs.List.{flat_map, list_any}
use Rattle.r4_base.specs.Key.{key_of_rank, rank}
use Rattle.r4_base.specs.Node.{mkfs_id_of}
use Rattle.r4_base.specs.Tree.{InName, IsData, IsNode, Name, Span}
use Rattle.r4_base.specs.Value.{Value}
use Rattle.r4_build.specs.r4_branch.Pieces.{twig_bytes}
use Rattle.r4_build.specs.r4_branch.declared.piece.TwigPart.TheVariants.{Pointer}
use Rattle.r4_build.specs.r4_branch.declared.piece.TwigPiece.{TwigPiece}
use Rattle.r4_extent_build.specs.r4_cell.Seen.{CellSeen, node_of}
use Rattle.r4_content.specs.Edited.{Edits}
use Rattle.r4_extent_build.specs.r4_twig_turns.Turning.{TwigTurn}
use Rattle.r4_extent_build.specs.r4_extent_demands.Putting.{put_into}
use Rattle.r4_extent_build.specs.r4_graft.Splices.{place, spliced}
use Rattle.r4_build.specs.r4_leaf.Units.{LeafUnit}
use Rattle.r4_build.specs.r4_path.Levels.{units_of_cells}
use Rattle.r4_build.specs.r4_path.Sharing.{IsSound}
use Rattle.r4_build.specs.r4_path.Steps.{Follow}
use Rattle.r4_build.specs.r4_path.TwigPieces.{twig_pieces}
use Rattle.r4_build.specs.r4_reach.Needs.{leaves_for, put_among}
use Rattle.r4_build.specs.r4_reach.Touched.{Body}

-- the values that come into the ranges of the twig's extents, as units of leaves
abbrev pub values_among : Option Body → Edits → CellSeen → List LeafUnit
values_among b e twig = flat_map (λ (s : Span). put_into b e s.lo s.hi) (node_of twig).spans

-- one of them has the key
abbrev pub is_put_among : Option Body → Edits → CellSeen → (key : ℕ) → Bool
is_put_among b e twig k = list_any (λ (u : LeafUnit). u.0 == k) (values_among b e twig)

-- No block and no hole of the twig has the key.
pub record IsFree (twig : CellSeen) (key : ℕ) : Type 0 where
  pub blocks : (n : Name) → Contains (node_of twig).names n → IsData n → InName n key → ⊥
  pub holes : (v : Value) → Contains (node_of twig).units (key, v) → ⊥

-- A twig that may stand, and no value comes where it has a block or a hole.
pub record IsAmong (b : Option Body) (e : Edits) (twig : CellSeen) : Type 0 where
  pub sound : IsSound twig
  pub node : IsNode (node_of twig)
  pub level : twig.level ≡ 2
  pub free : (u : LeafUnit) → Contains (values_among b e twig) u → IsFree twig u.0

-- ---- the leaves that come

-- The leaves have these values in their order, and share out this range. They are no more than are
-- counted, and have this mkfs_id.
pub record HaveValues (us : List LeafUnit) (from hi mkfs_id : ℕ) (cells : List CellSeen)
    : Type 0 where
  pub ranges : Follow 1 from hi cells
  pub units : units_of_cells cells ≡ us
  pub sound : (c : CellSeen) → Contains cells c → IsSound c
  pub few : length cells ≤ leaves_for us
  pub mkfs_id_is : (c : CellSeen) → Contains cells c → mkfs_id_of c.block ≡ mkfs_id

-- The leaves of the values that come into one extent's range: from the first one's key up to where
-- that range ends. Where none comes there is none.
abbrev pub AreLeavesFor : (values : List LeafUnit) → (hi mkfs_id : ℕ) → List CellSeen → Type 0
AreLeavesFor [] hi m cells = cells ≡ []
AreLeavesFor (u ∷ us) hi m cells = HaveValues (u ∷ us) u.0 hi m cells

-- such leaves for each of these ranges, one range after the other
abbrev pub AreLeavesIn : Option Body → Edits → (mkfs_id : ℕ) → List Span → List CellSeen → Type 0
AreLeavesIn b e m [] cells = cells ≡ []
AreLeavesIn b e m (s ∷ ss) cells =
    (mine : List CellSeen) × (others : List CellSeen) × (cells ≡ mine ++ others)
    × AreLeavesFor (put_into b e s.lo s.hi) s.hi m mine × AreLeavesIn b e m ss others

-- The leaves that come behind the extents of a twig.
abbrev pub AreNewLeaves : Option Body → Edits → CellSeen → List CellSeen → Type 0
AreNewLeaves b e twig cells =
    AreLeavesIn b e (mkfs_id_of twig.block) (node_of twig).spans cells

-- the cells under the numbers from this one on
abbrev pub numbered : (next : ℕ) → List CellSeen → List CellSeen
numbered n [] = []
numbered n (c ∷ cs) = record c { id = n } ∷ numbered (n + 1) cs

-- ---- the turn

-- the pointer to a leaf, at its first key
abbrev pub pointer_of : CellSeen → TwigPiece
pointer_of c = record { key = key_of_rank (rank c.lo); part = Pointer (record { 0 = c.id }) }

-- pieces with pointers to these leaves, each where its key belongs
abbrev pub with_leaves : List CellSeen → List TwigPiece → List TwigPiece
with_leaves [] ps = ps
with_leaves (c ∷ cs) ps =
    let qs = with_leaves cs ps in
    spliced (place (rank c.lo) qs) (place (rank c.lo) qs) (pointer_of c ∷ []) qs

-- The twig gets pointers to these leaves among its pieces, and nothing goes below it. The leaves
-- have the next numbers.
abbrev pub among_turn : CellSeen → (leaves : List CellSeen) → TwigTurn
among_turn twig cells = record {
  key = rank twig.lo;
  node = node_of twig;
  pieces = λ n. with_leaves (numbered n cells) (twig_pieces twig);
  beside = λ n. record { below = record { old = []; new = numbered n cells }; blocks = [] };
  blocks = 0;
  leaves = length cells;
}

-- how much room the twig needs at most, and how many more twigs that makes
abbrev pub among_need : Option Body → Edits → CellSeen → ℕ
among_need b e twig = twig_bytes (twig_pieces twig) + 46 * put_among b e (node_of twig)

abbrev pub more_twigs : (bytes : ℕ) → ℕ
more_twigs n = (n - 4068 + 1023) / 1024
