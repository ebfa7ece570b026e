-- Twigs of a body in extents that loses blocks (docs/volume.md, "Bodies in extents"). A key is its rank.
use Rattle.std.specs.Prelude.{◌≡◌, ◌↔◌, ◌⊎◌, ℕ, ◌+◌, ◌^◌, ◌<◌, ◌≤◌, ◌==◌, List, [], ◌∷◌, ◌++◌}
use Rattle.std.specs.Prelude.{length, map, Bool, true, false, Contains, Option, None, Some}
use Rattle.std.specs.Prelude.{if◌then◌else◌}
use Rattle.r4_base.specs.Key.{rank}
use Rattle.r4_base.specs.Node.{mkfs_id_of}
use Rattle.r4_base.specs.Tree.{IsNode, Name}
use Rattle.r4_base.specs.Value.{Value}
use Rattle.r4_base.specs.declared.key.Key.{Key}
use Rattle.r4_extent_build.specs.r4_branch.declared.piece.TwigPart.TheVariants.{Pointer}
use Rattle.r4_extent_build.specs.r4_branch.declared.piece.TwigPiece.{TwigPiece}
use Rattle.r4_extent_build.specs.r4_cell.Patch.{HaveNames}
use Rattle.r4_extent_build.specs.r4_cell.Seen.{CellSeen, node_of}
use Rattle.r4_content.specs.Bodies.{larger, smaller}
use Rattle.r4_content.specs.Edited.{Edits}
use Rattle.r4_extent_build.specs.r4_edit.CutBlocks.{BeginsAt, next_key, parted_twice, pieces_between}
use Rattle.r4_extent_build.specs.r4_edit.Extents.{given_cells}
use Rattle.r4_extent_build.specs.r4_graft.Splices.{IsBorder}
use Rattle.r4_extent_build.specs.r4_leaf.Units.{is_between}
use Rattle.r4_extent_build.specs.r4_node40.Laid.{fresh_node}
use Rattle.r4_extent_build.specs.r4_patch.Effect.{Placed}
use Rattle.r4_extent_build.specs.r4_path.Sharing.{IsSound}
use Rattle.r4_extent_build.specs.r4_path.Steps.{IsNameOf, name_of}
use Rattle.r4_extent_build.specs.r4_path.TwigPieces.{ArePiecesOf, twig_pieces}
use Rattle.r4_extent_build.specs.r4_reach.Needs.{gets_bytes, pieces_after}
use Rattle.r4_extent_build.specs.r4_reach.Touched.{Body, first_byte}
use Rattle.r4_extent_build.specs.r4_twig_turns.Turning.{TwigTurn}
use Rattle.r4_extent_build.specs.r4_extent_demands.Sizes.{IsFirstKey, IsSizedBody}
use Rattle.r4_extent_build.specs.Growing.{end_after, end_before}

-- The body stands in extents and loses blocks; its first key is given. No block of it gets bytes: the last one that
-- stays is left as it is.
pub record IsLosing (b : Body) (first : Key) (e : Edits) : Type 0 where
  pub sized : IsSizedBody b
  pub in_extents : b.in_extents ≡ true
  pub key : IsFirstKey b first
  pub shorter : end_after b < end_before b
  pub quiet : (k : ℕ) → first_byte b ≤ k → k + 4096 ≤ first_byte b + 2 ^ 64
      → gets_bytes b e k ≡ false

-- A twig of which blocks go: the leaf that ends where the first of them begins, if one does, and the data blocks that
-- go.
pub record Loss : Type 0 where
  pub twig : CellSeen
  pub leaf : Option CellSeen
  pub blocks : List CellSeen

-- where the blocks begin that go of a twig, and where they end
abbrev pub gone_from : Body → CellSeen → ℕ
gone_from b twig = larger (rank twig.lo) (end_after b)

abbrev pub gone_to : Body → CellSeen → ℕ
gone_to b twig = smaller (rank twig.hi) (end_before b)

abbrev pub in_gone : Body → CellSeen → (key : ℕ) → Bool
in_gone b twig k = is_between (gone_from b twig) (gone_to b twig) k

-- the twig's pieces, parted there
abbrev pub parted_pieces : Body → CellSeen → List TwigPiece
parted_pieces b twig = parted_twice (gone_from b twig) (gone_to b twig) (twig_pieces twig)

-- It is the leaf of the twig that ends where blocks begin to go.
pub record IsLeftLeaf (b : Body) (twig leaf : CellSeen) : Type 0 where
  pub named : Contains (node_of twig).names (name_of leaf)
  pub level : leaf.level ≡ 1
  pub ends : rank leaf.hi ≡ gone_from b twig
  pub sound : IsSound leaf

abbrev pub IsLeft : Body → CellSeen → Option CellSeen → Type 0
IsLeft b twig None = (n : Name) → Contains (node_of twig).names n → n.level ≡ 1
    → n.hi ≡ gone_from b twig → ⊥
IsLeft b twig (Some leaf) = IsLeftLeaf b twig leaf

-- Blocks go of the twig, the first where the body's blocks begin to go or where the twig's range does, and no leaf has
-- a key of them. Which go and which leaf is left of them is given.
pub record IsLossOf (b : Body) (x : Loss) : Type 0 where
  pub pieces : ArePiecesOf x.twig (twig_pieces x.twig)
  pub node : IsNode (node_of x.twig)
  pub level : x.twig.level ≡ 2
  pub some : gone_from b x.twig < gone_to b x.twig
  pub first_border : IsBorder (gone_from b x.twig) (twig_pieces x.twig)
  pub last_border : IsBorder (gone_to b x.twig) (twig_pieces x.twig)
  pub begins : BeginsAt (gone_from b x.twig)
      (pieces_between (gone_from b x.twig) (gone_to b x.twig) (parted_pieces b x.twig))
  pub clear : (n : Name) → Contains (node_of x.twig).names n → n.level ≡ 1
      → (n.hi ≤ gone_from b x.twig) ⊎ (gone_to b x.twig ≤ n.lo)
  pub goes : (n : Name) → IsNameOf x.blocks n ↔ (Contains (node_of x.twig).names n
      × ((n.level ≡ 0) × ((gone_from b x.twig ≤ n.lo) × (n.lo < gone_to b x.twig))))
  pub nodes : (c : CellSeen) → Contains x.blocks c → IsNode (node_of c)
  pub once : HaveNames (x.blocks ++ given_cells x.leaf)
  pub left : IsLeft b x.twig x.leaf
  pub mkfs_id : mkfs_id_of x.twig.block < 2 ^ 32

-- ---- what comes in their place

-- where the leaf begins that takes up the range of what goes: the leaf left of it goes on, or a new one comes
abbrev pub taken_from : Body → Loss → ℕ
taken_from b x = by_leaf x.leaf
  where
    by_leaf : Option CellSeen → ℕ
    by_leaf None = gone_from b x.twig
    by_leaf (Some leaf) = rank leaf.lo

-- what stands in it: what stood in the leaf that goes on, or nothing
abbrev pub taken_block : Loss → List ℕ
taken_block x = by_leaf x.leaf
  where
    by_leaf : Option CellSeen → List ℕ
    by_leaf None = fresh_node 1 (mkfs_id_of x.twig.block)
    by_leaf (Some leaf) = leaf.block

-- the pieces, of which the one that begins at a key points to a leaf of this number
abbrev pub pointed : (key id : ℕ) → TwigPiece → TwigPiece
pointed k id p = if rank p.key == k then record p { part = Pointer (record { 0 = id }) } else p

abbrev pub with_leaf : (key id : ℕ) → List TwigPiece → List TwigPiece
with_leaf k id ps = map (pointed k id) ps

-- that leaf: from the piece's key up to the next one's, or to the end of the range
unfoldable pub leaf_at : (key id : ℕ) → (hi : Key) → (block : List ℕ) → List TwigPiece
    → List CellSeen
leaf_at k id hi block [] = []
leaf_at k id hi block (p ∷ ps) =
    if rank p.key == k
    then record { id = id; level = 1; lo = p.key; hi = next_key hi ps; block = block } ∷ []
    else leaf_at k id hi block ps

-- whose number it has: that of the leaf that goes on, or the next one
abbrev pub taken_id : Loss → (next : ℕ) → ℕ
taken_id x next = by_leaf x.leaf
  where
    by_leaf : Option CellSeen → ℕ
    by_leaf None = next
    by_leaf (Some leaf) = leaf.id

-- the pieces with the pointer to it: that of a leaf which goes on stands among them, one to a new leaf is put in
abbrev pub taken_pieces : Loss → (key next : ℕ) → List TwigPiece → List TwigPiece
taken_pieces x k next ps = by_leaf x.leaf
  where
    by_leaf : Option CellSeen → List TwigPiece
    by_leaf None = with_leaf k next ps
    by_leaf (Some leaf) = ps

-- how many numbers it takes: a new leaf one, a leaf that goes on none
abbrev pub numbers_taken : Loss → (come : List CellSeen) → ℕ
numbers_taken x come = by_leaf x.leaf
  where
    by_leaf : Option CellSeen → ℕ
    by_leaf None = length come
    by_leaf (Some leaf) = 0

-- ---- the turn

-- The twig gets the pieces that it has after the edits. A leaf that goes on and takes up the range of what goes keeps
-- its number, and a new one has the next; where an extent goes on before what goes, none comes.
abbrev pub losing_turn : Body → Edits → Loss → TwigTurn
losing_turn b e x =
    let ps = pieces_after (Some b) e (node_of x.twig) [] in
    record {
      key = rank x.twig.lo;
      node = node_of x.twig;
      pieces = λ n. taken_pieces x (taken_from b x) n ps;
      beside = λ n. record {
        below = record {
          old = x.blocks ++ given_cells x.leaf;
          new = leaf_at (taken_from b x) (taken_id x n) x.twig.hi (taken_block x) ps;
        };
        blocks = [];
      };
      blocks = 0;
      leaves = numbers_taken x (leaf_at (taken_from b x) 0 x.twig.hi (taken_block x) ps);
    }

-- nothing stands at the keys of what goes
abbrev pub no_value : ℕ → Option (Placed Value)
no_value k = None
