-- Whether blocks of a body may go of a twig, as its pieces and the cells of a task tell it
-- (docs/volume.md, "Bodies in extents"). A key is its rank.
use Rattle.std.specs.Prelude.{◌≡◌, ◌⊎◌, ℕ, ◌%◌, ◌^◌, ◌<◌, ◌≤◌, ◌==◌, ◌&&◌, ◌||◌, nat_le, nat_lt, not}
use Rattle.std.specs.Prelude.{if◌then◌else◌, Bool, false, true, List, Contains, Option, None, Some}
use Rattle.std.specs.List.{list_all, list_any}
use Rattle.r4_base.specs.Key.{rank}
use Rattle.r4_base.specs.Node.{mkfs_id_of}
use Rattle.r4_base.specs.Tree.{Name}
use Rattle.r4_extent_growth.specs.r4_extent_change.Among.{is_losing}
use Rattle.r4_extent_growth.specs.Turning.{ends_by}
use Rattle.r4_extent_growth.specs.r4_extent_loss.Losing.{gone_from, gone_to, in_gone}
use Rattle.r4_extent_growth.specs.r4_measure.r4_branch.Pieces.{open_end, piece_end}
use Rattle.r4_extent_growth.specs.r4_measure.r4_branch.declared.piece.TwigPiece.{TwigPiece}
use Rattle.r4_extent_growth.specs.r4_measure.r4_cell.Seen.{CellSeen, node_of}
use Rattle.r4_extent_growth.specs.r4_measure.r4_leaf.Units.{is_between}
use Rattle.r4_extent_growth.specs.r4_measure.r4_path.Sharing.{IsSound}
use Rattle.r4_extent_growth.specs.r4_measure.r4_path.TwigPieces.{ArePiecesOf, twig_pieces}
use Rattle.r4_extent_growth.specs.r4_measure.r4_path.r4_graft.Splices.{IsBorder}
use Rattle.r4_extent_growth.specs.r4_measure.r4_reach.Touched.{Body}

-- ---- pieces

-- the key does not lie behind the first key of the piece and in it, or is whole blocks behind that
abbrev pub is_border : (key : ℕ) → TwigPiece → Bool
is_border k p = nat_le k (rank p.key) || (ends_by k p || (k % 4096 == rank p.key % 4096))

-- where a unit ends is known, and behind a key
abbrev pub is_behind : (key : ℕ) → Option ℕ → Bool
is_behind k None = false
is_behind k (Some end) = nat_lt k end

-- the piece is a unit that has the key; one that reaches the end of its object is taken for none
abbrev pub has_key : (key : ℕ) → TwigPiece → Bool
has_key k p = nat_le (rank p.key) k && is_behind k (open_end p)

-- both keys are at borders of blocks, and a unit has the first one
abbrev pub pieces_suit : (from to : ℕ) → List TwigPiece → Bool
pieces_suit from to ps =
    list_all (is_border from) ps && (list_all (is_border to) ps && list_any (has_key from) ps)

-- ---- names

-- one of the cells has the number
abbrev pub has_number : List CellSeen → ℕ → Bool
has_number cells id = list_any (λ (c : CellSeen). c.id == id) cells

-- the block does not begin at one of the keys that go, or is among the cells
abbrev pub block_suits : (from to : ℕ) → List CellSeen → (at id : ℕ) → Bool
block_suits from to cells k id = not (is_between from to k) || has_number cells id

-- the leaf has none of the keys that go, and is among the cells, if it ends where they begin
abbrev pub leaf_suits : (from to : ℕ) → List CellSeen → (lo hi id : ℕ) → Bool
leaf_suits from to cells lo hi id =
    (nat_le to lo || nat_le hi from) && (not (hi == from) || has_number cells id)

abbrev pub name_suits : (from to : ℕ) → List CellSeen → Name → Bool
name_suits from to cells n =
    if n.level == 0 then block_suits from to cells n.lo n.id
    else leaf_suits from to cells n.lo n.hi n.id

-- ---- a twig

-- the blocks may go of the twig
abbrev pub may_leave : Body → List CellSeen → CellSeen → Bool
may_leave b cells c =
    pieces_suit (gone_from b c) (gone_to b c) (twig_pieces c)
    && list_all (name_suits (gone_from b c) (gone_to b c) cells) (node_of c).names

-- One of the cells has the number.
abbrev pub HasNumber : List CellSeen → ℕ → Type 0
HasNumber cells id = (c : CellSeen) × Contains cells c × (c.id ≡ id)

-- The keys that go of the twig begin and end at borders of blocks, and a piece has the first of them; no leaf below it
-- has one. What it names there is among the cells: the data blocks that go, and the leaf that ends where they begin.
pub record MayLeave (b : Body) (cells : List CellSeen) (c : CellSeen) : Type 0 where
  pub pieces : ArePiecesOf c (twig_pieces c)
  pub first_border : IsBorder (gone_from b c) (twig_pieces c)
  pub last_border : IsBorder (gone_to b c) (twig_pieces c)
  pub begins : (p : TwigPiece) × Contains (twig_pieces c) p × (rank p.key ≤ gone_from b c)
      × (gone_from b c < piece_end p)
  pub clear : (n : Name) → Contains (node_of c).names n → n.level ≡ 1
      → (n.hi ≤ gone_from b c) ⊎ (gone_to b c ≤ n.lo)
  pub blocks : (n : Name) → Contains (node_of c).names n → n.level ≡ 0
      → in_gone b c n.lo ≡ true → HasNumber cells n.id
  pub left : (n : Name) → Contains (node_of c).names n → n.level ≡ 1
      → n.hi ≡ gone_from b c → HasNumber cells n.id
  pub mkfs_id : mkfs_id_of c.block < 2 ^ 32

-- What is known of a cell that was looked at.
pub record IsKnown (b : Body) (c : CellSeen) : Type 0 where
  pub sound : c.level ≡ 1 → IsSound c
  pub pieces : is_losing b c ≡ true → ArePiecesOf c (twig_pieces c)
  pub mkfs_id : is_losing b c ≡ true → mkfs_id_of c.block < 2 ^ 32
