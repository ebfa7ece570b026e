-- A body that comes out of tails, or had no bytes, to extents below one twig (docs/volume.md,
-- "Bodies in extents"). A key is its rank.
use Rattle.std.specs.Prelude.{◌≡◌, ℕ, ◌+◌, ◌-◌, ◌<◌, List, [], ◌∷◌, ◌++◌, replicate, Bool}
use Rattle.std.specs.Prelude.{true, false}
use Rattle.std.specs.Prelude.{Contains, Option, None, Some, option_map, unwrap_or, ◌==◌}
use Rattle.std.specs.Prelude.{if◌then◌else◌}
use Rattle.std.specs.List.{flat_map}
use Rattle.r4_base.specs.Key.{key_of_rank, rank}
use Rattle.r4_base.specs.Tree.{IsNode}
use Rattle.r4_base.specs.Value.{Byte, Value}
use Rattle.r4_base.specs.Volume.{blocks_for}
use Rattle.r4_base.specs.declared.key.Key.{Key}
use Rattle.r4_build.specs.r4_branch.declared.piece.TwigPart.TheVariants.{Pointer}
use Rattle.r4_build.specs.r4_branch.declared.piece.TwigPiece.{TwigPiece}
use Rattle.r4_extent_build.specs.r4_cell.Patch.{HaveNames}
use Rattle.r4_extent_build.specs.r4_cell.Seen.{CellSeen, node_of}
use Rattle.r4_content.specs.Edited.{Edits, Intervals, Pairs}
use Rattle.r4_content.specs.Objects.{byte_pairs}
use Rattle.r4_extent_build.specs.r4_edit.Extents.{given_cells, pointer_to}
use Rattle.r4_extent_build.specs.r4_edit.LeafParts.{HasLeft, HasRight}
use Rattle.r4_extent_build.specs.r4_extent_blocks.Setting.{byte_set}
use Rattle.r4_extent_build.specs.Growing.{end_after}
use Rattle.r4_extent_build.specs.Numbering.{cells_coming, coming_count, with_numbers}
use Rattle.r4_extent_build.specs.Setting.{is_hole_of}
use Rattle.r4_extent_build.specs.r4_twig_turns.Turning.{TwigTurn}
use Rattle.r4_extent_build.specs.r4_extent_demands.Sizes.{IsFirstKey, IsSizedBody}
use Rattle.r4_extent_build.specs.r4_extent_edit.Between.{pieces_over}
use Rattle.r4_extent_build.specs.r4_extent_edit.Turning.{AreAround, last_leaf}
use Rattle.r4_build.specs.r4_leaf.Units.{is_between}
use Rattle.r4_build.specs.r4_patch.Effect.{Placed}
use Rattle.r4_build.specs.r4_path.Steps.{Follow, name_of}
use Rattle.r4_build.specs.r4_path.TwigPieces.{ArePiecesOf, twig_pieces}
use Rattle.r4_build.specs.r4_reach.Needs.{gets_bytes, runs}
use Rattle.r4_build.specs.r4_reach.Touched.{Body, first_byte, turns_out}
use Rattle.r4_extent_turn.specs.Gathering.{units_within}

-- The body stands in extents afterwards, and stood in tails or had no bytes; its first key is
-- given.
pub record IsTurningBody (b : Body) (first : Key) : Type 0 where
  pub sized : IsSizedBody b
  pub turns : turns_out b ≡ true
  pub key : IsFirstKey b first

-- A twig, and leaves that it names, in their order, of which there is one at least.
pub record Turn : Type 0 where
  pub twig : CellSeen
  pub leaf : CellSeen
  pub more : List CellSeen

abbrev pub leaves_of : Turn → List CellSeen
leaves_of x = x.leaf ∷ x.more

abbrev pub last_of : Turn → CellSeen
last_of x = last_leaf x.leaf x.more

-- the keys of the blocks that come
abbrev pub in_turned : Body → (key : ℕ) → Bool
in_turned b k = is_between (first_byte b) (end_after b) k

-- The twig names the leaves, which stand one beside the other: all that have a key of the blocks
-- that come. What stands at these keys are bytes that the body had before; none of the twig's
-- extents is a hole of it.
pub record IsTurnFor (b : Body) (x : Turn) : Type 0 where
  pub pieces : ArePiecesOf x.twig (twig_pieces x.twig)
  pub node : IsNode (node_of x.twig)
  pub level : x.twig.level ≡ 2
  pub beside : Follow 1 (rank x.leaf.lo) (rank (last_of x).hi) (leaves_of x)
  pub named : (c : CellSeen) → Contains (leaves_of x) c
      → Contains (node_of x.twig).names (name_of c)
  pub nodes : (c : CellSeen) → Contains (leaves_of x) c → IsNode (node_of c)
  pub once : HaveNames (leaves_of x)
  pub around : AreAround x.leaf x.more (first_byte b) (end_after b)
  pub short : (c : CellSeen) (k : ℕ) (v : Value) → Contains (leaves_of x) c
      → Contains (node_of c).units (k, v) → in_turned b k ≡ true → k < first_byte b + b.was
  pub no_holes : (p : TwigPiece) → Contains (twig_pieces x.twig) p → is_hole_of b p ≡ false

-- ---- the bytes

-- what stands in the leaves at the keys of the blocks that come, as edits that put it there
abbrev pub tails_of : Body → Turn → Edits
tails_of b x = record {
  cuts = [];
  zeros = [];
  puts = units_within (first_byte b) (end_after b) (leaves_of x);
}

-- all that edits put, and before it their zeros, as pairs
abbrev pub zero_pairs : Intervals → Pairs
zero_pairs rs = flat_map (λ r. byte_pairs r.0 (replicate (r.1 - r.0) 0)) rs

abbrev pub pairs_put : Edits → Pairs
pairs_put e = zero_pairs e.zeros ++ e.puts

-- what is put there, and over it what edits put
abbrev pub set_over : (tails e : Edits) → Edits
set_over tails e = record { cuts = []; zeros = []; puts = pairs_put tails ++ pairs_put e }

-- what stands at a key of the blocks that come: the byte that the edits set there, else the one
-- that stood in the leaves, else a zero
abbrev pub turned_byte : Body → Edits → Turn → (key : ℕ) → Value
turned_byte b e x k = Byte (unwrap_or (byte_set e k) (unwrap_or (byte_set (tails_of b x) k) 0))

-- and that in an extent
abbrev pub turned_values : Body → Edits → Turn → (key : ℕ) → Option (Placed Value)
turned_values b e x k = Some (turned_byte b e x k, false)

-- ---- what stays of the leaves

-- What stays of the first one, and of the last one, where something does.
pub record Kept : Type 0 where
  pub left : Option CellSeen
  pub right : Option CellSeen

abbrev pub kept_cells : Kept → List CellSeen
kept_cells s = given_cells s.left ++ given_cells s.right

-- The first leaf keeps its units below the first of the blocks that come, unless it begins there.
-- What the last one has from their end on is in a leaf from the first of these units on, if there
-- is one.
pub record AreKept (b : Body) (x : Turn) (s : Kept) : Type 0 where
  pub from : Key
  pub from_is : rank from ≡ first_byte b
  pub left : HasLeft x.leaf from s.left
  pub to : Key
  pub to_is : rank to ≡ end_after b
  pub right_id : ℕ
  pub right : HasRight (last_of x) to right_id s.right

-- The first leaf keeps its number. What stays of the last one takes the next number, or the one
-- behind it where that is the first leaf's.
abbrev pub with_id : (id : ℕ) → CellSeen → CellSeen
with_id i c = record c { id = i }

abbrev pub right_number : Turn → (next : ℕ) → ℕ
right_number x n = if x.leaf.id == n then n + 1 else n

abbrev pub numbered : Turn → (next : ℕ) → Kept → Kept
numbered x n s = record s { right = option_map (with_id (right_number x n)) s.right }

-- ---- the turn

-- The pieces of the extent, as they tell its room: each block that gets bytes, or had some, is a
-- new one, and others are in holes.
abbrev pub told_extent : Body → Edits → List TwigPiece
told_extent b e = runs (gets_bytes b e) (first_byte b) (blocks_for b.now)

-- how many blocks come
abbrev pub blocks_turned : Body → Edits → ℕ
blocks_turned b e = coming_count [] (told_extent b e)

-- the pointer to what stays of the first leaf, at the key at which the leaf's own one stands
abbrev pub left_pointer : Option CellSeen → List TwigPiece
left_pointer None = []
left_pointer (Some c) =
    record { key = key_of_rank (rank c.lo); part = Pointer (record { 0 = c.id }) } ∷ []

-- The twig's pieces, with an extent in the place of the leaves, between pointers to what stays of
-- them.
abbrev pub pieces_with : Body → Turn → (extent : List TwigPiece) → Kept → List TwigPiece
pieces_with b x extent s =
    pieces_over (rank x.leaf.lo) (end_after b)
    (left_pointer s.left ++ (extent ++ pointer_to s.right)) x.twig

-- as they tell the room that is needed
abbrev pub told_pieces : Body → Edits → Turn → Kept → List TwigPiece
told_pieces b e x s = pieces_with b x (told_extent b e) s

-- The twig gets these pieces. The blocks that come have the first numbers; two more are for what
-- stays of the last leaf.
abbrev pub turning_turn : Body → Edits → Turn → Kept → TwigTurn
turning_turn b e x s = record {
  key = rank x.twig.lo;
  node = node_of x.twig;
  pieces = λ n. pieces_with b x (with_numbers [] n (told_extent b e))
      (numbered x (n + blocks_turned b e) s);
  beside = λ n. record {
    below = record { old = leaves_of x; new = kept_cells (numbered x (n + blocks_turned b e) s) };
    blocks = cells_coming (set_over (tails_of b x) e) [] n (told_extent b e);
  };
  blocks = blocks_turned b e;
  leaves = 2;
}
