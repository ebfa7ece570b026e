-- Blocks that are cut out of a twig's extents (docs/volume.md, "Edits").
use Rattle.std.specs.Prelude.{◌≡◌, ◌↔◌, ◌⊎◌, ℕ, ◌+◌, ◌-◌, ◌<◌, ◌≤◌, List, [], ◌∷◌, ◌++◌, Contains, drop, length, nat_le, nat_lt, reverse, Bool, false, ◌==◌, take, Option, None, Some, if◌then◌else◌}
use Rattle.r4_base.specs.Key.{rank}
use Rattle.r4_base.specs.Node.{mkfs_id_of}
use Rattle.r4_base.specs.Tree.{Name, Root, Store}
use Rattle.r4_base.specs.Value.{Value}
use Rattle.r4_base.specs.declared.key.Key.{Key}
use Rattle.r4_path.specs.r4_branch.Pieces.{is_at, last_end, units_of}
use Rattle.r4_path.specs.r4_branch.declared.piece.TwigPart.TheVariants.{Pointer}
use Rattle.r4_path.specs.r4_branch.declared.piece.TwigPiece.{TwigPiece}
use Rattle.r4_path.specs.r4_cell.Patch.{HaveNames}
use Rattle.r4_path.specs.r4_cell.Seen.{CellSeen, node_of}
use Rattle.r4_path.specs.r4_cell.declared.change.Change.{Change}
use Rattle.r4_path.specs.r4_cell.declared.change.Fresh.{Fresh}
use Rattle.r4_path.specs.r4_graft.Splices.{IsBorder, parted, place, spliced}
use Rattle.r4_path.specs.r4_leaf.Units.{cut_units}
use Rattle.r4_edit.specs.Editing.{IsCutOfLeafIn, after_cut, extra_for}
use Rattle.r4_edit.specs.Extents.{HasRoomFor, given_cells}
use Rattle.r4_path.specs.TwigPieces.{twig_pieces}
use Rattle.r4_path.specs.Grafts.{GraftsBelow}
use Rattle.r4_edit.specs.LeafParts.{IsEmptyLeaf, IsWidened}
use Rattle.r4_path.specs.Steps.{IsNameOf, name_of}

-- ---- pieces between two keys

-- a twig's pieces, parted at both keys
abbrev pub parted_twice : (from to : ℕ) → List TwigPiece → List TwigPiece
parted_twice from to ps = parted to (parted from ps)

-- what begins below the first key, what begins between them, and what begins from the second on
abbrev pub pieces_below : (from : ℕ) → List TwigPiece → List TwigPiece
pieces_below from ps = take (place from ps) ps

abbrev pub pieces_between : (from to : ℕ) → List TwigPiece → List TwigPiece
pieces_between from to ps = take (place to ps - place from ps) (drop (place from ps) ps)

abbrev pub pieces_behind : (to : ℕ) → List TwigPiece → List TwigPiece
pieces_behind to ps = drop (place to ps) ps

-- ---- what takes up the range of the pieces that go

-- A pointer to a new leaf with this number, unless nothing goes or what goes continues an extent that ends there.
abbrev pub pointer_over : (before : Option ℕ) → (id : ℕ) → List TwigPiece → List TwigPiece
pointer_over before id [] = []
pointer_over before id (p ∷ ps) =
    if is_at before (rank p.key) then [] else record { key = p.key; part = Pointer (record { 0 = id }) } ∷ []

-- A leaf directly left of what goes takes it up, and there is no new one.
abbrev pub pointer_for : Option CellSeen → (before : Option ℕ) → (id : ℕ) → List TwigPiece → List TwigPiece
pointer_for (Some leaf) before id ps = []
pointer_for None before id ps = pointer_over before id ps

-- the new pointer of a twig, of which the parted pieces are given
abbrev pub new_pointer : (from to id : ℕ) → Option CellSeen → List TwigPiece → List TwigPiece
new_pointer from to id leaf ps = pointer_for leaf (last_end None (pieces_below from ps)) id (pieces_between from to ps)

-- what such pieces become
abbrev pub pieces_without : (from to id : ℕ) → Option CellSeen → List TwigPiece → List TwigPiece
pieces_without from to id leaf ps = spliced (place from ps) (place to ps) (new_pointer from to id leaf ps) ps

abbrev pub cut_pieces : (from to id : ℕ) → Option CellSeen → CellSeen → List TwigPiece
cut_pieces from to id leaf twig = pieces_without from to id leaf (parted_twice from to (twig_pieces twig))

-- the key of the next piece, or the end of the twig's range
abbrev pub next_key : Key → List TwigPiece → Key
next_key hi [] = hi
next_key hi (p ∷ ps) = p.key

abbrev pub end_key : (from to : ℕ) → CellSeen → Key
end_key from to twig = next_key twig.hi (pieces_behind to (parted_twice from to (twig_pieces twig)))

-- The cells that come: the leaf up to a greater key; or a leaf without units for each new pointer, up to that key.
abbrev pub IsTakenUp : Option CellSeen → (pointer : List TwigPiece) → (id : ℕ) → (hi : Key) → (mkfs_id : ℕ) → List CellSeen → Type 0
IsTakenUp (Some leaf) pointer id hi mkfs_id cells = (c : CellSeen) × (cells ≡ c ∷ []) × IsWidened leaf hi c
IsTakenUp None [] id hi mkfs_id cells = cells ≡ []
IsTakenUp None (p ∷ ps) id hi mkfs_id cells = (c : CellSeen) × (cells ≡ c ∷ []) × IsEmptyLeaf id p.key hi mkfs_id c

-- how many numbers new leaves take
abbrev pub numbers_for : Option CellSeen → (pointer : List TwigPiece) → ℕ
numbers_for (Some leaf) pointer = 0
numbers_for None pointer = length pointer

-- ---- the cut

abbrev pub BeginsAt : ℕ → List TwigPiece → Type 0
BeginsAt k [] = ⊥
BeginsAt k (p ∷ ps) = rank p.key ≡ k

-- The leaf is one of the twig's, and ends where the first of the pieces begins.
pub record IsLeftLeaf (t : Store Value) (twig : CellSeen) (going : List TwigPiece) (leaf : CellSeen) : Type 0 where
  pub named : Contains (node_of twig).names (name_of leaf)
  pub stands : t leaf.id ≡ Some (node_of leaf)
  pub level_is : leaf.level ≡ 1
  pub ends : BeginsAt (rank leaf.hi) going

-- There is no such leaf.
abbrev pub HasNoLeft : CellSeen → (going : List TwigPiece) → Type 0
HasNoLeft twig going = (n : Name) → Contains (node_of twig).names n → n.level ≡ 1 → BeginsAt n.hi going → ⊥

abbrev pub IsLeftOf : Store Value → CellSeen → (going : List TwigPiece) → Option CellSeen → Type 0
IsLeftOf t twig going None = HasNoLeft twig going
IsLeftOf t twig going (Some leaf) = IsLeftLeaf t twig going leaf

-- The data blocks may be cut out of the twig: they are those that begin from the one key on and below the other, which both
-- lie at borders of blocks, and no leaf has a key between them. A leaf directly left of what goes is given.
pub record IsCutIn (t : Store Value) (r : Root) (leaf : Option CellSeen) (blocks : List CellSeen) (from to : ℕ)
    (fresh : Fresh) (twig : CellSeen) (ups : List CellSeen) : Type 0 where
  pub room : (id : ℕ) → HasRoomFor t r (cut_pieces from to id leaf twig) twig ups fresh
  pub low : rank twig.lo ≤ from
  pub some : from < to
  pub high : to ≤ rank twig.hi
  pub first_border : IsBorder from (twig_pieces twig)
  pub second_border : IsBorder to (twig_pieces twig)
  pub clear : (n : Name) → Contains (node_of twig).names n → n.level ≡ 1 → (n.hi ≤ from) ⊎ (to ≤ n.lo)
  pub goes : (n : Name) → IsNameOf blocks n ↔ (Contains (node_of twig).names n × ((n.level ≡ 0) × ((from ≤ n.lo) × (n.lo < to))))
  pub stand : (c : CellSeen) → Contains blocks c → t c.id ≡ Some (node_of c)
  pub once : HaveNames blocks
  pub left : IsLeftOf t twig (pieces_between from to (parted_twice from to (twig_pieces twig))) leaf

abbrev pub IsCutUp : Store Value → Root → Option CellSeen → (blocks : List CellSeen) → (from to : ℕ) → Fresh → List CellSeen → Type 0
IsCutUp t r leaf blocks from to fresh [] = ⊥
IsCutUp t r leaf blocks from to fresh (twig ∷ ups) = IsCutIn t r leaf blocks from to fresh twig ups

-- The numbers after those of new leaves.
abbrev pub after_leaves : (from to : ℕ) → Option CellSeen → CellSeen → Fresh → Fresh
after_leaves from to leaf twig fresh = record fresh {
  next = fresh.next + numbers_for leaf (new_pointer from to fresh.next leaf (parted_twice from to (twig_pieces twig)));
}

-- The change packs the twig with the pieces that stay, which have its units but those between the keys. The blocks go, and a
-- leaf's range takes up theirs where no extent does.
pub record CutsIn (path : List CellSeen) (leaf : Option CellSeen) (blocks : List CellSeen) (from to : ℕ)
    (before after : Fresh) (c : Change) (twig : CellSeen) : Type 0 where
  pub come : List CellSeen
  pub taken_up : IsTakenUp leaf (new_pointer from to before.next leaf (parted_twice from to (twig_pieces twig))) before.next
      (end_key from to twig) (mkfs_id_of twig.block) come
  pub grafts : GraftsBelow path (cut_pieces from to before.next leaf twig)
      (record { old = blocks ++ given_cells leaf; new = come }) (after_leaves from to leaf twig before) after c
  pub units : units_of (cut_pieces from to before.next leaf twig) ≡ cut_units from to (node_of twig).units

abbrev pub CutsUp : (path : List CellSeen) → Option CellSeen → (blocks : List CellSeen) → (from to : ℕ) → (before after : Fresh)
    → Change → List CellSeen → Type 0
CutsUp path leaf blocks from to before after c [] = ⊥
CutsUp path leaf blocks from to before after c (twig ∷ ups) = CutsIn path leaf blocks from to before after c twig

-- ---- units cut out of a path's leaf, or out of extents

-- how many of a path's cells, from the top down, stand above leaf level
abbrev pub trunk : List CellSeen → ℕ
trunk [] = 0
trunk (c ∷ cells) = if nat_le 2 c.level then 1 + trunk cells else 0

-- the leaf with which the cells behind the trunk begin, and those behind it
abbrev pub leaf_first : List CellSeen → Option CellSeen
leaf_first [] = None
leaf_first (c ∷ cells) = if c.level == 1 then Some c else None

abbrev pub rest_behind : List CellSeen → List CellSeen
rest_behind [] = []
rest_behind (c ∷ cells) = if c.level == 1 then cells else c ∷ cells

-- the leaf has the key, or begins behind it
abbrev pub is_in_range : Option CellSeen → (key : ℕ) → Bool
is_in_range None k = false
is_in_range (Some c) k = nat_lt k (rank c.hi)

-- The units may be cut out of the path's leaf, and there are numbers for all that may come.
pub record IsOutOfLeafIn (t : Store Value) (r : Root) (path : List CellSeen) (from to : Key) (fresh : Fresh) : Type 0 where
  pub cuts : IsCutOfLeafIn t r path from to fresh
  pub numbers : fresh.next + length path + extra_for (after_cut from to) path < fresh.end

-- The blocks may be cut out of the extents of a twig. Behind the path that goes down to it stand the leaf that takes up their
-- range, if one does, and the cells of the blocks that go.
pub record IsOutOfExtentsIn (t : Store Value) (r : Root) (path : List CellSeen) (from to : Key) (fresh : Fresh) : Type 0 where
  pub above : List CellSeen
  pub leaf : Option CellSeen
  pub blocks : List CellSeen
  pub is : path ≡ above ++ (given_cells leaf ++ blocks)
  pub branches : (c : CellSeen) → Contains above c → 2 ≤ c.level
  pub cuts : IsCutUp t r leaf blocks (rank from) (rank to) fresh (reverse above)

abbrev pub IsTakenOutIn : Store Value → Root → (path : List CellSeen) → (from to : Key) → Fresh → Type 0
IsTakenOutIn t r path from to fresh = IsOutOfLeafIn t r path from to fresh ⊎ IsOutOfExtentsIn t r path from to fresh
