-- Leaves that go out of the way of what comes, or begin behind it (docs/volume.md, "Bodies in
-- extents"). A key is its rank.
use Rattle.std.specs.Prelude.{◌≡◌, ℕ, ◌<◌, ◌≤◌, ◌&&◌, Bool, true, false, List, [], ◌∷◌, ◌++◌}
use Rattle.std.specs.Prelude.{map, nat_le, nat_lt, Contains}
use Rattle.std.specs.Arc.{arc_value}
use Rattle.std.specs.Global.{Global}
use Rattle.std.specs.declared.sync.Arc.{Arc}
use Rattle.r4_base.specs.Key.{rank}
use Rattle.r4_base.specs.Node.{items_of}
use Rattle.r4_work.specs.r4_branch.Pieces.{next_of}
use Rattle.r4_work.specs.r4_branch.declared.piece.TwigPart.{TwigPart}
use Rattle.r4_work.specs.r4_branch.declared.piece.TwigPart.TheVariants.{Pointer, Blocks}
use Rattle.r4_work.specs.r4_branch.declared.piece.TwigPiece.{TwigPiece}
use Rattle.r4_work.specs.r4_cell.Seen.{CellSeen}
use Rattle.r4_work.specs.r4_edit.LeafParts.{IsRightPart}
use Rattle.r4_row_gather.specs.declared.clearing.Clearing.{Clearing}

-- ---- what stands in the way

abbrev pub is_pointer : TwigPart → Bool
is_pointer (Pointer to) = true
is_pointer (Blocks u) = false

-- the piece points to a leaf, and its key is one of those
abbrev pub is_in_way : (from to : ℕ) → TwigPiece → Bool
is_in_way from to p = is_pointer p.part && (nat_le from (rank p.key) && nat_lt (rank p.key) to)

-- the first of the pieces does
abbrev pub begins_in_way : (from to : ℕ) → List TwigPiece → Bool
begins_in_way from to [] = false
begins_in_way from to (p ∷ ps) = is_in_way from to p

-- ---- what becomes of pieces

-- A piece stays; or the leaf goes that it points to; or another one comes in the leaf's place,
-- which begins later.
pub data Fate : Type 0 where
  Stays : Fate
  Goes : CellSeen → Fate
  Begins : (leaf later : CellSeen) → Fate

-- the pieces that stay, each with the key with which it begins then
abbrev pub staying : List TwigPiece → List Fate → List TwigPiece
staying [] fates = []
staying (p ∷ ps) [] = []
staying (p ∷ ps) (Stays ∷ fates) = p ∷ staying ps fates
staying (p ∷ ps) (Goes c ∷ fates) = staying ps fates
staying (p ∷ ps) (Begins c d ∷ fates) = record p { key = d.lo } ∷ staying ps fates

-- the leaves that go, and those that come
abbrev pub going : List Fate → List CellSeen
going [] = []
going (Stays ∷ fates) = going fates
going (Goes c ∷ fates) = c ∷ going fates
going (Begins c d ∷ fates) = c ∷ going fates

abbrev pub coming : List Fate → List CellSeen
coming [] = []
coming (Stays ∷ fates) = coming fates
coming (Goes c ∷ fates) = coming fates
coming (Begins c d ∷ fates) = d ∷ coming fates

-- The cell is the leaf to which the piece points, up to a key.
pub record IsLeafAt (end : ℕ) (p : TwigPiece) (c : CellSeen) : Type 0 where
  pub level : c.level ≡ 1
  pub points : p.part ≡ Pointer (record { 0 = c.id })
  pub begins : rank c.lo ≡ rank p.key
  pub ends : rank c.hi ≡ end
  pub some : rank c.lo < rank c.hi

-- The second leaf is the first one from its first unit on.
pub record IsShortened (leaf later : CellSeen) : Type 0 where
  pub part : IsRightPart leaf leaf.lo leaf.id later
  pub behind : rank leaf.lo ≤ rank later.lo
  pub within : rank later.lo < rank leaf.hi

-- Leaves to which the pieces point go where they have no items, or begin later; and no leaf's range
-- becomes longer.
abbrev pub MayHave : (hi : ℕ) → List TwigPiece → List Fate → Type 0
MayHave hi [] [] = Unit {0}
MayHave hi [] (f ∷ fates) = ⊥
MayHave hi (p ∷ ps) [] = ⊥
MayHave hi (p ∷ ps) (Stays ∷ fates) =
    (is_pointer p.part ≡ true → next_of hi (staying ps fates) ≡ next_of hi ps) × MayHave hi ps fates
MayHave hi (p ∷ ps) (Goes c ∷ fates) =
    IsLeafAt (next_of hi ps) p c × (items_of c.block ≡ []) × MayHave hi ps fates
MayHave hi (p ∷ ps) (Begins c d ∷ fates) = IsLeafAt (next_of hi ps) p c × IsShortened c d
    × (next_of hi (staying ps fates) ≡ next_of hi ps) × MayHave hi ps fates

-- ---- one piece after the other

-- what contracts see of shared cells
abbrev pub cells_in : List (Arc CellSeen Global) → List CellSeen
cells_in cells = map (λ c. arc_value c) cells

-- Behind other pieces comes one that points to a leaf, from the leaf's first unit on, which is not
-- below the key; behind other leaves comes the leaf that goes for it, and the one that comes.
pub record IsBegunLater (to : ℕ) (p : TwigPiece) (leaf : CellSeen)
    (before after : Clearing) : Type 0 where
  pub later : CellSeen
  pub is : IsShortened leaf later
  pub from : to ≤ rank later.lo
  pub stay : after.pieces.items ≡ before.pieces.items ++ record p { key = later.lo } ∷ []
  pub go : cells_in after.gone.items ≡ cells_in before.gone.items ++ leaf ∷ []
  pub come : cells_in after.come.items ≡ cells_in before.come.items ++ later ∷ []

-- Behind other pieces come those of these that stay, behind other leaves those that go, and behind
-- others those that come. The first piece stays, if it does not point to a leaf that begins in the
-- range. None that stays does.
pub record AreSortedOut (cells : List CellSeen) (from to hi : ℕ) (ps : List TwigPiece)
    (before after : Clearing) : Type 0 where
  pub fates : List Fate
  pub may : MayHave hi ps fates
  pub stay : after.pieces.items ≡ before.pieces.items ++ staying ps fates
  pub go : cells_in after.gone.items ≡ cells_in before.gone.items ++ going fates
  pub come : cells_in after.come.items ≡ cells_in before.come.items ++ coming fates
  pub among : (c : CellSeen) → Contains (going fates) c → Contains cells c
  pub first : begins_in_way from to ps ≡ false → next_of hi (staying ps fates) ≡ next_of hi ps
  pub clear : (p : TwigPiece) → Contains (staying ps fates) p → is_in_way from to p ≡ false

-- Of these pieces, those that point to leaves which begin in the range go, or point to leaves that
-- begin behind it. The leaves in whose place nothing comes have no items. The first piece stays.
pub record IsCleared (cells : List CellSeen) (from to hi : ℕ) (ps : List TwigPiece)
    (x : Clearing) : Type 0 where
  pub fates : List Fate
  pub may : MayHave hi ps fates
  pub pieces : x.pieces.items ≡ staying ps fates
  pub gone : cells_in x.gone.items ≡ going fates
  pub come : cells_in x.come.items ≡ coming fates
  pub among : (c : CellSeen) → Contains (going fates) c → Contains cells c
  pub first : next_of hi (staying ps fates) ≡ next_of hi ps
  pub clear : (p : TwigPiece) → Contains (staying ps fates) p → is_in_way from to p ≡ false
