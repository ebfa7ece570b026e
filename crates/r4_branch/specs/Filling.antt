-- A twig that is filled piece by piece (docs/volume.md, "Twigs").
use Rattle.std.specs.Prelude.{nat_lt, ◌*◌, ◌^◌, ◌≡◌, ◌⊎◌, ℕ, ◌+◌, ◌-◌, ◌<◌, ◌≤◌, List, [], ◌∷◌, ◌++◌, length, take, slice_get, Some, None, Bool, true, false, ◌==◌, if◌then◌else◌, Option}
use Rattle.r4_base.specs.Cell.{names_in, next_key, units_in}
use Rattle.r4_base.specs.Key.{offset_of, rank}
use Rattle.r4_base.specs.Node.{Item, count_of, items_of, level_of, mkfs_id_of}
use Rattle.r4_base.specs.declared.key.Key.{Key}
use Rattle.r4_node40.specs.Edits.{GoesBetween}
use Rattle.r4_node40.specs.Laid.{IsLaid, IsNode, WritesBody, room_of, span_at}
use Rattle.r4_branch.specs.Items.{Lie}
use Rattle.r4_base.specs.Extents.{blocks_in, pointer_of, units_of as units_in_body}
use Rattle.r4_branch.specs.Pieces.{is_at, last_end, names_of, next_of, part_bytes, piece_end, twig_bytes, units_of}
use Rattle.r4_branch.specs.declared.piece.TwigPart.{TwigPart}
use Rattle.r4_branch.specs.declared.piece.TwigPart.TheVariants.{Pointer, Blocks}
use Rattle.r4_branch.specs.declared.piece.TwigPiece.{TwigPiece}

-- ---- where a twig's last item ends

-- where an extent ends, so that a unit may continue it
abbrev pub extent_end : Item → Option ℕ
extent_end it = if nat_lt (offset_of it.key + 4096 * blocks_in (units_in_body it.body)) (2 ^ 64) then Some (rank it.key + 4096 * blocks_in (units_in_body it.body)) else None

-- the same of any item: nothing continues a pointer
abbrev pub item_open_end : Item → Option ℕ
item_open_end it = if it.plugin == 5 then extent_end it else None

-- the same of the last of some items, or what stood before them
abbrev pub items_open_end : (before : Option ℕ) → List Item → Option ℕ
items_open_end before [] = before
items_open_end before (x ∷ xs) = items_open_end (item_open_end x) xs

-- ---- a twig with pieces

-- The twig has these pieces, from one key up to another, and so much room is left.
pub record IsFilled (lo to : ℕ) (ps : List TwigPiece) (b : List ℕ) : Type 0 where
  pub node : IsNode b
  pub level : level_of b ≡ 2
  pub lie : Lie lo to (items_of b)
  pub names : (hi : ℕ) → names_in 2 hi (items_of b) ≡ names_of hi ps
  pub units : units_in (items_of b) ≡ units_of ps
  pub first : (hi : ℕ) → next_key hi (items_of b) ≡ next_of hi ps
  pub last : items_open_end None (items_of b) ≡ last_end None ps
  pub room : room_of b + twig_bytes ps ≡ 4068

-- The piece is put behind those that the twig has.
pub record Puts (p : TwigPiece) (old new : List ℕ) : Type 0 where
  pub filled : (lo mid : ℕ) (ps : List TwigPiece) → IsFilled lo mid ps old → mid ≤ rank p.key → IsFilled lo (piece_end p) (ps ++ p ∷ []) new

-- The twig has no room for the piece.
pub record IsFullFor (p : TwigPiece) (b : List ℕ) : Type 0 where
  pub full : (lo mid : ℕ) (ps : List TwigPiece) → IsFilled lo mid ps b → 4068 < twig_bytes ps + part_bytes (last_end None ps) (rank p.key) p.part

-- The plugin and the body of an item that has this part alone.
abbrev pub Spells : TwigPart → (plugin : ℕ) → (body : List ℕ) → Type 0
Spells (Pointer to) plugin body = (plugin ≡ 3) × (length body ≡ 8) × (pointer_of body ≡ Some to.0)
Spells (Blocks u) plugin body = (plugin ≡ 5) × (length body ≡ 16) × (units_in_body body ≡ u ∷ [])

-- ---- the item that takes a piece: the last one, or one more

-- The item stands last at its place; one without a body is yet to be put in there.
pub record IsPlace (b : List ℕ) (i : ℕ) (it : Item) : Type 0 where
  pub node : IsNode b
  pub level : level_of b ≡ 2
  pub plugin : (it.plugin ≡ 3) ⊎ (it.plugin ≡ 5)
  pub new : length it.body ≡ 0 → (i ≡ count_of b) × GoesBetween (items_of b) i it.key
  pub old : 1 ≤ length it.body → (i + 1 ≡ count_of b) × (slice_get (items_of b) i ≡ Some it)

-- how many bytes an item needs where so many come behind its body
abbrev pub need : Item → ℕ → ℕ
need it more = more + (if length it.body == 0 then 38 else 0)

-- The last item has this body, and the other items are as before.
pub record Holds (old : List ℕ) (i : ℕ) (it : Item) (ws new : List ℕ) : Type 0 where
  pub node : IsNode new
  pub level : level_of new ≡ 2
  pub items : items_of new ≡ take i (items_of old) ++ (record { key = it.key; plugin = it.plugin; body = ws }) ∷ []
  pub room : room_of new + need it (length ws) ≡ room_of old + length it.body
  pub id : mkfs_id_of new ≡ mkfs_id_of old

-- The body of the last item has been made longer by so many bytes, which are to be written.
pub record Opens (old : List ℕ) (i : ℕ) (it : Item) (more : ℕ) (new : List ℕ) : Type 0 where
  pub laid : IsLaid new
  pub within : i < count_of new
  pub long : length (span_at new i i) ≡ length it.body + more
  pub keeps : take (length it.body) (span_at new i i) ≡ it.body
  pub written : (ws c : List ℕ) → length ws ≡ length it.body + more → WritesBody new ws i c → Holds old i it ws c

-- ---- where a piece goes

-- a unit at the key goes behind an extent that ends there
abbrev pub continues_item : Item → Key → (plugin : ℕ) → Bool
continues_item it key plugin = if plugin == 5 then (if it.plugin == 5 then is_at (extent_end it) (rank key) else false) else false

-- The place for a piece: at the last item, if the piece goes behind what that one has, and else behind it.
pub record IsPlaceFor (b : List ℕ) (key : Key) (plugin item used : ℕ) : Type 0 where
  pub new : used ≡ 0 → (item ≡ count_of b) × ((it : Item) → slice_get (items_of b) (count_of b - 1) ≡ Some it → continues_item it key plugin ≡ false)
  pub old : 1 ≤ used → (it : Item) × (item + 1 ≡ count_of b) × (slice_get (items_of b) item ≡ Some it) × (length it.body ≡ used) × (continues_item it key plugin ≡ true)
