-- What an image means: the content of an image, its volume, its lost blocks, and the blocks that it needs (docs/volume.md).
use Rattle.std.specs.Prelude.{◌≡◌, ◌⊎◌, ◌↔◌, ℕ, zero, suc, ◌+◌, ◌*◌, ◌/◌, ◌^◌, ◌<◌, ◌≤◌, List, Contains, Bool, true, false, ◌&&◌, ◌==◌, ◌≢◌, slice_index, Option, Some, None, Ok, count_by}
use Rattle.std.specs.FinMap.{empty, insert, entries}
use Rattle.r4_base.specs.Image.{Image, IsImage, block_at, put_pairs}
use Rattle.r4_base.specs.Chain.{Txn, HasLog, chain_pairs, kept_blocks, home}
use Rattle.r4_base.specs.Layout.{master_of, super_of}
use Rattle.r4_base.specs.Bitmap.{is_fixed, is_marked, bitmap_fault, bitmap_count, bitmap_block}
use Rattle.r4_base.specs.Key.{rank, key_of_rank, minor_of, offset_of, stat_key, body_key, least}
use Rattle.r4_base.specs.Name.{dir_of_key}
use Rattle.r4_base.specs.Value.{Value, Stat, Entry, Byte, Content, at_key}
use Rattle.r4_base.specs.Tree.{Node, Store, Root, IsTree, UnitAt}
use Rattle.r4_base.specs.Cell.{IsCellOf}
use Rattle.r4_base.specs.declared.key.Key.{Key}
use Rattle.r4_base.specs.declared.items.Attr.{Attr}
use Rattle.r4_base.specs.declared.items.Target.{Target}
use Rattle.r4_base.specs.declared.superblock.Master.{Master}
use Rattle.r4_base.specs.declared.superblock.Super40.{Super40}
use Rattle.r4_base.specs.declared.limits.TheConstants.{GREATEST_SIZE, MASTER_BLOCK, OBJECT_END, ROOT_OBJECT, SUPER_BLOCK}

-- ---- objects. An object is named as an entry names it: by the locality, ordering and object id of its stat key

abbrev pub stat_rank : Target → ℕ
stat_rank o = rank (stat_key o.locality o.ordering o.oid)

-- the key of an object's byte at an offset
abbrev pub byte_rank : Target → (offset : ℕ) → ℕ
byte_rank o offset = rank (body_key o.locality o.ordering o.oid offset)

-- the object whose stat data or body has this key
abbrev pub object_of : Key → Target
object_of k = record { locality = slice_index k.el 0 / 16; ordering = slice_index k.el 1; oid = record { 0 = slice_index k.el 2 } }

-- a target that can be an object
abbrev pub IsObject : Target → Type 0
IsObject o = (o.locality < OBJECT_END) × (o.ordering < 2 ^ 64) × (o.oid.0 < 2 ^ 64)

-- there is an object, with these attributes
abbrev pub HasStat : Content → Target → Attr → Type 0
HasStat m o a = IsObject o × (at_key m (stat_rank o) ≡ Some (Stat a))

abbrev pub is_directory : Attr → Bool
is_directory a = a.mode / 4096 == 4

-- the root directory
abbrev pub root_object : Target
root_object = ROOT_OBJECT

-- ---- the units of a tree

-- The content has the units of the tree and no others.
abbrev pub HasUnits : Store Value → Content → Type 0
HasUnits t m = (k : ℕ) (v : Value) → (at_key m k ≡ Some v) ↔ UnitAt t k v

-- a leaf has the unit of a key, as tails do; a twig or a data block has it, as extents do
abbrev pub InTail : Store Value → ℕ → Type 0
InTail t k = (i : ℕ) × (c : Node Value) × (v : Value) × (t i ≡ Some c) × (c.level ≡ 1) × Contains c.units (k, v)

abbrev pub InExtent : Store Value → ℕ → Type 0
InExtent t k = (i : ℕ) × (c : Node Value) × (v : Value) × (t i ≡ Some c) × (c.level ≢ 1) × Contains c.units (k, v)

-- ---- files

-- how many blocks a body of so many bytes has
abbrev pub blocks_for : (size : ℕ) → ℕ
blocks_for size = (size + 4095) / 4096

-- A body in tails alone: the offsets of its keys are those below the size.
pub record HasTails (t : Store Value) (o : Target) (size : ℕ) : Type 0 where
  pub offsets : (offset : ℕ) → offset < 2 ^ 64 → InTail t (byte_rank o offset) ↔ (offset < size)
  pub no_extents : (offset : ℕ) → offset < 2 ^ 64 → InExtent t (byte_rank o offset) → ⊥

-- A body in extents alone: it covers exactly the blocks that the size needs.
pub record HasExtents (t : Store Value) (o : Target) (size : ℕ) : Type 0 where
  pub offsets : (offset : ℕ) → offset < 2 ^ 64 → InExtent t (byte_rank o offset) ↔ (offset < 4096 * blocks_for size)
  pub no_tails : (offset : ℕ) → offset < 2 ^ 64 → InTail t (byte_rank o offset) → ⊥

-- A key has the minor type of its value; a stat key has offset 0, and a body key is a file's.
abbrev pub KeyFits : Content → Key → Value → Type 0
KeyFits r k (Stat a) = (minor_of k ≡ 1) × (offset_of k ≡ 0)
KeyFits r k (Entry n o) = minor_of k ≡ 0
KeyFits r k (Byte x) = (minor_of k ≡ 4) × ((a : Attr) × HasStat r (object_of k) a × (is_directory a ≡ false))

-- What is asked of keys and of the bodies of files, which have at most 2^30 bytes. `bytes` is the size for every object.
pub record HasFiles (t : Store Value) (r : Content) : Type 0 where
  pub keys : (k : ℕ) (v : Value) → at_key r k ≡ Some v → KeyFits r (key_of_rank k) v
  pub bodies : (o : Target) (a : Attr) → HasStat r o a → is_directory a ≡ false → (a.size ≤ GREATEST_SIZE) × (HasTails t o a.size ⊎ HasExtents t o a.size)
  pub bytes : (o : Target) (a : Attr) → HasStat r o a → a.bytes ≡ a.size

-- ---- directories

abbrev pub is_stat_value : Value → Bool
is_stat_value (Stat a) = true
is_stat_value (Entry n o) = false
is_stat_value (Byte x) = false

-- whether a unit is an entry of the directory of this id
abbrev pub is_entry_in : (dir : ℕ) → ℕ × Value → Bool
is_entry_in dir (k, Stat a) = false
is_entry_in dir (k, Entry n o) = dir_of_key (key_of_rank k) == dir
is_entry_in dir (k, Byte x) = false

-- whether a value is an entry that names this object
abbrev pub names_object : Target → Value → Bool
names_object o (Stat a) = false
names_object o (Entry n p) = p.locality == o.locality && p.ordering == o.ordering && p.oid.0 == o.oid.0
names_object o (Byte x) = false

-- whether a value is the stat data of a directory
abbrev pub is_directory_value : Option Value → Bool
is_directory_value None = false
is_directory_value (Some (Stat a)) = is_directory a
is_directory_value (Some (Entry n o)) = false
is_directory_value (Some (Byte x)) = false

-- whether a value is an entry that names a directory
abbrev pub names_directory : Content → Value → Bool
names_directory m (Stat a) = false
names_directory m (Entry n o) = is_directory_value (at_key m (stat_rank o))
names_directory m (Byte x) = false

-- how many entries a directory has, and how many of them name directories
abbrev pub entries_in : Content → Target → ℕ
entries_in m o = count_by (is_entry_in o.oid.0) (entries m)

abbrev pub directories_in : Content → Target → ℕ
directories_in m o = count_by (λ u. is_entry_in o.oid.0 u && names_directory m u.1) (entries m)

-- how many entries name an object
abbrev pub links_to : Content → Target → ℕ
links_to m o = count_by (λ u. names_object o u.1) (entries m)

-- how many objects there are
abbrev pub objects_in : Content → ℕ
objects_in m = count_by (λ u. is_stat_value u.1) (entries m)

-- an entry of the directory p names o
abbrev pub HasEntry : Content → (p o : Target) → Type 0
HasEntry m p o = (k : ℕ) × (n : List ℕ) × (at_key m k ≡ Some (Entry n o)) × (dir_of_key (key_of_rank k) ≡ p.oid.0)

-- the object is reached from the root by so many entries
abbrev pub IsReached : Content → (steps : ℕ) → Target → Type 0
IsReached m zero o = o ≡ root_object
IsReached m (suc steps) o = (p : Target) × IsReached m steps p × HasEntry m p o

-- What is asked of objects, directories and entries.
pub record HasObjects (r : Content) : Type 0 where
  -- the root is there and is a directory, which no entry names
  pub root : (a : Attr) × HasStat r root_object a × (is_directory a ≡ true)
  pub root_unnamed : links_to r root_object ≡ 0
  -- every other directory is named by one entry
  pub named_once : (o : Target) (a : Attr) → HasStat r o a → is_directory a ≡ true → o ≢ root_object → links_to r o ≡ 1
  -- a directory's size is the number of its entries, and its nlink 2 plus its directories
  pub directories : (o : Target) (a : Attr) → HasStat r o a → is_directory a ≡ true → (a.size ≡ entries_in r o) × (a.nlink ≡ 2 + directories_in r o)
  -- a file's nlink is the number of entries that name it
  pub files : (o : Target) (a : Attr) → HasStat r o a → is_directory a ≡ false → a.nlink ≡ links_to r o
  -- an entry stands in a directory and names an object
  pub holder : (k : ℕ) (n : List ℕ) (o : Target) → at_key r k ≡ Some (Entry n o)
      → (p : Target) × (a : Attr) × HasStat r p a × (is_directory a ≡ true) × (dir_of_key (key_of_rank k) ≡ p.oid.0)
  pub target : (k : ℕ) (n : List ℕ) (o : Target) → at_key r k ≡ Some (Entry n o) → (a : Attr) × HasStat r o a
  pub one_id : (o p : Target) (a b : Attr) → HasStat r o a → HasStat r p b → o.oid ≡ p.oid → o ≡ p
  pub reached : (o : Target) (a : Attr) → HasStat r o a → (steps : ℕ) × IsReached r steps o

-- Object ids are from 42 to below the superblock's, and its file count is the number of objects.
pub record HasIds (super : Super40) (r : Content) : Type 0 where
  pub ids : (o : Target) (a : Attr) → HasStat r o a → (42 ≤ o.oid.0) × (o.oid.0 < super.oid)
  pub count : super.file_count ≡ objects_in r

-- ---- the content of an image

-- the byte at a key is past its file's size
abbrev pub IsPadding : Content → Key → Value → Type 0
IsPadding r k (Stat a) = ⊥
IsPadding r k (Entry n o) = ⊥
IsPadding r k (Byte x) = (a : Attr) × HasStat r (object_of k) a × (a.size ≤ offset_of k)

-- The units without the bytes at or past their file's size.
abbrev pub IsVisible : (raw m : Content) → Type 0
IsVisible raw m = (k : ℕ) (v : Value) → (at_key m k ≡ Some v) ↔ ((at_key raw k ≡ Some v) × (IsPadding raw (key_of_rank k) v → ⊥))

-- The superblocks and the bitmaps of an image on a device of n blocks are not refused.
pub record HasLayout (n : ℕ) (image : Image) (super : Super40) : Type 0 where
  pub master : (m : Master) × (master_of (block_at image MASTER_BLOCK.0) ≡ Ok m)
  pub format : super_of n (block_at image SUPER_BLOCK.0) ≡ Ok super
  pub bitmaps : bitmap_fault super.block_count super.free_blocks image ≡ None

-- A block of the volume that is not fixed, and marked as used.
abbrev pub IsPlace : (block_count : ℕ) → Image → ℕ → Type 0
IsPlace block_count image b = (b < block_count) × (is_fixed block_count b ≡ false) × (is_marked image b ≡ true)

abbrev pub root_of : Super40 → Root
root_of super = record { id = super.root_block; height = super.tree_height }

-- The content of a settled image, on a device of n blocks. There is one exactly where all of these hold.
pub record HasContent (n : ℕ) (image : Image) (m : Content) : Type 0 where
  -- 1. superblocks and bitmaps are not refused
  pub super : Super40
  pub layout : HasLayout n image super
  -- 2. each reached block is accepted at the level and the range at which it is reached
  pub store : Store Value
  pub cells : (i : ℕ) (c : Node Value) → store i ≡ Some c → IsCellOf super.block_count (block_at image i) c
  -- 3. they are a tree: keys rise, and ranges are divided from the root's down
  pub tree : IsTree store (root_of super)
  -- 4. no block is reached twice, and each is one that a volume may use and does
  pub places : (i : ℕ) (c : Node Value) → store i ≡ Some c → IsPlace super.block_count image i
  -- 5. files, directories, object ids
  pub raw : Content
  pub units : HasUnits store raw
  pub files : HasFiles store raw
  pub objects : HasObjects raw
  pub ids : HasIds super raw
  -- the content is what is visible
  pub visible : IsVisible raw m

-- The volume of an image of n blocks is the content of its settled image.
pub record HasVolume (n : ℕ) (image : Image) (m : Content) : Type 0 where
  pub whole : IsImage n image
  pub chain : List Txn
  pub log : HasLog n image chain
  pub content : HasContent n (put_pairs (chain_pairs chain) image) m

-- ---- lost blocks, and the blocks that a volume needs

-- A block that the bitmaps mark, and that is neither fixed nor reached.
abbrev pub IsLost : {n : ℕ} {image : Image} {m : Content} → HasContent n image m → ℕ → Type 0
IsLost {n} {image} {m} c b = (b < c.super.block_count) × (is_marked image b ≡ true) × (is_fixed c.super.block_count b ≡ false) × (c.store b ≡ None)

-- a block of which a content is made: a superblock, a bitmap, a cell
abbrev pub IsMadeOf : {n : ℕ} {image : Image} {m : Content} → HasContent n image m → ℕ → Type 0
IsMadeOf {n} {image} {m} c b = (b ≡ MASTER_BLOCK.0) ⊎ (b ≡ SUPER_BLOCK.0) ⊎ ((k : ℕ) × (k < bitmap_count c.super.block_count) × (b ≡ bitmap_block k)) ⊎ ((d : Node Value) × (c.store b ≡ Some d))

-- The log needs its heads, records and wandered blocks; the tree needs each block from which the settled image takes a block that its content
-- is made of. Blocks 19 and 20, which say where the log is, are needed by neither.
abbrev pub Needs : {n : ℕ} {image : Image} {m : Content} → HasVolume n image m → ℕ → Type 0
Needs {n} {image} {m} v b = Contains (kept_blocks v.chain) b ⊎ ((d : ℕ) × IsMadeOf v.content d × (b ≡ home (chain_pairs v.chain) d))

-- ---- the empty volume: the root directory alone

abbrev pub root_attr : Attr
root_attr = record { mode = 0o40755; nlink = 2; size = 0; uid = 0; gid = 0; atime = 0; mtime = 0; ctime = 0; bytes = 0 }

unfoldable pub empty_volume : Content
empty_volume = insert empty least (Stat root_attr)
