-- A fresh volume: the root directory alone (docs/volume.md, "A fresh volume").
use Rattle.std.specs.Prelude.{◌≡◌, ℕ, ◌+◌, ◌-◌, ◌*◌, ◌<◌, ◌≤◌, List, [], ◌∷◌, replicate, slice_index, take, Bool, ◌||◌, ◌==◌, None}
use Rattle.r4_base.specs.Bytes.{number_bytes}
use Rattle.r4_base.specs.Image.{Image, IsImage, block_at}
use Rattle.r4_base.specs.Layout.{master_block, super_block}
use Rattle.r4_base.specs.Bitmap.{is_used, is_always_used, bitmap_count, bitmap_block}
use Rattle.r4_base.specs.Key.{stat_key}
use Rattle.r4_base.specs.Node.{flags_of, flush_id_of, header, item_flags_at, items_of, level_of, mkfs_id_of, node_fault, pad_of, start_of}
use Rattle.r4_base.specs.Stat.{stat_body}
use Rattle.r4_base.specs.Volume.{root_attr, root_object}
use Rattle.r4_base.specs.declared.key.Key.{Key}
use Rattle.r4_base.specs.declared.superblock.Super40.{Super40}
use Rattle.r4_base.specs.declared.limits.TheConstants.{BITMAP_BITS, FIRST_OBJECT, FOOTER_BLOCK, FRESH_LEAF, FRESH_TWIG, HEADER_BLOCK, LEAF, MASTER_BLOCK, STATUS_BLOCK, SUPER_BLOCK, TWIG}
use Rattle.r4_base.specs.declared.plugin.TheConstants.{POINTER, STAT}

-- besides the fixed blocks the two nodes: the root, a twig, and its one leaf
abbrev pub is_taken : (block_count b : ℕ) → Bool
is_taken block_count b = is_always_used block_count b || b == FRESH_TWIG.0 || b == FRESH_LEAF.0

-- the blocks but for the fixed ones and those two
abbrev pub fresh_free : (block_count : ℕ) → ℕ
fresh_free block_count = block_count - (23 + bitmap_count block_count)

abbrev pub fresh_super : (block_count : ℕ) → Super40
fresh_super n = record { block_count = n; free_blocks = fresh_free n; root_block = FRESH_TWIG.0; oid = FIRST_OBJECT; file_count = 1; flushes = 0; mkfs_id = 1; tree_height = 2; formatting_policy = 0; flags = 1; version = 0; node_pid = 0 }

-- the key of the root's stat data, the least of all
abbrev pub root_key : Key
root_key = stat_key root_object.locality root_object.ordering root_object.oid

-- The block is a node of a level with one item, which has the least key.
pub record HasOneItem (b : List ℕ) (level plugin : ℕ) (body : List ℕ) : Type 0 where
  pub sound : node_fault b ≡ None
  pub level_is : level_of b ≡ level
  pub items : items_of b ≡ record { key = root_key; plugin = plugin; body = body } ∷ []

-- Such a node as it is first written: all that it does not need for its item is zero, but for the mkfs_id, which is 1.
pub record IsFreshNode (b : List ℕ) (level plugin : ℕ) (body : List ℕ) : Type 0 where
  pub item : HasOneItem b level plugin body
  pub mkfs_id : mkfs_id_of b ≡ 1
  pub flush_id : flush_id_of b ≡ 0
  pub flags : flags_of b ≡ 0
  pub pad : pad_of b ≡ 0
  pub item_flags : item_flags_at b 0 ≡ 0
  pub free : (p : ℕ) → start_of b ≤ p → p < header 0 → slice_index b p ≡ 0

-- The image of n blocks is a fresh volume, all but its master superblock, which has the label.
pub record IsFreshBut16 (n : ℕ) (image : Image) : Type 0 where
  pub whole : IsImage n image
  pub super : block_at image SUPER_BLOCK.0 ≡ super_block (fresh_super n)
  pub bitmaps : (k i : ℕ) → k < bitmap_count n → i < BITMAP_BITS → is_used (block_at image (bitmap_block k)) i ≡ is_taken n (k * BITMAP_BITS + i)
  pub fronts : (k : ℕ) → k < bitmap_count n → take 4 (block_at image (bitmap_block k)) ≡ replicate 4 0
  pub header : block_at image HEADER_BLOCK.0 ≡ replicate 4096 0
  pub footer : block_at image FOOTER_BLOCK.0 ≡ replicate 4096 0
  pub status : block_at image STATUS_BLOCK.0 ≡ replicate 4096 0
  pub twig : IsFreshNode (block_at image FRESH_TWIG.0) TWIG POINTER (number_bytes 8 FRESH_LEAF.0)
  pub leaf : IsFreshNode (block_at image FRESH_LEAF.0) LEAF STAT (stat_body root_attr)

-- The image is a fresh volume of this label.
pub record IsFreshImage (n : ℕ) (label : List ℕ) (image : Image) : Type 0 where
  pub rest : IsFreshBut16 n image
  pub master : block_at image MASTER_BLOCK.0 ≡ master_block (record { label = label })
