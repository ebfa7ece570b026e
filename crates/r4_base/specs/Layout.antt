-- What the two superblocks spell, and why they are refused (docs/layout.md, "Superblocks").
use Rattle.std.specs.Prelude.{◌≡◌, ℕ, ◌^◌, ◌<◌, ◌≤◌, List, [], ◌∷◌, ◌++◌, codes, drop, replicate, slice_range, Bool, false, not, ◌&&◌, Result, Ok, Err, nat_eq, nat_lt, nat_le, ◌==◌, if◌then◌else◌}
use Rattle.std.specs.List.{starts_with}
use Rattle.r4_base.specs.Bytes.{number_at, fields_bytes}
use Rattle.r4_base.specs.Bitmap.{is_fixed}
use Rattle.r4_base.specs.declared.superblock.Master.{Master}
use Rattle.r4_base.specs.declared.superblock.Super40.{Super40}
use Rattle.r4_base.specs.declared.superblock.LayoutFault.{LayoutFault}
use Rattle.r4_base.specs.declared.superblock.LayoutFault.TheVariants.{Magic, BlockSize, Profile, Height, Count}
use Rattle.r4_base.specs.declared.limits.TheConstants.{FIRST_OBJECT, FIRST_PLACE, LEAST_BLOCKS, MOST_BLOCKS, MOST_LEVELS, OBJECT_END, TWIG}

-- whether these bytes stand in a block from a place on
abbrev pub stands_at : ℕ → List ℕ → List ℕ → Bool
stands_at at word b = starts_with nat_eq (drop at b) word

-- ---- the master superblock, block 16: its magic, the plugin id, the block size, uuid, label and diskmap

abbrev pub master_magic : List ℕ
master_magic = codes "ReIsEr4" ++ replicate 9 0

-- the magic, and the disk plugin id 0
abbrev pub master_magic_is_good : List ℕ → Bool
master_magic_is_good b = stands_at 0 master_magic b && number_at 2 16 b == 0

abbrev pub block_size_is_good : List ℕ → Bool
block_size_is_good b = number_at 2 18 b == 4096

-- the master superblock that a block spells, or its first fault
unfoldable pub master_of : List ℕ → Result Master LayoutFault
master_of b =
    if not (master_magic_is_good b) then Err Magic else
    if not (block_size_is_good b) then Err BlockSize else
    Ok (record { label = slice_range b 36 52 })

-- the block that spells a master superblock: plugin id 0, block size 4096, uuid and diskmap zero
unfoldable pub master_block : Master → List ℕ
master_block m = master_magic ++ (fields_bytes ((2, 0) ∷ (2, 4096) ∷ []) ++ (replicate 16 0 ++ (m.label ++ replicate 4044 0)))

-- ---- the format superblock, block 17

abbrev pub super_magic : List ℕ
super_magic = codes "ReIsEr40FoRmAt" ++ replicate 2 0

-- the mark of the volumes that r4 writes
abbrev pub profile_mark : List ℕ
profile_mark = codes "R4PROF01"

-- the fields of a block, whatever they are
unfoldable pub super_fields : List ℕ → Super40
super_fields b = record { block_count = number_at 8 0 b; free_blocks = number_at 8 8 b; root_block = number_at 8 16 b; oid = number_at 8 24 b; file_count = number_at 8 32 b; flushes = number_at 8 40 b; mkfs_id = number_at 4 48 b; tree_height = number_at 2 68 b; formatting_policy = number_at 2 70 b; flags = number_at 8 72 b; version = number_at 4 80 b; node_pid = number_at 4 84 b }

abbrev pub magic_is_good : List ℕ → Bool
magic_is_good b = stands_at 52 super_magic b

-- the mark, large keys and no other flag, and nodes of plugin 0
abbrev pub profile_is_good : List ℕ → Super40 → Bool
profile_is_good b s = stands_at 88 profile_mark b && s.flags == 1 && s.node_pid == 0

abbrev pub height_is_good : Super40 → Bool
height_is_good s = nat_le TWIG s.tree_height && nat_le s.tree_height MOST_LEVELS

-- 64 to 1,048,576 blocks, as far as the device has them
abbrev pub block_count_is_good : (device_blocks : ℕ) → Super40 → Bool
block_count_is_good device_blocks s = nat_le LEAST_BLOCKS s.block_count && nat_le s.block_count MOST_BLOCKS && nat_le s.block_count device_blocks

-- the root is a block of the volume that is not fixed
abbrev pub root_is_good : Super40 → Bool
root_is_good s = nat_le FIRST_PLACE s.root_block && nat_lt s.root_block s.block_count && not (is_fixed s.block_count s.root_block)

abbrev pub oid_is_good : Super40 → Bool
oid_is_good s = nat_le FIRST_OBJECT s.oid && nat_lt s.oid OBJECT_END

abbrev pub counts_are_good : (device_blocks : ℕ) → Super40 → Bool
counts_are_good device_blocks s = block_count_is_good device_blocks s && root_is_good s && oid_is_good s

-- the format superblock that a block spells, or its first fault, on a device of so many blocks
unfoldable pub super_of : (device_blocks : ℕ) → List ℕ → Result Super40 LayoutFault
super_of device_blocks b =
    if not (magic_is_good b) then Err Magic else
    if not (profile_is_good b (super_fields b)) then Err Profile else
    if not (height_is_good (super_fields b)) then Err Height else
    if not (counts_are_good device_blocks (super_fields b)) then Err Count else
    Ok (super_fields b)

-- The fields of a superblock that is not refused on a device of so many blocks.
pub record IsLawfulSuper (device_blocks : ℕ) (s : Super40) : Type 0 where
  pub large_keys : s.flags ≡ 1
  pub nodes : s.node_pid ≡ 0
  pub height : (TWIG ≤ s.tree_height) × (s.tree_height ≤ MOST_LEVELS)
  pub blocks : (LEAST_BLOCKS ≤ s.block_count) × (s.block_count ≤ MOST_BLOCKS) × (s.block_count ≤ device_blocks)
  pub root : (FIRST_PLACE ≤ s.root_block) × (s.root_block < s.block_count)
  pub root_not_fixed : is_fixed s.block_count s.root_block ≡ false
  pub next_id : (FIRST_OBJECT ≤ s.oid) × (s.oid < OBJECT_END)

-- the fields before the magic, and those between the magic and the mark, each with its width
abbrev pub fields_before_magic : Super40 → List (ℕ × ℕ)
fields_before_magic s = (8, s.block_count) ∷ (8, s.free_blocks) ∷ (8, s.root_block) ∷ (8, s.oid) ∷ (8, s.file_count) ∷ (8, s.flushes) ∷ (4, s.mkfs_id) ∷ []

abbrev pub fields_behind_magic : Super40 → List (ℕ × ℕ)
fields_behind_magic s = (2, s.tree_height) ∷ (2, s.formatting_policy) ∷ (8, s.flags) ∷ (4, s.version) ∷ (4, s.node_pid) ∷ []

-- the block that spells a format superblock: all past the mark is zero
unfoldable pub super_block : Super40 → List ℕ
super_block s = fields_bytes (fields_before_magic s) ++ (super_magic ++ (fields_bytes (fields_behind_magic s) ++ (profile_mark ++ replicate 4000 0)))
