-- The plan of an atom's commit (docs/commit.md, "Plans").
use Rattle.std.specs.Prelude.{◌≡◌, ◌≢◌, ℕ, ◌+◌, ◌*◌, ◌/◌, ◌%◌, ◌^◌, ◌<◌, List, [], ◌∷◌, ◌++◌, length, map, take, replicate, slice_index_or, All, false}
use Rattle.r4_base.specs.Image.{AreDifferent}
use Rattle.r4_base.specs.Bitmap.{bitmap_block, bitmap_count, is_fixed, is_used}
use Rattle.r4_base.specs.Layout.{super_block, super_fields}
use Rattle.r4_base.specs.declared.superblock.Super40.{Super40}
use Rattle.r4_base.specs.declared.things.AtomNo.{AtomNo}
use Rattle.r4_base.specs.declared.things.BlockNo.{BlockNo}
use Rattle.r4_place.specs.r4_cell.Seen.{CellSeen}
use Rattle.r4_space.specs.Accounts.{with_atom}
use Rattle.r4_space.specs.Bitmaps.{free_bits}
use Rattle.r4_space.specs.Space.{Space, is_marked_by, is_taken}
use Rattle.r4_place.specs.declared.placed.Placed.{Placed}
use Rattle.r4_wander.specs.Torn.{Write}
use Rattle.r4_wander.specs.Parts.{IsOrderOf}
use Rattle.r4_wander.specs.LogPlan.{IsBelow, news, parts_of}
use Rattle.r4_wander.specs.Progress.{Progress}
use Rattle.r4_wander.specs.Safe.{IsEncoded}
use Rattle.r4_wander.specs.declared.plan.LogPlan.{LogPlan}
use Rattle.r4_commit.specs.Places.{overwritten, place_of, placed_cells}

-- ---- the bitmaps and the superblock that a commit writes

-- Bitmap n as an atom's commit leaves it: a bit is 1 where its block is marked then, and the four bytes in front are 0.
pub record IsNewBitmap (s : Space) (atom : AtomNo) (n : ℕ) (block : List ℕ) : Type 0 where
  pub bits : (i : ℕ) → i < 32736 → is_used block i ≡ is_marked_by s atom (n * 32736 + i)
  pub front : take 4 block ≡ replicate 4 0

-- All bitmaps of the volume, in order.
pub record AreNewBitmaps (s : Space) (atom : AtomNo) (bitmaps : List (List ℕ)) : Type 0 where
  pub count : length bitmaps ≡ bitmap_count s.block_count
  pub each : (n : ℕ) → n < bitmap_count s.block_count → IsNewBitmap s atom n (slice_index_or bitmaps n [])

-- flushes is one more, modulo 2^64, and free_blocks is the number of 0 bits in the new bitmaps
abbrev pub new_super : Super40 → List (List ℕ) → Super40
new_super next bitmaps = record next { free_blocks = free_bits bitmaps; flushes = (next.flushes + 1) % 2 ^ 64 }

-- ---- what is overwritten

-- bitmaps, the first of which is bitmap n, each at its block
abbrev pub bitmap_writes : ℕ → List (List ℕ) → List Write
bitmap_writes n [] = []
bitmap_writes n (block ∷ rest) = (bitmap_block n, block) ∷ bitmap_writes (n + 1) rest

-- the superblock, all bitmaps, changed or not, and the cells that keep their blocks
abbrev pub new_homes : Super40 → List (List ℕ) → List CellSeen → List Write
new_homes super bitmaps cells = (17, super_block super) ∷ (bitmap_writes 0 bitmaps ++ map (λ c. (c.id, c.block)) cells)

-- ---- the blocks of the log

-- those of the copies, of the records and of the head
abbrev pub blocks_of : LogPlan → List ℕ
blocks_of p = map (λ w. w.copy) p.wandered ++ (p.records ++ p.head.0 ∷ [])

-- a block of the volume that is not fixed, and unused
abbrev pub IsUnused : Space → ℕ → Type 0
IsUnused s b = (b < s.block_count) × (is_taken s b ≡ false) × (is_fixed s.block_count b ≡ false)

-- the space with these blocks held for an atom
abbrev pub with_all_held : Space → AtomNo → List ℕ → Space
with_all_held s atom blocks = record s { held = s.held ++ map (λ b. record { atom = atom; block = record { 0 = b } }) blocks; atoms = with_atom s.atoms s.sealed atom }

-- ---- the plan

-- What an atom's commit writes, where the answers say which cells get which blocks, `next` has the new root, height, next
-- object id and number of files, and `last` is the head that the journal header names.
pub record IsPlanFor (s : Space) (atom : AtomNo) (cells : List CellSeen) (answers : List Placed) (next : Super40) (last : BlockNo) (p : LogPlan) : Type 0 where
  -- the cells that get a block, each at it
  pub placed : p.placed ≡ placed_cells (place_of answers) cells
  -- the superblock, each bitmap and each overwritten cell, each with a copy
  pub bitmaps : List (List ℕ)
  pub are_new : AreNewBitmaps s atom bitmaps
  pub homes : news p ≡ new_homes (new_super next bitmaps) bitmaps (overwritten (place_of answers) cells)
  -- the superblock reads back, and its numbers are the transaction's
  pub reads : super_fields (super_block (new_super next bitmaps)) ≡ new_super next bitmaps
  pub id : p.id ≡ (next.flushes + 1) % 2 ^ 64
  pub free_blocks : p.free_blocks ≡ free_bits bitmaps
  pub nr_files : p.nr_files ≡ next.file_count
  pub next_oid : p.next_oid ≡ next.oid
  pub prev : p.prev ≡ last
  -- a record for each 254 copies or part of them
  pub records : length p.records ≡ (length p.wandered + 253) / 254
  -- the log's blocks are different and were unused, and the head's is not the last head's
  pub different : AreDifferent (blocks_of p)
  pub unused : All (IsUnused s) (blocks_of p)
  pub head : p.head ≢ last

-- What contracts see of a commit under way: how far its writer is, the head that the journal header names from the commit
-- on, and the superblock that it writes.
pub record CommitSeen : Type 0 where
  pub work : Progress
  pub head : BlockNo
  pub super40 : Super40

-- A commit at its beginning: the plan, which it writes in order and which reads back, and the space with its blocks held,
-- with the room that it had. It tells the plan's head, and `next` with the plan's two numbers.
pub record IsPlanned (old new : Space) (atom : AtomNo) (cells : List CellSeen) (answers : List Placed) (next : Super40) (last : BlockNo) (c : CommitSeen) : Type 0 where
  pub plan : LogPlan
  pub is_for : IsPlanFor old atom cells answers next last plan
  pub below : IsBelow old.block_count plan
  pub held : new ≡ with_all_held old atom (blocks_of plan)
  pub order : IsOrderOf (parts_of plan) c.work.plan
  pub encoded : IsEncoded plan
  pub part : c.work.part ≡ 0
  pub done : c.work.done ≡ 0
  pub head : c.head ≡ plan.head
  pub super40 : c.super40 ≡ record next { free_blocks = plan.free_blocks; flushes = plan.id }
