-- The commit of a sealed atom, with the images before and after it (docs/durable.md).
--     Commit       what a commit is made of
--     IsCommitOn   its plan is its own, and is safe on its image
use Rattle.std.specs.Prelude.{◌≡◌, ℕ, List, Bool, Option, Some, None}
use Rattle.r4_base.specs.Chain.{Txn, chain_pairs}
use Rattle.r4_base.specs.Image.{Image, put_pairs}
use Rattle.r4_base.specs.declared.superblock.Super40.{Super40}
use Rattle.r4_base.specs.declared.things.AtomNo.{AtomNo}
use Rattle.r4_base.specs.declared.things.BlockNo.{BlockNo}
use Rattle.r4_commit.specs.r4_cell.Seen.{CellSeen}
use Rattle.r4_commit.specs.r4_space.Space.{Space, claims_of, freed_by, is_claimed, up_to}
use Rattle.r4_commit.specs.r4_place.declared.placed.Placed.{Placed}
use Rattle.r4_commit.specs.r4_wander.Safe.{ByPart, with_atom}
use Rattle.r4_commit.specs.r4_wander.declared.plan.LogPlan.{LogPlan}
use Rattle.r4_commit.specs.Places.{place_of}
use Rattle.r4_commit.specs.Plannable.{IsPlannable}
use Rattle.r4_commit.specs.Planned.{IsPlanFor}

-- A commit: the image on which it begins, with its unflushed transactions; the space then; the atom, its cells, and the
-- blocks that they get; the superblock to come; the head that the journal header names; and the plan.
pub record Commit : Type 0 where
  pub base : Image
  pub chain : List Txn
  pub space : Space
  pub atom : AtomNo
  pub cells : List CellSeen
  pub answers : List Placed
  pub next : Super40
  pub last : BlockNo
  pub plan : LogPlan

-- the plan is that of the commit
abbrev pub HasPlan : Commit → Type 0
HasPlan work = IsPlanFor work.space work.atom work.cells work.answers work.next work.last work.plan

-- and may be made on its image, of n blocks
pub record IsCommitOn (n : ℕ) (work : Commit) : Type 0 where
  pub is_for : HasPlan work
  pub plannable : IsPlannable n work.base work.chain work.space work.cells work.answers work.next work.last

-- the image as it settles before the commit, and with the atom's cells
abbrev pub image_before : Commit → Image
image_before work = put_pairs (chain_pairs work.chain) work.base

abbrev pub image_after : Commit → Image
image_after work = with_atom work.base work.chain work.plan

-- what an image settles to by the part of the commit that is under way
abbrev pub LeftInPart : ℕ → Commit → (part : ℕ) → Image → Type 0
LeftInPart n work i image = ByPart n work.base work.chain work.plan i image

-- the superblock that it writes
abbrev pub super_after : Commit → Super40
super_after work = record work.next { free_blocks = work.plan.free_blocks; flushes = work.plan.id }

-- the block that is given, or else the cell's own
abbrev pub spot_of : Option BlockNo → ℕ → ℕ
spot_of (Some b) id = b.0
spot_of None id = id

-- where a cell of the atom stands once it is committed
abbrev pub spot : List Placed → CellSeen → ℕ
spot answers x = spot_of (place_of answers x.id) x.id

-- whether the commit of an atom frees a block: it is deferred for the atom, or for one that was sealed before it
abbrev pub is_freed : Space → AtomNo → ℕ → Bool
is_freed s atom b = is_claimed (freed_by (up_to s.sealed atom) s.deferred) b

-- ---- the space when the commit settles

-- Since the plan was made no block was marked or placed, and what is deferred for the atom is what was freed then.
-- Other atoms may have deferred blocks, and the log's are held.
pub record IsLater (s later : Space) (atom : AtomNo) : Type 0 where
  pub count : later.block_count ≡ s.block_count
  pub marked : later.marked ≡ s.marked
  pub placed : later.placed ≡ s.placed
  pub freed : (b : ℕ) → is_claimed (claims_of atom later.deferred) b ≡ is_freed s atom b
