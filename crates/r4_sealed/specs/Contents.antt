-- The content of the image with the atom's cells, and what an image has of it by the part of the commit that is under
-- way (docs/durable.md).
use Rattle.std.specs.Prelude.{◌≡◌, ◌⊎◌, ℕ, zero, suc, ◌<◌, ◌≤◌, ◌^◌, Ok}
use Rattle.r4_base.specs.Image.{Image, block_at}
use Rattle.r4_base.specs.Layout.{IsLawfulSuper, master_of}
use Rattle.r4_base.specs.Tree.{Store}
use Rattle.r4_base.specs.Value.{Content, Value}
use Rattle.r4_base.specs.Volume.{HasContent, HasIds, HasObjects, root_of}
use Rattle.r4_base.specs.declared.superblock.Master.{Master}
use Rattle.r4_base.specs.declared.superblock.Super40.{Super40}
use Rattle.r4_commit.specs.r4_wander.Kept.{IsVolumeOf}
use Rattle.r4_sets_told.specs.r4_sets.Session.{IsTreeOf}
use Rattle.r4_sealed.specs.Commits.{Commit, image_before}

-- The image has the content, with this superblock and just these cells.
pub record HasContentWith (n : ℕ) (image : Image) (super : Super40) (t : Store Value) (m : Content) : Type 0 where
  pub content : HasContent n image m
  pub same_super : content.super ≡ super
  pub same_store : content.store ≡ t

-- The next superblock has the old one's number of blocks, flags and node plugin, a height of at most 8, and a next id
-- in the range of ids.
pub record RenewsSuper (old next : Super40) : Type 0 where
  pub blocks : next.block_count ≡ old.block_count
  pub flags : next.flags ≡ old.flags
  pub nodes : next.node_pid ≡ old.node_pid
  pub height : next.tree_height ≤ 8
  pub next_id : (65536 ≤ next.oid) × (next.oid < 2 ^ 60)

-- What is asked of a tree and of the superblock to come: its root pair, its next id and its number of files are those
-- of the tree, whose content is m.
pub record IsTreeFor (next : Super40) (t : Store Value) (m : Content) : Type 0 where
  pub tree : IsTreeOf t (root_of next) m
  pub objects : HasObjects m
  pub ids : HasIds next m

-- and the superblock is lawful, as the master superblock before is
pub record IsNewTree (n : ℕ) (work : Commit) (t : Store Value) (m : Content) : Type 0 where
  pub is : IsTreeFor work.next t m
  pub lawful : IsLawfulSuper n work.next
  pub master : (k : Master) × (master_of (block_at (image_before work) 16) ≡ Ok k)

-- While the first part is under way the old content, while the journal header is that or the new one, and then the new
-- one; each with its superblock, its cells and its marks.
abbrev pub HasEither :
    {n : ℕ} {old new : Image} {m0 m1 : Content} → HasContent n old m0 → HasContent n new m1 → (part : ℕ) → Image
    → Type 0
HasEither {n} {old} {new} {m0} {m1} c0 c1 zero image = IsVolumeOf n image old m0 c0
HasEither {n} {old} {new} {m0} {m1} c0 c1 (suc zero) image =
    IsVolumeOf n image old m0 c0 ⊎ IsVolumeOf n image new m1 c1
HasEither {n} {old} {new} {m0} {m1} c0 c1 (suc (suc i)) image = IsVolumeOf n image new m1 c1
