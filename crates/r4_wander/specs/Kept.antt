-- Which blocks a commit keeps (docs/commit.md, "Crashes").
use Rattle.std.specs.Prelude.{◌≡◌, ℕ, ◌<◌, List}
use Rattle.r4_base.specs.Image.{Image, put_pairs}
use Rattle.r4_base.specs.Bitmap.{is_marked}
use Rattle.r4_base.specs.Chain.{Txn, chain_pairs}
use Rattle.r4_base.specs.Value.{Content}
use Rattle.r4_base.specs.Volume.{HasContent, HasVolume}
use Rattle.r4_wander.specs.Safe.{with_atom}
use Rattle.r4_wander.specs.declared.plan.LogPlan.{LogPlan}

-- The image has a volume of this content, with its superblock, its cells and its marks. So its next object id is the same,
-- and so are its lost blocks.
pub record IsVolumeOf (n : ℕ) (image settled : Image) (m : Content) (c : HasContent n settled m) : Type 0 where
  pub volume : HasVolume n image m
  pub super : volume.content.super ≡ c.super
  pub store : volume.content.store ≡ c.store
  pub marks : (b : ℕ) → b < c.super.block_count
      → is_marked (put_pairs (chain_pairs volume.chain) image) b ≡ is_marked settled b

-- It is that of each content that the settled image has with the atom's cells.
abbrev pub IsNewVolumeOf : ℕ → Image → List Txn → LogPlan → Image → Type 0
IsNewVolumeOf n base chain p image =
    (m : Content) (c : HasContent n (with_atom base chain p) m) → IsVolumeOf n image (with_atom base chain p) m c
