-- The volume that an image has by the part of a commit that is under way (docs/commit.md, "Plans").
use Rattle.std.specs.Prelude.{◌⊎◌, ℕ, zero, suc, List}
use Rattle.r4_base.specs.Image.{Image, put_pairs}
use Rattle.r4_base.specs.Chain.{Txn, chain_pairs}
use Rattle.r4_base.specs.Value.{Content}
use Rattle.r4_base.specs.Volume.{HasContent, HasVolume}
use Rattle.r4_wander.specs.Kept.{IsNewVolumeOf, IsVolumeOf}
use Rattle.r4_wander.specs.Safe.{with_atom}
use Rattle.r4_wander.specs.declared.plan.LogPlan.{LogPlan}

-- The image has the volume that the settled image has with the atom's cells.
abbrev pub HasNewVolume : ℕ → Image → List Txn → LogPlan → Image → Type 0
HasNewVolume n base chain p image = (m : Content) → HasContent n (with_atom base chain p) m → HasVolume n image m

-- While the first part is under way the old volume m, while the journal header is that or the new one, and then the new one.
abbrev pub VolumeByPart : ℕ → Image → List Txn → LogPlan → Content → ℕ → Image → Type 0
VolumeByPart n base chain p m zero image = HasVolume n image m
VolumeByPart n base chain p m (suc zero) image = HasVolume n image m ⊎ HasNewVolume n base chain p image
VolumeByPart n base chain p m (suc (suc i)) image = HasNewVolume n base chain p image

-- The same, with the superblock, the cells and the marks of the old volume or of the new one.
abbrev pub BlocksByPart : (n : ℕ) (base : Image) → List Txn → LogPlan → (m : Content) → HasVolume n base m → ℕ → Image → Type 0
BlocksByPart n base chain p m v zero image = IsVolumeOf n image (put_pairs (chain_pairs v.chain) base) m v.content
BlocksByPart n base chain p m v (suc zero) image =
    IsVolumeOf n image (put_pairs (chain_pairs v.chain) base) m v.content ⊎ IsNewVolumeOf n base chain p image
BlocksByPart n base chain p m v (suc (suc i)) image = IsNewVolumeOf n base chain p image
