-- What a crash leaves of a commit, in words of volumes.
use Rattle.std.proofs.Common.{◌≡◌, ◌≢◌, inl, inr, ⊎_elim, ℕ, zero, suc, List, [], length, true, refl, sym, subst, ◌∙◌}
use Rattle.r4_base.specs.Image.{Image, IsImage, put_pairs}
use Rattle.r4_base.specs.Chain.{Txn, chain_pairs, flushed}
use Rattle.r4_base.specs.Value.{Content}
use Rattle.r4_base.specs.Volume.{HasVolume, Needs}
use Rattle.r4_base.specs.declared.superblock.Super40.{Super40}
use Rattle.r4_base.specs.declared.things.AtomNo.{AtomNo}
use Rattle.r4_base.specs.declared.things.BlockNo.{BlockNo}
use Rattle.r4_base.proofs.Choices.{never_both}
use Rattle.r4_place.specs.r4_cell.Seen.{CellSeen}
use Rattle.r4_outside.specs.Device.{Goes, State, LeavesOnly}
use Rattle.r4_space.specs.Space.{Space}
use Rattle.r4_place.specs.declared.placed.Placed.{Placed}
use Rattle.r4_wander.specs.Kept.{IsNewVolumeOf, IsVolumeOf}
use Rattle.r4_wander.specs.LogPlan.{parts_of}
use Rattle.r4_wander.specs.Parts.{Parts, IsOrderOf, base_of, part}
use Rattle.r4_wander.specs.Progress.{Commits, Progress, Stands}
use Rattle.r4_wander.specs.Safe.{ByPart, IsEncoded, WithAtom, WithoutAtom}
use Rattle.r4_wander.specs.declared.plan.LogPlan.{LogPlan}
use Rattle.r4_wander.proofs.Boundary.{kept_with, kept_without, volume_with, volume_without}
use Rattle.r4_wander.proofs.Settling.{length-put_writes}
use Rattle.r4_wander.proofs.Standing.{commits_alone}
use Rattle.r4_commit.specs.Planned.{IsPlanFor}
use Rattle.r4_commit.specs.Plannable.{IsPlannable, is_spoken_for}
use Rattle.r4_commit.specs.Volumes.{BlocksByPart, HasNewVolume, VolumeByPart}
use Rattle.r4_commit.proofs.NewImage.{keeps_off}
use Rattle.r4_commit.proofs.Safety.{first_free, is_safe, is_safe_alone}

pub commits : (w : Progress) (n : ℕ) (base : Image) (s : Space) (atom : AtomNo) (cells : List CellSeen) (answers : List Placed) (next : Super40) (last : BlockNo) (p : LogPlan)
    → IsPlanFor s atom cells answers next last p → IsPlannable n base [] s cells answers next last → IsEncoded p → IsOrderOf (parts_of p) w.plan → Commits w n base [] p
commits w n base s atom cells answers next last p f h code order = commits_alone w n base p (is_safe_alone n base s atom cells answers next last p f h) code order

module _ (n : ℕ) (base : Image) (chain : List Txn) (s : Space) (atom : AtomNo) (cells : List CellSeen) (answers : List Placed) (next : Super40) (last : BlockNo) (p : LogPlan) (m : Content) (v : HasVolume n base m)
    (f : IsPlanFor s atom cells answers next last p) (h : IsPlannable n base chain s cells answers next last) (fresh : p.head.0 ≢ flushed base) (spoken : (b : ℕ) → Needs v b → is_spoken_for s b ≡ true) where
  old : (image : Image) → IsImage n image → WithoutAtom n base chain p image → HasVolume n image m
  old image whole to = volume_without n base image chain p m v (is_safe n base chain s atom cells answers next last p f h fresh)
      (λ b one needs. never_both (is_spoken_for s b) (spoken b needs) (first_free n base chain s atom cells answers next last p f h b one)) whole to

  new : (image : Image) → IsImage n image → WithAtom n base chain p image → HasNewVolume n base chain p image
  new image whole to = λ o c. volume_with n base image chain p o c (keeps_off n base chain s atom cells answers next last p f h o c) whole to

  by_part : (i : ℕ) (image : Image) → IsImage n image → ByPart n base chain p i image → VolumeByPart n base chain p m i image
  by_part zero image whole to = old image whole to
  by_part (suc zero) image whole to = ⊎_elim (λ without. inl (old image whole without)) (λ with_it. inr (new image whole with_it)) to
  by_part (suc (suc i)) image whole to = new image whole to

  -- and its blocks
  old_blocks : (image : Image) → IsImage n image → WithoutAtom n base chain p image → IsVolumeOf n image (put_pairs (chain_pairs v.chain) base) m v.content
  old_blocks image whole to = kept_without n base image chain p m v (is_safe n base chain s atom cells answers next last p f h fresh)
      (λ b one needs. never_both (is_spoken_for s b) (spoken b needs) (first_free n base chain s atom cells answers next last p f h b one)) whole to

  new_blocks : (image : Image) → IsImage n image → WithAtom n base chain p image → IsNewVolumeOf n base chain p image
  new_blocks image whole to = λ o c. kept_with n base image chain p o c (keeps_off n base chain s atom cells answers next last p f h o c) whole to

  kept_by_part : (i : ℕ) (image : Image) → IsImage n image → ByPart n base chain p i image → BlocksByPart n base chain p m v i image
  kept_by_part zero image whole to = old_blocks image whole to
  kept_by_part (suc zero) image whole to = ⊎_elim (λ without. inl (old_blocks image whole without)) (λ with_it. inr (new_blocks image whole with_it)) to
  kept_by_part (suc (suc i)) image whole to = new_blocks image whole to

pub volume_by_part : (i n : ℕ) (base image : Image) (chain : List Txn) (s : Space) (atom : AtomNo) (cells : List CellSeen) (answers : List Placed) (next : Super40) (last : BlockNo) (p : LogPlan) (m : Content) (v : HasVolume n base m)
    → IsPlanFor s atom cells answers next last p → IsPlannable n base chain s cells answers next last → p.head.0 ≢ flushed base → ((b : ℕ) → Needs v b → is_spoken_for s b ≡ true)
    → IsImage n image → ByPart n base chain p i image → VolumeByPart n base chain p m i image
volume_by_part i n base image chain s atom cells answers next last p m v f h fresh spoken whole to = by_part n base chain s atom cells answers next last p m v f h fresh spoken i image whole to

pub blocks_by_part : (i n : ℕ) (base image : Image) (chain : List Txn) (s : Space) (atom : AtomNo) (cells : List CellSeen) (answers : List Placed) (next : Super40) (last : BlockNo) (p : LogPlan) (m : Content) (v : HasVolume n base m)
    → IsPlanFor s atom cells answers next last p → IsPlannable n base chain s cells answers next last → p.head.0 ≢ flushed base → ((b : ℕ) → Needs v b → is_spoken_for s b ≡ true)
    → IsImage n image → ByPart n base chain p i image → BlocksByPart n base chain p m v i image
blocks_by_part i n base image chain s atom cells answers next last p m v f h fresh spoken whole to = kept_by_part n base chain s atom cells answers next last p m v f h fresh spoken i image whole to

length-base_of : (plan : Parts) (base : Image) (i : ℕ) → length (base_of plan base i) ≡ length base
length-base_of plan base zero = refl
length-base_of plan base (suc i) = length-put_writes (part plan i) (base_of plan base i) ∙ length-base_of plan base i

-- what a crash leaves of a step
pub step_leaves : (w : Progress) (n : ℕ) (base : Image) (chain : List Txn) (s : Space) (atom : AtomNo) (cells : List CellSeen) (answers : List Placed) (next : Super40) (last : BlockNo) (p : LogPlan) (m : Content) (v : HasVolume n base m) (before after : State)
    → IsPlanFor s atom cells answers next last p → IsPlannable n base chain s cells answers next last → ((b : ℕ) → Needs v b → is_spoken_for s b ≡ true) → Commits w n base chain p → Stands w base before → Goes before after
    → LeavesOnly before after (ByPart n base chain p w.part) → LeavesOnly before after (VolumeByPart n base chain p m w.part)
step_leaves w n base chain s atom cells answers next last p m v before after f h spoken making stands goes leaves = record {
  each = λ t image lo hi left.
      let size : after.blocks ≡ n = goes.blocks ∙ sym stands.image.blocks ∙ length-base_of w.plan base w.part ∙ h.image.blocks in
      let whole : IsImage n image = subst (λ (k : ℕ). IsImage k image) size (record { blocks = left.blocks; whole = left.whole }) in
      by_part n base chain s atom cells answers next last p m v f h making.safe.fresh spoken w.part image whole (leaves.each t image lo hi left);
}
