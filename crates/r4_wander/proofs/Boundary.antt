-- What a commit leaves, in volumes.
use Rattle.std.proofs.Common.{◌≡◌, ◌≢◌, ◌⊎◌, inl, inr, ⊎_elim, ℕ, ◌/◌, ◌%◌, List, [], ◌∷◌, refl, sym, ap, ◌∙◌, subst, arith}
use Rattle.std.specs.Prelude.{Contains}
use Rattle.r4_base.specs.Bitmap.{bitmap_block, is_used}
use Rattle.r4_base.specs.Image.{Image, IsImage, block_at, put_pairs}
use Rattle.r4_base.specs.Chain.{Txn, chain_pairs, originals, SettlesTo}
use Rattle.r4_base.specs.Value.{Content}
use Rattle.r4_base.specs.Volume.{HasContent, HasVolume, IsMadeOf, Needs}
use Rattle.r4_base.proofs.Logs.{one_log}
use Rattle.r4_base.proofs.Spare.{same_content, same_store, same_super}
use Rattle.r4_wander.specs.Torn.{IsTarget, IsTornBy}
use Rattle.r4_wander.specs.Kept.{IsVolumeOf}
use Rattle.r4_wander.specs.Parts.{Parts, part, base_of, is_log_number, IsOrderOf}
use Rattle.r4_wander.specs.declared.plan.LogPlan.{LogPlan}
use Rattle.r4_wander.specs.LogPlan.{first, parts_of, txn_of}
use Rattle.r4_wander.specs.Safe.{IsSafe, IsEncoded, with_atom, is_scratch, WithoutAtom, WithAtom}
use Rattle.r4_wander.proofs.Order.{part_target}
use Rattle.r4_wander.proofs.Encoding.{is_commit, home_other, news_are, originals_are}
use Rattle.r4_wander.proofs.Needed.{part_free, volume_over, not_made}
use Rattle.r4_wander.proofs.Ending.{any_order}

-- what settles to an image of a content, but for blocks of which the content is not made, has that content
volume_of : (n : ℕ) (W : ℕ → Type 0) (target image : Image) (m : Content) (c : HasContent n target m) → ((b : ℕ) → W b → IsMadeOf c b → ⊥) → IsImage n image → SettlesTo n W target image → HasVolume n image m
volume_of n W target image m c free whole to = record {
  whole = whole;
  chain = to.settles.chain;
  log = to.settles.has;
  content = subst (λ (i : Image). HasContent n i m) to.settles.is (same_content n target to.settled m c (λ d made. to.agrees.others d (λ w. free d w made)));
}

-- Without the atom the volume is the old one, where the old one needs no block of the first part.
pub volume_without : (n : ℕ) (base image : Image) (chain : List Txn) (p : LogPlan) (m : Content) (v : HasVolume n base m) → IsSafe n base chain p → ((b : ℕ) → IsTarget (first p) b → Needs v b → ⊥)
    → IsImage n image → WithoutAtom n base chain p image → HasVolume n image m
volume_without n base image chain p m v safe free whole to =
    let (c, needs) = volume_over n base m v chain (one_log n base v.chain chain v.log safe.log) in
    volume_of n _ _ image m c (λ b w made. ⊎_elim
    (λ target. free b target ((needs b).1 (inr (b, made, sym (home_other (chain_pairs chain) b b (safe.no_home b target))))))
    (λ number. not_made n _ m c b number made) w) whole to

-- With the atom the volume is that of the settled image with the atom's cells, where it is not made of a block of the log.
pub volume_with : (n : ℕ) (base image : Image) (chain : List Txn) (p : LogPlan) (m : Content) (c : HasContent n (with_atom base chain p) m) → ((b : ℕ) → is_scratch p b → IsMadeOf c b → ⊥)
    → IsImage n image → WithAtom n base chain p image → HasVolume n image m
volume_with n base image chain p m c free whole to = volume_of n (is_scratch p) (with_atom base chain p) image m c free whole to

-- ---- and it keeps the superblock, the cells and the marks

kept_of : (n : ℕ) (W : ℕ → Type 0) (target image : Image) (m : Content) (c : HasContent n target m) → ((b : ℕ) → W b → IsMadeOf c b → ⊥) → IsImage n image → SettlesTo n W target image → IsVolumeOf n image target m c
kept_of n W target image m c free whole to =
    let chain = to.settles.chain in
    let agree : (d : ℕ) → IsMadeOf c d → block_at (put_pairs (chain_pairs chain) image) d ≡ block_at target d =
    λ d made. ap (λ (i : Image). block_at i d) (sym to.settles.is) ∙ to.agrees.others d (λ w. free d w made) in
    record {
      volume = record { whole = whole; chain = chain; log = to.settles.has; content = same_content n target (put_pairs (chain_pairs chain) image) m c agree };
      super = same_super n target (put_pairs (chain_pairs chain) image) m c agree;
      store = same_store n target (put_pairs (chain_pairs chain) image) m c agree;
      marks = λ b lt. ap (λ (x : List ℕ). is_used x (b % 32736)) (agree (bitmap_block (b / 32736)) (inr (inr (inl (b / 32736, omega arith, refl)))));
    }

pub kept_without : (n : ℕ) (base image : Image) (chain : List Txn) (p : LogPlan) (m : Content) (v : HasVolume n base m) → IsSafe n base chain p → ((b : ℕ) → IsTarget (first p) b → Needs v b → ⊥)
    → IsImage n image → WithoutAtom n base chain p image → IsVolumeOf n image (put_pairs (chain_pairs v.chain) base) m v.content
kept_without n base image chain p m v safe free whole to =
    let same : chain ≡ v.chain = sym (one_log n base v.chain chain v.log safe.log) in
    let here : SettlesTo n (λ b. IsTarget (first p) b ⊎ is_log_number b) (put_pairs (chain_pairs v.chain) base) image =
    subst (λ (ch : List Txn). SettlesTo n (λ b. IsTarget (first p) b ⊎ is_log_number b) (put_pairs (chain_pairs ch) base) image) same to in
    let no_home : (b : ℕ) → IsTarget (first p) b → Contains (originals v.chain) b → ⊥ = subst (λ (ch : List Txn). (b : ℕ) → IsTarget (first p) b → Contains (originals ch) b → ⊥) same safe.no_home in
    kept_of n (λ b. IsTarget (first p) b ⊎ is_log_number b) (put_pairs (chain_pairs v.chain) base) image m v.content (λ b w made. ⊎_elim
    (λ target. free b target (inr (b, made, sym (home_other (chain_pairs v.chain) b b (no_home b target)))))
    (λ number. not_made n _ m v.content b number made) w) whole here

pub kept_with : (n : ℕ) (base image : Image) (chain : List Txn) (p : LogPlan) (m : Content) (c : HasContent n (with_atom base chain p) m) → ((b : ℕ) → is_scratch p b → IsMadeOf c b → ⊥)
    → IsImage n image → WithAtom n base chain p image → IsVolumeOf n image (with_atom base chain p) m c
kept_with n base image chain p m c free whole to = kept_of n (is_scratch p) (with_atom base chain p) image m c free whole to

-- No write but those of the homes falls on a block that an image needs.
pub free_of : (n i : ℕ) (base image : Image) (chain : List Txn) (p : LogPlan) (plan : Parts) (m o : Content) (v : HasVolume n base m) (u : HasVolume n image o) (b : ℕ) → IsSafe n base chain p → IsEncoded p → IsOrderOf (parts_of p) plan
    → ((k : ℕ) → IsTarget (first p) k → Needs v k → ⊥) → i ≢ 2 → IsTornBy (part plan i) (base_of plan base i) image → IsTarget (part plan i) b → Needs u b → ⊥
free_of n i base image chain p plan m o v u b safe code order free other torn target need =
    part_free n base chain (txn_of p) (parts_of p) (is_commit n base chain p safe code) m v free i image b o u other (any_order n base chain p plan safe order i image torn) (part_target (parts_of p) plan order i b target) need

-- the homes are originals of the transaction
pub home_original : (p : LogPlan) (plan : Parts) (b : ℕ) → IsOrderOf (parts_of p) plan → IsTarget (part plan 2) b → Contains (originals (txn_of p ∷ [])) b
home_original p plan b order target = subst (λ (l : List ℕ). Contains l b) (news_are p.wandered ∙ sym (originals_are p.wandered)) (part_target (parts_of p) plan order 2 b target)
