-- Images in which nothing is unflushed.
use Rattle.std.proofs.Common.{◌≡◌, ℕ, ◌<◌, false, List, [], sym, ap, ◌∙◌, subst}
use Rattle.std.specs.Prelude.{◌↔◌, None}
use Rattle.r4_base.specs.Image.{Image, put_pairs}
use Rattle.r4_base.specs.Bitmap.{is_fixed, is_marked}
use Rattle.r4_base.specs.Chain.{HasLog, Txn, chain_pairs}
use Rattle.r4_base.specs.Value.{Content}
use Rattle.r4_base.specs.Volume.{HasContent, IsLost}
use Rattle.r4_base.specs.declared.superblock.Super40.{Super40}
use Rattle.r4_base.proofs.Logs.{one_log}
use Rattle.r4_commit.specs.r4_space.Space.{Space}
use Rattle.r4_commit.specs.r4_wander.Kept.{IsVolumeOf}
use Rattle.r4_sealed.specs.Contents.{HasContentWith}
use Rattle.r4_sealed.specs.Written.{IsSpaceOf}

-- the settled image has the content, and marks what the other one does
module _ (n : ℕ) (target image : Image) (m : Content) (c : HasContent n target m) where
  pub record Rests (chain : List Txn) : Type 0 where
    pub has : HasContentWith n (put_pairs (chain_pairs chain) image) c.super c.store m
    pub marks : (b : ℕ) → b < c.super.block_count
        → is_marked (put_pairs (chain_pairs chain) image) b ≡ is_marked target b

  from_volume : (v : IsVolumeOf n image target m c) → Rests v.volume.chain
  from_volume v = record {
    has = record { content = v.volume.content; same_super = v.super; same_store = v.store };
    marks = v.marks;
  }

  pub rested : IsVolumeOf n image target m c → HasLog n image [] → Rests []
  rested v log = subst Rests (one_log n image v.volume.chain [] v.volume.log log) (from_volume v)

  -- the same blocks are lost
  pub lost_rested : (r : Rests []) (b : ℕ) → IsLost r.has.content b ↔ IsLost c b
  lost_rested r b = (
    λ (lt, marked, free, none).
        let here : b < c.super.block_count = subst (λ (x : Super40). b < x.block_count) r.has.same_super lt in (
          here,
          sym (r.marks b here) ∙ marked,
          subst (λ (x : Super40). is_fixed x.block_count b ≡ false) r.has.same_super free,
          subst (λ t. t b ≡ None) r.has.same_store none,
        ),
    λ (lt, marked, free, none). (
      subst (λ (x : Super40). b < x.block_count) (sym r.has.same_super) lt,
      r.marks b lt ∙ marked,
      subst (λ (x : Super40). is_fixed x.block_count b ≡ false) (sym r.has.same_super) free,
      subst (λ t. t b ≡ None) (sym r.has.same_store) none,
    ),
  )

  pub rests : (s : Space) → IsVolumeOf n image target m c → HasLog n image [] → IsSpaceOf c s
      → (h : HasContentWith n image c.super c.store m) × IsSpaceOf h.content s
  rests s v log here =
      let r = rested v log in (
        r.has,
        record {
          count = ap (λ (x : Super40). x.block_count) r.has.same_super ∙ here.count;
          marks = λ b lt. here.marks b lt ∙ sym (r.marks b (subst (λ (j : ℕ). b < j) (sym here.count) lt));
        },
      )
