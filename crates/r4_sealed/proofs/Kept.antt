-- Images that settle to one with a content have its volume; and by the part of a commit the old one or the new one.
use Rattle.std.proofs.Common.{◌≡◌, inl, inr, ⊎_elim, ℕ, zero, suc, ◌<◌, ◌/◌, ◌%◌, true, false, List, refl, sym, ap}
use Rattle.std.proofs.Common.{◌∙◌, subst, arith}
use Rattle.std.specs.Prelude.{◌↔◌, Contains, None}
use Rattle.std.proofs.lemmas.List.Elements.{Contains-append_left}
use Rattle.r4_base.proofs.Choices.{never_both}
use Rattle.r4_base.specs.Image.{Image, IsImage, block_at, put_pairs}
use Rattle.r4_base.specs.Bitmap.{bitmap_block, bitmap_count, is_fixed, is_used}
use Rattle.r4_base.specs.Chain.{HasLog, SettlesTo, chain_pairs, home, is_footer, log_blocks, wandered}
use Rattle.r4_base.specs.Value.{Content}
use Rattle.r4_base.specs.Volume.{HasContent, IsLost, IsMadeOf, Needs}
use Rattle.r4_base.specs.declared.superblock.Super40.{Super40}
use Rattle.r4_base.proofs.Frame.{home_cases}
use Rattle.r4_base.proofs.Needed.{footer_not_made}
use Rattle.r4_base.proofs.Spare.{same_content, same_store, same_super}
use Rattle.r4_commit.specs.r4_wander.Kept.{IsVolumeOf}
use Rattle.r4_commit.specs.r4_wander.Safe.{WithAtom, WithoutAtom, is_scratch}
use Rattle.r4_commit.proofs.r4_wander.Needed.{not_made}
use Rattle.r4_commit.specs.Plannable.{is_spoken_for}
use Rattle.r4_commit.proofs.NewImage.{keeps_off}
use Rattle.r4_commit.proofs.PlanFacts.{bitmap_within}
use Rattle.r4_commit.proofs.Safety.{first_free, fixed_bitmap, fixed_low, marked_spoken}
use Rattle.r4_sealed.specs.Commits.{Commit, IsCommitOn, LeftInPart, image_after, image_before}
use Rattle.r4_sealed.specs.Contents.{HasEither}
use Rattle.r4_sealed.specs.Written.{IsSpaceOf}

-- what settles to an image of a content, but for blocks of which the content is not made
pub from_settled : (n : ℕ) (other : ℕ → Type 0) (target image : Image) (m : Content) (c : HasContent n target m)
    → ((b : ℕ) → other b → IsMadeOf c b → ⊥) → IsImage n image → SettlesTo n other target image
    → IsVolumeOf n image target m c
from_settled n other target image m c free whole to =
    let now : Image = put_pairs (chain_pairs to.settles.chain) image in
    let same : (d : ℕ) → IsMadeOf c d → block_at now d ≡ block_at target d =
    λ d made. ap (λ (i : Image). block_at i d) (sym to.settles.is) ∙ to.agrees.others d (λ w. free d w made) in
    record {
      volume = record {
        whole = whole;
        chain = to.settles.chain;
        log = to.settles.has;
        content = same_content n target now m c same;
      };
      super = same_super n target now m c same;
      store = same_store n target now m c same;
      marks = λ b lt. ap (λ (x : List ℕ). is_used x (b % 32736))
          (same (bitmap_block (b / 32736)) (inr (inr (inl (b / 32736, omega arith, refl)))));
    }

pub from_footer : (n : ℕ) (target image : Image) (m : Content) (c : HasContent n target m) → IsImage n image
    → SettlesTo n is_footer target image → IsVolumeOf n image target m c
from_footer n target image m c whole to =
    from_settled n is_footer target image m c (λ b is made. footer_not_made n target m c b made is) whole to

-- the same blocks are lost
module _ (n : ℕ) (target image : Image) (m : Content) (c : HasContent n target m) (v : IsVolumeOf n image target m c)
  where
    lost_there : (b : ℕ) → IsLost v.volume.content b → IsLost c b
    lost_there b (lt, marked, free, none) =
        let here : b < c.super.block_count = subst (λ (x : Super40). b < x.block_count) v.super lt in (
          here,
          sym (v.marks b here) ∙ marked,
          subst (λ (x : Super40). is_fixed x.block_count b ≡ false) v.super free,
          subst (λ t. t b ≡ None) v.store none,
        )

    lost_here : (b : ℕ) → IsLost c b → IsLost v.volume.content b
    lost_here b (lt, marked, free, none) = (
      subst (λ (x : Super40). b < x.block_count) (sym v.super) lt,
      v.marks b lt ∙ marked,
      subst (λ (x : Super40). is_fixed x.block_count b ≡ false) (sym v.super) free,
      subst (λ t. t b ≡ None) (sym v.store) none,
    )

    pub lost_alike : (b : ℕ) → IsLost v.volume.content b ↔ IsLost c b
    lost_alike b = (lost_there b, lost_here b)

    pub id_alike : v.volume.content.super.oid ≡ c.super.oid
    id_alike = ap (λ (x : Super40). x.oid) v.super

-- what settles as with the atom has the new volume
pub ended : (n : ℕ) (work : Commit) (m : Content) (d : HasContent n (image_after work) m) (image : Image)
    → IsCommitOn n work → IsImage n image → WithAtom n work.base work.chain work.plan image
    → IsVolumeOf n image (image_after work) m d
ended n work m d image ok whole to =
    from_settled n (is_scratch work.plan) (image_after work) image m d
    (keeps_off n work.base work.chain work.space work.atom work.cells work.answers work.next work.last work.plan
    ok.is_for ok.plannable m d) whole to

module _ (n : ℕ) (work : Commit) (ok : IsCommitOn n work) (o : Content) (c : HasContent n (image_before work) o)
    (here : IsSpaceOf c work.space) where
  low_spoken : (b : ℕ) → b < 22 → is_spoken_for work.space b ≡ true
  low_spoken b lt = marked_spoken work.space b (ok.plannable.lawful.fixed b
      (omega (arith, lt, ok.plannable.lawful.least))
      (fixed_low work.space.block_count b lt))

  -- what the old content is made of is spoken for
  made_spoken : (b : ℕ) → IsMadeOf c b → is_spoken_for work.space b ≡ true
  made_spoken b (inl is) = low_spoken b (omega (arith, is))
  made_spoken b (inr (inl is)) = low_spoken b (omega (arith, is))
  made_spoken b (inr (inr (inl (k, lt, is)))) =
      let inside : k < bitmap_count work.space.block_count = subst (λ (j : ℕ). k < bitmap_count j) here.count lt in
      let least = ok.plannable.lawful.least in
      let fixed = fixed_bitmap work.space.block_count k least inside in
      let within = (bitmap_within work.space.block_count k least inside).1 in
      subst (λ (j : ℕ). is_spoken_for work.space j ≡ true) (sym is)
      (marked_spoken work.space (bitmap_block k) (ok.plannable.lawful.fixed (bitmap_block k) within fixed))
  made_spoken b (inr (inr (inr (d, is)))) =
      let place = c.places b d is in
      let lt : b < work.space.block_count = subst (λ (j : ℕ). b < j) here.count place.0 in
      marked_spoken work.space b (here.marks b lt ∙ place.2)

  -- so is where it stands, and what the log needs
  home_spoken : (b d : ℕ) → IsMadeOf c d → b ≡ home (chain_pairs work.chain) d → is_spoken_for work.space b ≡ true
  home_spoken b d made is = ⊎_elim
      (λ copy. (ok.plannable.kept b (Contains-append_left (wandered work.chain) (log_blocks work.chain) b
      (subst (Contains (wandered work.chain)) (sym is) copy))).0)
      (λ own. subst (λ (j : ℕ). is_spoken_for work.space j ≡ true) (sym (is ∙ own.0)) (made_spoken d made))
      (home_cases (chain_pairs work.chain) d)

  pub needed : (log : HasLog n work.base work.chain) (whole : IsImage n work.base) (b : ℕ)
      → Needs (record { whole = whole; chain = work.chain; log = log; content = c }) b
      → is_spoken_for work.space b ≡ true
  needed log whole b (inl kept) = (ok.plannable.kept b kept).0
  needed log whole b (inr (d, made, is)) = home_spoken b d made is

  old : (image : Image) → IsImage n image → WithoutAtom n work.base work.chain work.plan image
      → IsVolumeOf n image (image_before work) o c
  old image whole to = from_settled n _ (image_before work) image o c (λ b w made. ⊎_elim
      (λ target. never_both (is_spoken_for work.space b) (made_spoken b made)
      (first_free n work.base work.chain work.space work.atom work.cells work.answers work.next work.last work.plan
      ok.is_for ok.plannable b target))
      (λ number. not_made n (image_before work) o c b number made) w) whole to

  pub by_part : (m : Content) (d : HasContent n (image_after work) m) (i : ℕ) (image : Image) → IsImage n image
      → LeftInPart n work i image → HasEither c d i image
  by_part m d zero image whole w = old image whole w
  by_part m d (suc zero) image whole w =
      ⊎_elim (λ without. inl (old image whole without)) (λ with_it. inr (ended n work m d image ok whole with_it)) w
  by_part m d (suc (suc j)) image whole w = ended n work m d image ok whole w
