-- Which blocks are lost, and which are needed, is the image's own: it does not hang on how its content was shown.
use Rattle.std.proofs.Common.{◌≡◌, ◌≢◌, inl, inr, ℕ, zero, suc, ◌*◌, ◌<◌, false, List, [], refl, sym, ap, subst, ◌∙◌, arith}
use Rattle.std.specs.Prelude.{◌==◌, Contains}
use Rattle.std.proofs.lemmas.Bool.Decides.{nat_tests}
use Rattle.r4_base.specs.Bitmap.{bitmap_block, bitmap_count, is_fixed}
use Rattle.r4_base.specs.Image.{Image, IsImage, AgreesOutside, block_at, put_pairs}
use Rattle.r4_base.specs.Chain.{Txn, HasLog, chain_pairs, committed, flushed, home, is_footer, kept_blocks}
use Rattle.r4_base.specs.Value.{Content}
use Rattle.r4_base.specs.Volume.{HasContent, HasVolume, IsLost, IsMadeOf, Needs}
use Rattle.r4_base.specs.declared.superblock.Super40.{Super40}
use Rattle.r4_base.proofs.Images.{one_super, one_store}
use Rattle.r4_base.proofs.Logs.{one_log}
use Rattle.r4_base.proofs.Members.{no_member}
use Rattle.r4_base.proofs.Spare.{same_content}

module _ (n : ℕ) (image : Image) (m o : Content) (c : HasContent n image m) (d : HasContent n image o) (b : ℕ) where
  pub lost_alike : IsLost c b → IsLost d b
  lost_alike lost =
      let s = one_super n image m o c d in (
        subst (λ (x : Super40). b < x.block_count) s lost.0,
        lost.1,
        subst (λ (x : Super40). is_fixed x.block_count b ≡ false) s lost.2,
        ap (λ t. t b) (sym (one_store n image m o c d)) ∙ lost.3,
      )

  pub made_alike : IsMadeOf c b → IsMadeOf d b
  made_alike (inl e) = inl e
  made_alike (inr (inl e)) = inr (inl e)
  made_alike (inr (inr (inl h))) = inr (inr (inl (h.0, subst (λ (x : Super40). h.0 < bitmap_count x.block_count) (one_super n image m o c d) h.1, h.2)))
  made_alike (inr (inr (inr h))) = inr (inr (inr (h.0, ap (λ t. t b) (sym (one_store n image m o c d)) ∙ h.1)))

pub need_alike : (n : ℕ) (image : Image) (m o : Content) (v : HasVolume n image m) (w : HasVolume n image o) (b : ℕ) → Needs v b → Needs w b
need_alike n image m o v w b needs =
    let same : v.chain ≡ w.chain = one_log n image v.chain w.chain v.log w.log in
    let made = λ (x : ℕ) (is : IsMadeOf v.content x).
    subst (λ (l : List Txn). (d : HasContent n (put_pairs (chain_pairs l) image) o) → IsMadeOf d x) same
    (λ d. made_alike n (put_pairs (chain_pairs v.chain) image) m o v.content d x is) w.content in
    elim needs [
      | inl kept ↦ inl (subst (λ (l : List Txn). Contains (kept_blocks l) b) same kept)
      | inr h ↦ inr (h.0, made h.0 h.1, h.2 ∙ ap (λ (l : List Txn). home (chain_pairs l) h.0) same)
    ]

-- ---- what was replayed has the volume that it had

bitmap_is : (k : ℕ) → 0 < k → bitmap_block k ≡ k * 32736
bitmap_is k some =
    let other : k ≢ 0 = (λ e. omega (arith, e, some)) in
    let test : (k == 0) ≡ false = grind (arith, nat_tests, other) in
    rw test refl

not_20 : (k : ℕ) → bitmap_block k ≢ 20
not_20 zero e = omega (arith, e)
not_20 (suc k) e = let is = bitmap_is (suc k) (omega arith) in omega (arith, e, is)

fixed_20 : (n : ℕ) → is_fixed n 20 ≡ false → ⊥
fixed_20 n e = cc e

pub footer_not_made : (n : ℕ) (image : Image) (m : Content) (c : HasContent n image m) (d : ℕ) → IsMadeOf c d → d ≢ 20
footer_not_made n image m c d (inl e) twenty = omega (arith, e, twenty)
footer_not_made n image m c d (inr (inl e)) twenty = omega (arith, e, twenty)
footer_not_made n image m c d (inr (inr (inl bitmap))) twenty = not_20 bitmap.0 (sym bitmap.2 ∙ twenty)
footer_not_made n image m c d (inr (inr (inr cell))) twenty =
    fixed_20 c.super.block_count (sym (ap (λ (b : ℕ). is_fixed c.super.block_count b) twenty) ∙ (c.places d cell.0 cell.1).1)

pub replayed_volume : (n : ℕ) (image other : Image) (m : Content) (v : HasVolume n image m) → IsImage n other → committed other ≡ flushed other
    → AgreesOutside is_footer (put_pairs (chain_pairs v.chain) image) other → HasVolume n other m
replayed_volume n image other m v whole equal agrees = record {
  whole = whole;
  chain = [];
  log = record { txns = equal; few = omega arith; apart = λ b o k. no_member b o };
  content = same_content n (put_pairs (chain_pairs v.chain) image) other m v.content
      (λ d is. agrees.others d (footer_not_made n (put_pairs (chain_pairs v.chain) image) m v.content d is));
}
