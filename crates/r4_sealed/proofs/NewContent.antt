-- The content of the image with the atom's cells.
use Rattle.std.proofs.Common.{◌≡◌, ◌⊎◌, inl, inr, ℕ, zero, suc, ◌<◌, None, refl, sym, ap, ◌∙◌, subst, arith}
use Rattle.r4_base.proofs.Choices.{never_both}
use Rattle.r4_base.specs.Image.{block_at}
use Rattle.r4_base.specs.Bitmap.{bitmap_block, bitmap_count, bitmap_fault, is_fixed}
use Rattle.r4_base.specs.Cell.{IsCellOf}
use Rattle.r4_base.specs.Layout.{master_of}
use Rattle.r4_base.specs.Tree.{Store}
use Rattle.r4_base.specs.Value.{Content, Value}
use Rattle.r4_base.specs.Volume.{HasIds, HasLayout, IsPlace, root_of}
use Rattle.r4_commit.specs.Plannable.{is_spoken_for}
use Rattle.r4_commit.proofs.NewImage.{bitmaps_sound, super_sound}
use Rattle.r4_commit.proofs.PlanFacts.{later_bitmap}
use Rattle.r4_commit.proofs.Safety.{fixed_low, marked_spoken}
use Rattle.r4_sets_told.specs.r4_sets.Session.{IsTreeOf}
use Rattle.r4_sets_told.proofs.Blocks.{raw_ids, raw_objects}
use Rattle.r4_sealed.specs.Commits.{Commit, IsCommitOn, image_after, image_before, super_after}
use Rattle.r4_sealed.specs.Contents.{HasContentWith, IsNewTree}
use Rattle.r4_sealed.specs.Written.{AreWritten, IsOverwritten}
use Rattle.r4_sealed.proofs.NewCells.{block_stays, home_is, overwritten_is, placed_is, stand}

module _ (n : ℕ) (work : Commit) (ok : IsCommitOn n work) where
  -- the master block is as it was
  pub master_stays : block_at (image_after work) 16 ≡ block_at (image_before work) 16
  master_stays = block_stays n work ok 16
      (λ home. not_home 16 refl (home_is n work ok 16 home))
      (λ placed. never_both (is_spoken_for work.space 16) (marked_spoken work.space 16
      (ok.plannable.lawful.fixed 16 (omega (arith, ok.plannable.lawful.least))
      (fixed_low work.space.block_count 16 (omega arith)))) (placed_is n work ok 16 placed).1)
    where
      not_home : (b : ℕ) → b ≡ 16 → (b ≡ 17) ⊎ (((k : ℕ) × (k < bitmap_count work.space.block_count)
          × (b ≡ bitmap_block k)) ⊎ IsOverwritten work b) → ⊥
      not_home b e (inl is) = absurd (omega (arith, is, e))
      not_home b e (inr (inl (zero, lt, is))) = absurd (omega (arith, is, e))
      not_home b e (inr (inl (suc k, lt, is))) = let at = later_bitmap k in absurd (omega (arith, is, at, e))
      not_home b e (inr (inr over)) = never_both (is_fixed work.space.block_count b)
          (fixed_low work.space.block_count b (omega (arith, e))) (overwritten_is n work ok b over).1

  layout : (t : Store Value) (m : Content) → IsNewTree n work t m → HasLayout n (image_after work) (super_after work)
  layout t m is = record {
    master = (is.master.0, ap master_of master_stays ∙ is.master.1);
    format = super_sound n work.base work.chain work.space work.atom work.cells work.answers work.next work.last
        work.plan ok.is_for ok.plannable is.lawful;
    bitmaps =
        subst (λ (j : ℕ). bitmap_fault j work.plan.free_blocks (image_after work) ≡ None) (sym ok.plannable.blocks)
        (bitmaps_sound n work.base work.chain work.space work.atom work.cells work.answers work.next work.last
        work.plan ok.is_for ok.plannable);
  }

  pub content : (t : Store Value) (m : Content) → AreWritten work t → IsNewTree n work t m
      → HasContentWith n (image_after work) (super_after work) t m
  content t m w is =
      let count : work.next.block_count ≡ work.space.block_count = ok.plannable.blocks in
      let tree : IsTreeOf t (root_of (super_after work)) m = is.is.tree in
      let ids : HasIds (super_after work) m = record { ids = is.is.ids.ids; count = is.is.ids.count } in
      record {
        content = record {
          super = super_after work;
          layout = layout t m is;
          store = t;
          cells = λ i c at. subst (λ (j : ℕ). IsCellOf j (block_at (image_after work) i) c) (sym count)
              (stand n work ok t w i c at).0;
          tree = tree.tree;
          places = λ i c at. subst (λ (j : ℕ). IsPlace j (image_after work) i) (sym count)
              (stand n work ok t w i c at).1;
          raw = tree.raw;
          units = tree.units;
          files = tree.files;
          objects = raw_objects t (root_of (super_after work)) m tree is.is.objects;
          ids = raw_ids t (root_of (super_after work)) m tree (super_after work) ids;
          visible = tree.visible;
        };
        same_super = refl;
        same_store = refl;
      }
