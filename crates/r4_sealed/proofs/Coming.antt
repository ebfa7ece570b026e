-- A tree whose cells come from a content, with an atom's.
use Rattle.std.proofs.Common.{◌≡◌, inl, inr, ⊎_elim, ℕ, ◌<◌, ◌≤◌, false, sym, ◌∙◌, subst}
use Rattle.r4_base.specs.Image.{block_at}
use Rattle.r4_base.specs.Bitmap.{is_fixed}
use Rattle.r4_base.specs.Cell.{IsCellOf}
use Rattle.r4_base.specs.Layout.{IsLawfulSuper}
use Rattle.r4_base.specs.Tree.{IsTree, Store}
use Rattle.r4_base.specs.Value.{Content, Value}
use Rattle.r4_base.specs.Volume.{HasContent, root_of}
use Rattle.r4_base.specs.declared.superblock.Super40.{Super40}
use Rattle.r4_base.proofs.Superblocks.{read_lawful}
use Rattle.r4_commit.proofs.Safety.{not_fixed_range}
use Rattle.r4_sealed.specs.Commits.{Commit, IsCommitOn, image_before}
use Rattle.r4_sealed.specs.Contents.{IsNewTree, IsTreeFor, RenewsSuper}
use Rattle.r4_sealed.specs.Written.{AreWritten, ComesFrom, IsSpaceOf}
use Rattle.r4_sealed.proofs.NewCells.{stand}

module _ (n : ℕ) (work : Commit) (m : Content) (old : HasContent n (image_before work) m)
    (here : IsSpaceOf old work.space) (t : Store Value) (from : ComesFrom old work t) where
  pub are_written : AreWritten work t
  are_written = record {
    each = λ i c is. ⊎_elim (λ mine. inl mine) (λ (was, out).
        let place = old.places i c was in
        let lt : i < work.space.block_count = subst (λ (j : ℕ). i < j) here.count place.0 in
        inr (record {
          cell = subst (λ (j : ℕ). IsCellOf j (block_at (image_before work) i) c) here.count (old.cells i c was);
          marked = here.marks i lt ∙ place.2;
          not_fixed = subst (λ (j : ℕ). is_fixed j i ≡ false) here.count place.1;
          kept = out;
        })) (from.each i c is);
    kept = from.kept;
  }

module _ (n : ℕ) (work : Commit) (ok : IsCommitOn n work) (t : Store Value) (w : AreWritten work t) where
  -- the superblock with the tree's root and height is lawful, where the old one was
  pub lawful_next : (old : Super40) → IsLawfulSuper n old → RenewsSuper old work.next → IsTree t (root_of work.next)
      → IsLawfulSuper n work.next
  lawful_next old was renews tree =
      let count : work.next.block_count ≡ old.block_count = renews.blocks in
      let place = (stand n work ok t w work.next.root_block tree.root_node tree.root_is).1 in
      let free : is_fixed work.next.block_count work.next.root_block ≡ false =
      subst (λ (j : ℕ). is_fixed j work.next.root_block ≡ false) (sym ok.plannable.blocks) place.1 in
      let lt : work.next.root_block < work.next.block_count =
      subst (λ (j : ℕ). work.next.root_block < j) (sym ok.plannable.blocks) place.0 in
      record {
        large_keys = renews.flags ∙ was.large_keys;
        nodes = renews.nodes ∙ was.nodes;
        height = (tree.height, renews.height);
        blocks = subst (λ (j : ℕ). (64 ≤ j) × (j ≤ 1048576) × (j ≤ n)) (sym count) was.blocks;
        root = (not_fixed_range work.next.block_count work.next.root_block free, lt);
        root_not_fixed = free;
        next_id = renews.next_id;
      }

  pub new_tree : (o m : Content) (c : HasContent n (image_before work) o) → RenewsSuper c.super work.next
      → IsTreeFor work.next t m → IsNewTree n work t m
  new_tree o m c renews is = record {
    is = is;
    lawful =
        lawful_next c.super (read_lawful n (block_at (image_before work) 17) c.super c.layout.format).0 renews
        is.tree.tree;
    master = c.layout.master;
  }
