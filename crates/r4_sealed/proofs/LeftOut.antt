-- What a commit can not leave out.
use Rattle.std.proofs.Common.{◌≡◌, ℕ, ◌<◌, false, List, get_or, refl, sym, ap, ◌∙◌, subst, arith}
use Rattle.std.specs.Prelude.{Contains, Some, None}
use Rattle.r4_base.proofs.Choices.{never_both}
use Rattle.r4_base.specs.Image.{block_at}
use Rattle.r4_base.specs.Layout.{super_block, super_fields}
use Rattle.r4_base.specs.Bitmap.{is_fixed}
use Rattle.r4_base.specs.Tree.{Node}
use Rattle.r4_base.specs.Value.{Content, Value}
use Rattle.r4_base.specs.Volume.{HasContent, HasIds, IsLost, objects_in, root_of, stat_rank}
use Rattle.r4_base.specs.declared.superblock.Super40.{Super40}
use Rattle.r4_base.proofs.Superblocks.{read_lawful}
use Rattle.r4_commit.specs.r4_space.Space.{is_marked_by}
use Rattle.r4_commit.specs.r4_wander.Torn.{Write}
use Rattle.r4_commit.proofs.r4_wander.Members.{any_here}
use Rattle.r4_commit.specs.Planned.{new_super}
use Rattle.r4_sets_told.specs.r4_sets.Session.{IsTreeOf}
use Rattle.r4_sets_told.proofs.Blocks.{raw_ids}
use Rattle.r4_sealed.specs.Commits.{Commit, IsCommitOn, image_after, image_before, is_freed, super_after}
use Rattle.r4_sealed.specs.Written.{IsSpaceOf}
use Rattle.r4_sealed.proofs.LostBlocks.{is_none, no_cell}
use Rattle.r4_sealed.proofs.NewCells.{block_home, marks_after, or_first, stays_marked}

module _ (n : ℕ) (work : Commit) (ok : IsCommitOn n work) (m : Content) (d : HasContent n (image_after work) m) where
  abbrev written : Super40
  written = new_super work.next ok.is_for.bitmaps

  super_there : block_at (image_after work) 17 ≡ super_block written
  super_there =
      block_home n work ok (17, super_block written)
      (subst (λ (ws : List Write). Contains ws (17, super_block written)) (sym ok.is_for.homes)
      (any_here (17, super_block written) _ _ refl))
      (omega (arith, ok.plannable.lawful.least, ok.plannable.within))

  pub super_is : d.super ≡ super_after work
  super_is =
      sym (read_lawful n (block_at (image_after work) 17) d.super d.layout.format).1
      ∙ ap super_fields super_there
      ∙ ok.is_for.reads
      ∙ sym (λ i. record work.next { free_blocks = ok.is_for.free_blocks i; flushes = ok.is_for.id i })

  pub root_is : (c : Node Value) × (d.store work.next.root_block ≡ Some c) × (c.level ≡ work.next.tree_height)
  root_is = (
    d.tree.root_node,
    ap (λ (x : Super40). d.store x.root_block) (sym super_is) ∙ d.tree.root_is,
    d.tree.root_level ∙ ap (λ (x : Super40). x.tree_height) super_is,
  )

  abbrev tree_is : IsTreeOf d.store (root_of d.super) m
  tree_is = record { tree = d.tree; raw = d.raw; units = d.units; files = d.files; visible = d.visible }

  -- the objects that are seen are those of the units
  same_count : objects_in d.raw ≡ objects_in m
  same_count =
      let counted : Super40 = record d.super { file_count = objects_in m } in
      let seen : HasIds counted m = record {
        ids = λ o a s. d.ids.ids o a (s.0, ((d.visible (stat_rank o) _).0 s.1).0);
        count = refl;
      } in
      sym (raw_ids d.store (root_of d.super) m tree_is counted seen).count

  pub count_is : work.next.file_count ≡ objects_in m
  count_is = ap (λ (x : Super40). x.file_count) (sym super_is) ∙ d.ids.count ∙ same_count

  pub marked_is : (b : ℕ) → is_marked_by work.space work.atom b ≡ false → d.store b ≡ None
  marked_is b out = no_cell (d.store b) (λ c is.
      let place = d.places b c is in
      let count : d.super.block_count ≡ work.space.block_count =
      ap (λ (x : Super40). x.block_count) super_is ∙ ok.plannable.blocks in
      let lt : b < work.space.block_count = subst (λ (j : ℕ). b < j) count place.0 in
      never_both (is_marked_by work.space work.atom b) (sym (marks_after n work ok b lt) ∙ place.2) out)

-- a block whose cell is gone, and that is not freed
module _ (n : ℕ) (work : Commit) (o : Content) (c : HasContent n (image_before work) o) (b : ℕ) (e : Node Value)
    (was : c.store b ≡ Some e) where
  pub not_before : IsLost c b → ⊥
  not_before (lt, marked, free, none) = is_none e (c.store b) was none

  pub lost_after : (m : Content) (d : HasContent n (image_after work) m) → IsCommitOn n work → IsSpaceOf c work.space
      → d.store b ≡ None → is_freed work.space work.atom b ≡ false → IsLost d b
  lost_after m d ok here gone kept =
      let place = c.places b e was in
      let lt : b < work.space.block_count = subst (λ (j : ℕ). b < j) here.count place.0 in
      let count : d.super.block_count ≡ work.space.block_count =
      ap (λ (x : Super40). x.block_count) (super_is n work ok m d) ∙ ok.plannable.blocks in (
        subst (λ (j : ℕ). b < j) (sym count) lt,
        marks_after n work ok b lt
            ∙ stays_marked work.space work.atom b (or_first (get_or work.space.marked b false)
            (get_or work.space.placed b false) (here.marks b lt ∙ place.2)) kept,
        subst (λ (j : ℕ). is_fixed j b ≡ false) (here.count ∙ sym count) place.1,
        gone,
      )
