-- Where there is a volume a check finds no fault.
use Rattle.std.proofs.Common.{◌≡◌, ℕ, Bool, true, cond, List, [], ◌++◌, length, refl, sym, ap, subst, ◌∙◌, arith}
use Rattle.std.specs.Prelude.{unwrap_or, Some}
use Rattle.r4_base.proofs.Contents.{back_iff, decided, then_iff}
use Rattle.r4_base.proofs.Images.{same_Ok}
use Rattle.r4_base.proofs.Logs.{one_log}
use Rattle.r4_base.proofs.Superblocks.{read_lawful}
use Rattle.r4_base.specs.Chain.{Settles, Txn, chain_pairs}
use Rattle.r4_base.specs.Image.{Image, IsImage, block_at, put_pairs}
use Rattle.r4_base.specs.Layout.{IsLawfulSuper}
use Rattle.r4_base.specs.Tree.{Fits, Node, Store}
use Rattle.r4_base.specs.Value.{Content, Value}
use Rattle.r4_base.specs.Volume.{HasContent, HasFiles, HasIds, HasLayout, HasObjects, HasUnits, HasVolume, root_of}
use Rattle.r4_base.specs.declared.superblock.Super40.{Super40}
use Rattle.r4_check.proofs.Kept.{IsSoundWhole, look_keeps, sound_kept}
use Rattle.r4_check.specs.Walk.{faults_of, found_in, leaf_in, nothing_met, objects_wrong, walk_of}
use Rattle.r4_check_objects.specs.Objects.{object_faults}
use Rattle.r4_check_objects.specs.declared.fault.Fault.{Fault}
use Rattle.r4_check.specs.r4_list.Lists.{root_name_of}
use Rattle.r4_check_laws.proofs.Clean.{same_store, walk_clean}
use Rattle.r4_check_laws.proofs.Contents.{raw_of}
use Rattle.r4_check_laws.proofs.Found.{settled_whole}
use Rattle.r4_check_laws.proofs.Pairs.{all_units, cells_mirrored}
use Rattle.r4_check_laws.proofs.Stores.{Cells, store_of}
use Rattle.r4_check_laws.proofs.Unfaulted.{no_object_fault}
use Rattle.r4_check_laws.proofs.Walked.{are_linked, are_read, walked_once}
use Rattle.r4_check_laws.proofs.Whole.{all_apart, has_units, have_one}

-- stores that answer alike are one
same_stores : (f g : Store Value) → ((i : ℕ) → f i ≡ g i) → f ≡ g
same_stores f g same = λ i x. same x i

module _ (n : ℕ) (image : Image) (m : Content) (c : HasContent n image m) (whole : IsImage n image) where
  lawful : IsLawfulSuper n c.super
  lawful = (read_lawful n _ c.super c.layout.format).0

  whole_cells : (i : ℕ) (d : Node Value) → c.store i ≡ Some d → length (block_at image i) ≡ 4096
  whole_cells i d at = let place = (c.places i d at).0 in let device = lawful.blocks.2 in whole.whole i (omega (arith, place, device))

  root_fits : Fits (root_name_of c.super) c.tree.root_node
  root_fits = record { level = c.tree.root_level; lo = c.tree.root_lo; hi = c.tree.root_hi }

  no_walk_fault : (walk_of c.super image).faults ≡ []
  no_walk_fault = walk_clean c.super.block_count image c.store (root_of c.super) c.tree c.cells whole_cells (λ i d at. (c.places i d at).2) (root_name_of c.super) refl root_fits

  is_whole : (walk_of c.super image).whole ≡ true
  is_whole = look_keeps IsSoundWhole c.super.block_count image (sound_kept c.super.block_count image) c.super.tree_height nothing_met (root_name_of c.super) (λ e. refl) no_walk_fault

  one_store : store_of (walk_of c.super image).cells ≡ c.store
  one_store = same_stores (store_of (walk_of c.super image).cells) c.store
      (same_store c.super.block_count image c.store (root_of c.super) c.tree c.cells whole_cells (λ i d at. (c.places i d at).2) (root_name_of c.super) refl root_fits is_whole (walked_once c.super image))

  no_object : (leaf : ℕ) → object_faults c.super leaf (found_in (walk_of c.super image).cells) ≡ []
  no_object leaf =
      let cells : Cells = (walk_of c.super image).cells in
      let linked = are_linked n c.super image whole lawful no_walk_fault in
      let read = are_read n c.super image whole lawful no_walk_fault in
      let one = have_one (walk_of c.super image).cells (root_name_of c.super) linked c.super.block_count read in
      let apart = all_apart (walk_of c.super image).cells (root_name_of c.super) linked c.super.block_count read in
      let pairs = cells_mirrored (walk_of c.super image).cells (λ i d at. (let r = read i d at in (r.block, r.says))) in
      let units : HasUnits c.store (raw_of (all_units (walk_of c.super image).cells))
      = subst (λ (t : Store Value). HasUnits t (raw_of (all_units (walk_of c.super image).cells))) one_store (has_units (walk_of c.super image).cells (root_name_of c.super) linked c.super.block_count read) in
      let same : c.raw ≡ raw_of (all_units (walk_of c.super image).cells) = decided c.raw (raw_of (all_units (walk_of c.super image).cells)) (λ k v. then_iff (c.units k v) (back_iff (units k v))) in
      let files : HasFiles (store_of (walk_of c.super image).cells) (raw_of (all_units (walk_of c.super image).cells))
      = subst (λ (r : Content). HasFiles (store_of (walk_of c.super image).cells) r) same (subst (λ (t : Store Value). HasFiles t c.raw) (sym one_store) c.files) in
      no_object_fault c.super c.super.block_count (walk_of c.super image).cells (root_name_of c.super) linked read one apart pairs.0 pairs.1 files (subst HasObjects same c.objects) (subst (HasIds c.super) same c.ids) leaf

  no_fault : faults_of c.super image ≡ []
  no_fault =
      let objects : objects_wrong c.super (walk_of c.super image) ≡ []
      = ap (λ (b : Bool). cond b (object_faults c.super (unwrap_or (leaf_in (walk_of c.super image).cells) c.super.root_block) (found_in (walk_of c.super image).cells)) []) is_whole
      ∙ no_object (unwrap_or (leaf_in (walk_of c.super image).cells) c.super.root_block) in
      ap (λ (fs : List Fault). fs ++ objects_wrong c.super (walk_of c.super image)) no_walk_fault ∙ objects

pub content_clear : (n : ℕ) (image : Image) (s : Super40) (m : Content) → IsImage n image → HasLayout n image s → HasContent n image m → faults_of s image ≡ []
content_clear n image s m whole layout c =
    let same : c.super ≡ s = same_Ok c.super s (sym c.layout.format ∙ layout.format) in
    subst (λ (x : Super40). faults_of x image ≡ []) same (no_fault n image m c whole)

pub volume_clear : (n : ℕ) (image settled : Image) (s : Super40) (m : Content) → Settles n image settled → HasLayout n settled s → HasVolume n image m → faults_of s settled ≡ []
volume_clear n image settled s m settles layout v =
    let chains : settles.chain ≡ v.chain = one_log n image settles.chain v.chain settles.has v.log in
    let is : settled ≡ put_pairs (chain_pairs v.chain) image = settles.is ∙ ap (λ (ts : List Txn). put_pairs (chain_pairs ts) image) chains in
    subst (λ (i : Image). faults_of s i ≡ []) (sym is) (content_clear n (put_pairs (chain_pairs v.chain) image) s m (settled_whole n image v.chain v.whole v.log) (subst (λ (i : Image). HasLayout n i s) is layout) v.content)
