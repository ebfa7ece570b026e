-- Where a check finds no fault, there is a volume.
use Rattle.std.proofs.Common.{◌≡◌, inl, inr, ℕ, ◌<◌, true, cond, List, [], ◌∷◌, ◌++◌, length, refl, sym, ap, subst, ◌∙◌, arith}
use Rattle.std.specs.Prelude.{unwrap_or, Bool}
use Rattle.r4_base.specs.Chain.{HasLog, Settles, Txn, chain_pairs, committed, flushed, home}
use Rattle.r4_base.specs.Image.{Image, IsBlock, IsImage, block_at, put_pairs}
use Rattle.r4_base.proofs.Frame.{chain_in_range, home_cases, length-put_pairs, second_in_range, settled_at}
use Rattle.r4_base.proofs.Superblocks.{read_lawful}
use Rattle.r4_base.specs.Value.{Content}
use Rattle.r4_base.specs.Volume.{HasContent, HasLayout, HasVolume}
use Rattle.r4_base.specs.declared.superblock.Super40.{Super40}
use Rattle.r4_check.proofs.Kept.{IsSoundWhole, look_keeps, sound_kept}
use Rattle.r4_check.specs.Walk.{faults_of, found_in, leaf_in, nothing_met, objects_wrong, walk_of}
use Rattle.r4_check_objects.specs.Objects.{object_faults}
use Rattle.r4_check_objects.specs.declared.fault.Fault.{Fault}
use Rattle.r4_check.specs.r4_list.Lists.{root_name_of}
use Rattle.r4_check_laws.proofs.Stores.{in_cells, store_of}
use Rattle.r4_check_laws.proofs.Trees.{is_tree}
use Rattle.r4_check_laws.proofs.Walked.{are_cells, are_linked, are_places, are_read}
use Rattle.r4_check_laws.proofs.Whole.{has_rules}

none_both : (xs ys : List Fault) → xs ++ ys ≡ [] → (xs ≡ []) × (ys ≡ [])
none_both [] ys e = (refl, e)
none_both (x ∷ xs) ys e = absurd (cc)

module _ (n : ℕ) (s : Super40) (image : Image) (whole : IsImage n image) (layout : HasLayout n image s) (none : faults_of s image ≡ []) where
  both : ((walk_of s image).faults ≡ []) × (objects_wrong s (walk_of s image) ≡ [])
  both = none_both (walk_of s image).faults (objects_wrong s (walk_of s image)) none

  no_object : object_faults s (unwrap_or (leaf_in (walk_of s image).cells) s.root_block) (found_in (walk_of s image).cells) ≡ []
  no_object =
      let is_whole : (walk_of s image).whole ≡ true = look_keeps IsSoundWhole s.block_count image (sound_kept s.block_count image) s.tree_height nothing_met (root_name_of s) (λ e. refl) both.0 in
      sym (ap (λ (b : Bool). cond b (object_faults s (unwrap_or (leaf_in (walk_of s image).cells) s.root_block) (found_in (walk_of s image).cells)) []) is_whole) ∙ both.1

  pub content_there : (m : Content) × HasContent n image m
  content_there =
      let lawful = (read_lawful n _ s layout.format).0 in
      let linked = are_linked n s image whole lawful both.0 in
      let read = are_read n s image whole lawful both.0 in
      let rules = has_rules (walk_of s image).cells (root_name_of s) linked s.block_count read s (unwrap_or (leaf_in (walk_of s image).cells) s.root_block) no_object in (
        rules.shown,
        record {
          super = s;
          layout = layout;
          store = store_of (walk_of s image).cells;
          cells = λ i c e. are_cells n s image whole lawful both.0 i c (in_cells (walk_of s image).cells i c e);
          tree = is_tree (walk_of s image).cells (root_name_of s) linked;
          places = λ i c e. are_places n s image whole lawful both.0 i c (in_cells (walk_of s image).cells i c e);
          raw = rules.raw;
          units = rules.units;
          files = rules.files;
          objects = rules.objects;
          ids = rules.ids;
          visible = rules.visible;
        },
      )

-- ---- the settled image has whole blocks too

pub settled_whole : (n : ℕ) (image : Image) (chain : List Txn) → IsImage n image → HasLog n image chain → IsImage n (put_pairs (chain_pairs chain) image)
settled_whole n image chain whole log = record { blocks = length-put_pairs (chain_pairs chain) image ∙ whole.blocks; whole = at }
  where
    at : (b : ℕ) → b < n → IsBlock (block_at (put_pairs (chain_pairs chain) image) b)
    at b lt =
        let long = whole.blocks in
        let e = settled_at image n chain b log (omega (arith, lt, long)) in
        let home_in : home (chain_pairs chain) b < n = elim (home_cases (chain_pairs chain) b) [
          | inl second ↦ (second_in_range n (chain_pairs chain) (home (chain_pairs chain) b) (chain_in_range n image (flushed image) (committed image) chain log.txns) second).1
          | inr same ↦ let is = same.0 in omega (arith, is, lt)
        ] in
        ap (length {A = ℕ}) e ∙ whole.whole (home (chain_pairs chain) b) home_in

pub volume_there : (n : ℕ) (image settled : Image) (s : Super40) → IsImage n image → Settles n image settled → HasLayout n settled s → faults_of s settled ≡ [] → (m : Content) × HasVolume n image m
volume_there n image settled s whole settles layout none =
    let put = put_pairs (chain_pairs settles.chain) image in
    let (m, content) = content_there n s put (settled_whole n image settles.chain whole settles.has) (subst (λ (i : Image). HasLayout n i s) settles.is layout) (subst (λ (i : Image). faults_of s i ≡ []) settles.is none) in
    (m, record { whole = whole; chain = settles.chain; log = settles.has; content = content })
