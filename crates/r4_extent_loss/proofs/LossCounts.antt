-- How many leaves take up the range of the blocks that go of a twig: as many as reach tells.
use Rattle.std.proofs.Common.{◌≡◌, ℕ, ◌-◌, ◌^◌, Bool, true, false, List, [], ◌∷◌, length, take, drop, refl, sym, ap, ◌∙◌}
use Rattle.std.specs.Prelude.{Option, None, Some, if◌then◌else◌}
use Rattle.r4_base.specs.Key.{rank}
use Rattle.r4_base.specs.Node.{items_of}
use Rattle.r4_base.specs.declared.key.Key.{Key}
use Rattle.r4_extent_build.specs.r4_branch.Pieces.{is_at, last_end, pieces_in}
use Rattle.r4_extent_build.specs.r4_branch.declared.piece.TwigPart.TheVariants.{Pointer}
use Rattle.r4_extent_build.specs.r4_branch.declared.piece.TwigPiece.{TwigPiece}
use Rattle.r4_extent_build.specs.r4_cell.Seen.{CellSeen, node_of}
use Rattle.r4_content.specs.Edited.{Edits}
use Rattle.r4_extent_build.specs.r4_edit.CutBlocks.{next_key, pointer_for, pointer_over}
use Rattle.r4_extent_build.specs.Growing.{end_after, end_before}
use Rattle.r4_extent_build.specs.r4_graft.Splices.{parted, place}
use Rattle.r4_extent_build.proofs.r4_measure.Kept.{block_is}
use Rattle.r4_extent_build.specs.r4_reach.Needs.{pieces_after, taken_up}
use Rattle.r4_extent_build.specs.r4_reach.Touched.{Body, going}
use Rattle.r4_extent_loss.specs.Losing.{IsLosing, IsLossOf, Loss, leaf_at, losing_turn, numbers_taken, taken_block, taken_from}
use Rattle.r4_extent_loss.proofs.Calm.{going_is}
use Rattle.r4_extent_loss.proofs.Clipped.{clipped_taken}
use Rattle.r4_extent_loss.proofs.LosingTurns.{cells_are}
use Rattle.r4_extent_loss.proofs.LostPieces.{after_is, all_follow, hi, lo, ms, parts, ps, taken, xs}
use Rattle.r4_extent_loss.proofs.Replaced.{cells_of}
use Rattle.r4_extent_loss.proofs.Taken.{is_taken}

-- as many cells as pointers
cells_long : (before : Option ℕ) (id n : ℕ) (hi : Key) (block : List ℕ) (qs : List TwigPiece) → length (cells_of (pointer_over before id qs) id hi block) ≡ length (pointer_over before n qs)
cells_long before id n hi block [] = refl
cells_long before id n hi block (m ∷ more) = by_test (is_at before (rank m.key))
  where
    by_test : (t : Bool) → length (cells_of (if t then [] else record { key = m.key; part = Pointer (record { 0 = id }) } ∷ []) id hi block)
        ≡ length {A = TwigPiece} (if t then [] else record { key = m.key; part = Pointer (record { 0 = n }) } ∷ [])
    by_test true = refl
    by_test false = refl

module _ (b : Body) (first : Key) (e : Edits) (g : IsLosing b first e) (x : Loss) (c : IsLossOf b x) where
  abbrev come : List CellSeen
  come = leaf_at (taken_from b x) 0 x.twig.hi (taken_block x) (pieces_after (Some b) e (node_of x.twig) [])

  by_leaf : (o : Option CellSeen) → x.leaf ≡ o → numbers_taken (record x { leaf = o }) come ≡ length (pointer_for o (last_end None (xs b x c)) (2 ^ 63) (ms b x c))
  by_leaf None is =
      let (before, gone) = (is_taken b x c).new is in
      ap length (ap (leaf_at (taken_from b x) 0 x.twig.hi (taken_block x)) (after_is b x c first e g) ∙ cells_are b x c 0)
      ∙ ((λ i. length (cells_of (pointer_over (before i) 0 (gone i)) 0 (next_key x.twig.hi (is_taken b x c).behind) (taken_block x)))
      ∙ cells_long (last_end None (xs b x c)) 0 (2 ^ 63) (next_key x.twig.hi (is_taken b x c).behind) (taken_block x) (ms b x c))
  by_leaf (Some l) is = refl

  abbrev qs : ℕ × ℕ → List TwigPiece → List TwigPiece
  qs r ts = parted r.1 (parted r.0 ts)

  pub leaves_are : (losing_turn b e x).leaves ≡ length (taken_up (node_of x.twig) (take (place (going b).0 (qs (going b) (pieces_in (items_of (node_of x.twig).block)))) (qs (going b) (pieces_in (items_of (node_of x.twig).block))))
      (take (place (going b).1 (qs (going b) (pieces_in (items_of (node_of x.twig).block))) - place (going b).0 (qs (going b) (pieces_in (items_of (node_of x.twig).block)))) (drop (place (going b).0 (qs (going b) (pieces_in (items_of (node_of x.twig).block)))) (qs (going b) (pieces_in (items_of (node_of x.twig).block))))))
  leaves_are =
      let node = node_of x.twig in
      let told : ℕ × ℕ → List TwigPiece → ℕ = λ r ts. length (taken_up (node_of x.twig) (take (place r.0 (qs r ts)) (qs r ts)) (take (place r.1 (qs r ts) - place r.0 (qs r ts)) (drop (place r.0 (qs r ts)) (qs r ts)))) in
      by_leaf x.leaf refl
      ∙ sym (ap (λ bytes. told (going b) (pieces_in (items_of bytes))) (block_is x.twig)
      ∙ (ap (λ r. told r (ps b x c)) (going_is b first e g)
      ∙ (ap length (clipped_taken (node_of x.twig) (lo b x c) (hi b x c) (end_after b) (end_before b) (ps b x c) c.pieces.pieces.follow c.first_border (all_follow b x c))
      ∙ ap length (taken b x c (ms b x c) c.begins (parts b x c).mid))))
