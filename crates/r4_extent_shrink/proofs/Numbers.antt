-- How many numbers suffice for the twigs that lose blocks, and for the edits of all cells.
use Rattle.std.proofs.Common.{◌≡◌, ℕ, ◌+◌, ◌-◌, ◌*◌, ◌/◌, ◌≤◌, Bool, true, false, List, [], ◌∷◌, length, map, arith}
use Rattle.std.specs.Prelude.{◌==◌, None, Option, Some, if◌then◌else◌, nat_le}
use Rattle.std.proofs.lemmas.Bool.{and_parts, leb-true}
use Rattle.std.proofs.lemmas.List.Sums.{sum_by-cons}
use Rattle.r4_base.specs.Key.{rank}
use Rattle.r4_base.specs.declared.key.Key.{Key}
use Rattle.r4_content.specs.Edited.{Edits}
use Rattle.r4_extent_growth.specs.r4_measure.r4_edit.CutBlocks.{next_key}
use Rattle.r4_extent_growth.specs.r4_extent_build.r4_twig_turns.Turning.{TwigTurn, numbers_for}
use Rattle.r4_extent_growth.specs.r4_extent_change.Among.{is_losing, loss_among, losing_twigs}
use Rattle.r4_extent_growth.specs.r4_extent_change.Losing.{numbers_lost}
use Rattle.r4_extent_growth.specs.r4_extent_loss.Losing.{Loss, leaf_at, losing_turn, numbers_taken, taken_block, taken_from}
use Rattle.r4_extent_growth.specs.r4_extent_loss.LosingEach.{losing_turns}
use Rattle.r4_extent_growth.specs.r4_measure.r4_branch.declared.piece.TwigPiece.{TwigPiece}
use Rattle.r4_extent_growth.specs.r4_measure.r4_cell.Seen.{CellSeen, node_of}
use Rattle.r4_extent_growth.specs.r4_measure.r4_cell.declared.change.Fresh.{Fresh}
use Rattle.r4_extent_growth.specs.r4_measure.r4_reach.Needs.{pieces_after}
use Rattle.r4_extent_growth.specs.r4_measure.r4_reach.Touched.{Body}
use Rattle.r4_extent_shrink.specs.Shrink.{has_numbers}

one_leaf : (key id : ℕ) (hi : Key) (block : List ℕ) (ps : List TwigPiece) → length (leaf_at key id hi block ps) ≤ 1
unfolding leaf_at
one_leaf key id hi block [] = omega arith
one_leaf key id hi block (p ∷ ps) = by_test (rank p.key == key) (one_leaf key id hi block ps)
  where
    by_test : (v : Bool) → length (leaf_at key id hi block ps) ≤ 1
        → length (if v then record { id = id; level = 1; lo = p.key; hi = next_key hi ps; block = block } ∷ [] else leaf_at key id hi block ps) ≤ 1
    by_test true more = omega arith
    by_test false more = more

-- a leaf at most takes a number
few_taken : (x : Loss) (come : List CellSeen) → length come ≤ 1 → numbers_taken x come ≤ 1
few_taken x come le = by_leaf x.leaf
  where
    by_leaf : (o : Option CellSeen) → numbers_taken (record x { leaf = o }) come ≤ 1
    by_leaf None = le
    by_leaf (Some leaf) = omega arith

module _ (b : Body) (e : Edits) (cells : List CellSeen) where
  leaves_few : (c : CellSeen) → (losing_turn b e (loss_among b cells c)).leaves ≤ 1
  leaves_few c =
      let x = loss_among b cells c in
      few_taken x (leaf_at (taken_from b x) 0 x.twig.hi (taken_block x) (pieces_after (Some b) e (node_of c) []))
      (one_leaf (taken_from b x) 0 x.twig.hi (taken_block x) (pieces_after (Some b) e (node_of c) []))

  turns_few : (cs : List CellSeen) → numbers_for (losing_turns b e (map (loss_among b cells) (losing_twigs b cs))) ≤ 65 * length cs
  turns_few [] = omega arith
  turns_few (c ∷ cs) = by_test (is_losing b c) (turns_few cs)
    where
      by_test : (v : Bool) → numbers_for (losing_turns b e (map (loss_among b cells) (losing_twigs b cs))) ≤ 65 * length cs
          → numbers_for (losing_turns b e (map (loss_among b cells) (if v then c ∷ losing_twigs b cs else losing_twigs b cs))) ≤ 65 * length (c ∷ cs)
      by_test true more =
          let few = leaves_few c in
          let sum = sum_by-cons (λ (t : TwigTurn). t.blocks + (t.leaves + 64)) (losing_turn b e (loss_among b cells c)) (losing_turns b e (map (loss_among b cells) (losing_twigs b cs))) in
          omega (arith, few, sum, more)
      by_test false more = omega (arith, more)

pub enough : (b : Body) (e : Edits) (f : Fresh) (cells : List CellSeen) → has_numbers f cells ≡ true → f.next + numbers_lost b e cells ≤ f.end
enough b e f cells h =
    let (order, few) = and_parts (nat_le f.next f.end) (nat_le (length cells) ((f.end - f.next) / 129)) h in
    let le = leb-true f.next f.end order in
    let count = leb-true (length cells) ((f.end - f.next) / 129) few in
    let turns = turns_few b e cells cells in
    omega (arith, le, count, turns)
