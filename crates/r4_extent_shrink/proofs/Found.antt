-- What may be lost of cells, as the tests of them say.
use Rattle.std.proofs.Common.{◌≡◌, inl, inr, true, List, sym, subst, ◌∙◌, arith}
use Rattle.std.specs.Prelude.{◌==◌, Contains, Some, nat_lt}
use Rattle.std.specs.List.{list_all}
use Rattle.std.proofs.lemmas.Bool.{and_parts, eqb-true}
use Rattle.r4_base.specs.Key.{rank}
use Rattle.r4_base.specs.Tree.{Name, Root, Store}
use Rattle.r4_base.specs.Value.{Value}
use Rattle.r4_base.specs.declared.key.Key.{Key}
use Rattle.r4_content.specs.Edited.{Edits}
use Rattle.r4_extent_growth.proofs.r4_extent_change.Chosen.{picked}
use Rattle.r4_extent_growth.specs.r4_extent_change.Among.{is_losing, losing_twigs}
use Rattle.r4_extent_growth.specs.r4_extent_change.Beside.{without_bytes}
use Rattle.r4_extent_growth.specs.r4_extent_change.Changing.{AreMeasured}
use Rattle.r4_extent_growth.specs.r4_extent_change.Losing.{CanLose, HasLoss}
use Rattle.r4_extent_growth.proofs.Found.{leaf_room, lies_found, told_in}
use Rattle.r4_extent_growth.proofs.Turns.{each}
use Rattle.r4_extent_growth.specs.Coming.{SufficesFor, coming_beside}
use Rattle.r4_extent_growth.specs.Lying.{has_room, have_room, lie_in_leaves}
use Rattle.r4_extent_growth.proofs.r4_extent_loss.LostPieces.{gone_high, gone_low}
use Rattle.r4_extent_growth.specs.r4_extent_loss.Losing.{IsLosing, gone_from, gone_to}
use Rattle.r4_extent_growth.proofs.r4_measure.r4_path.Rising.{hi_is, in_node, level_is, lo_is}
use Rattle.r4_extent_growth.proofs.r4_measure.r4_work.UnitMembers.{between}
use Rattle.r4_extent_growth.specs.r4_measure.r4_path.Steps.{IsNameOf}
use Rattle.r4_extent_growth.specs.r4_measure.Budget.{AreUnplaced, Budget}
use Rattle.r4_extent_growth.specs.r4_measure.Grafting.{IsQuietBelow}
use Rattle.r4_extent_growth.specs.r4_measure.r4_cell.Patch.{HaveNames}
use Rattle.r4_extent_growth.specs.r4_measure.r4_cell.Seen.{CellSeen, node_of}
use Rattle.r4_extent_growth.specs.r4_measure.r4_cell.declared.change.Fresh.{Fresh}
use Rattle.r4_extent_growth.specs.r4_measure.r4_reach.Touched.{Body}
use Rattle.r4_extent_growth.specs.r4_measure.r4_work.Working.{AreCellsIn}
use Rattle.r4_extent_shrink.specs.Going.{HasNumber, IsKnown, MayLeave, may_leave}
use Rattle.r4_extent_shrink.specs.Shrinking.{twigs_losing}
use Rattle.r4_extent_shrink.specs.Shrink.{MayLoseAll, has_numbers}
use Rattle.r4_extent_shrink.proofs.Leaving.{leaving}
use Rattle.r4_extent_shrink.proofs.Numbers.{enough}

pub shrunk : (b : Body) (first : Key) (e : Edits) (f : Fresh) (cells : List CellSeen) → IsLosing b first e → lie_in_leaves cells e ≡ true → have_room (without_bytes e) cells ≡ true
    → has_numbers f cells ≡ true → list_all (may_leave b cells) (losing_twigs b cells) ≡ true → ((c : CellSeen) → Contains cells c → IsKnown b c) → MayLoseAll b e f cells
shrunk b first e f cells losing lie room numbers leave known = record {
  first = first;
  losing = losing;
  sound = λ c at. (known c at).sound;
  twigs = λ c at.
      let (among, on) = picked (is_losing b) cells c at in
      leaving b cells c (known c among) on (each (may_leave b cells) (losing_twigs b cells) leave c at);
  lie = λ k at. lies_found cells k e lie at;
  room = λ c at. leaf_room (without_bytes e) c (each (has_room (without_bytes e)) cells room c at);
  numbers = enough b e f cells numbers;
}

-- ---- with what is known of the part and of the budget

module _ (t : Store Value) (r : Root) (f : Fresh) (cells : List CellSeen) (in_part : AreCellsIn t r f cells) where
  -- what a cell names, and is there, has the name
  named : (c : CellSeen) → Contains cells c → (n : Name) → Contains (node_of c).names n → HasNumber cells n.id → IsNameOf cells n
  named c at n in_n (d, there, id) =
      let fits = in_part.part.named c.id (node_of c) (node_of d) n (in_part.stand c at) in_n (subst (λ k. t k ≡ Some (node_of d)) id (in_part.stand d there)) in
      let level : n.level ≡ d.level = sym fits.level ∙ level_is d in
      let lo : n.lo ≡ rank d.lo = sym fits.lo ∙ lo_is d in
      let hi : n.hi ≡ rank d.hi = sym fits.hi ∙ hi_is d in
      (d, there, λ i. record { id = sym id i; level = level i; lo = lo i; hi = hi i })

  has_loss : (b : Body) (c : CellSeen) → Contains (losing_twigs b cells) c → MayLeave b cells c → HasLoss b cells c
  has_loss b c at may =
      let (among, on) = picked (is_losing b) cells c at in
      let (two, some) = and_parts (c.level == 2) (nat_lt (gone_from b c) (gone_to b c)) on in
      let is_two = eqb-true c.level 2 two in
      let lv = level_is c in
      record {
        pieces = may.pieces;
        spanned = λ k inside.
            let (from, to) = between (gone_from b c) (gone_to b c) k inside in
            let low = gone_low b c in
            let high = gone_high b c in
            elim ((in_part.part.nodes c.id (node_of c) (in_part.stand c among)).covered k (omega (arith, lv, is_two)) (in_node c k (omega (arith, low, from), omega (arith, high, to)))) [
              | inl (n, in_n, below, (n_low, n_high)) ↦ elim (may.clear n in_n (omega (arith, below, lv, is_two))) [
                | inl before ↦ absurd (omega (arith, before, n_high, from))
                | inr behind ↦ absurd (omega (arith, behind, n_low, to))
              ]
              | inr (s, in_s, at_s) ↦ (s, in_s, at_s)
            ];
        first_border = may.first_border;
        last_border = may.last_border;
        begins = may.begins;
        blocks = λ n in_n level inside. named c among n in_n (may.blocks n in_n level inside);
        left = λ n in_n level ends. named c among n in_n (may.left n in_n level ends);
        mkfs_id = may.mkfs_id;
      }

pub can_lose : (b : Body) (e : Edits) (u : Budget) (t : Store Value) (r : Root) (f : Fresh) (cells : List CellSeen) → MayLoseAll b e f cells → AreCellsIn t r f cells → HaveNames cells
    → AreMeasured t r u cells → IsQuietBelow u → AreUnplaced f → SufficesFor u (twigs_losing b e cells) → CanLose b e u t r f cells
can_lose b e u t r f cells may in_part names measured quiet unplaced suffices = record {
  first = may.first;
  losing = may.losing;
  cells_in = in_part;
  names = names;
  measured = measured;
  quiet = quiet;
  sound = may.sound;
  twigs = λ c at. record {
    loss = has_loss t r f cells in_part b c at (may.twigs c at);
    come = suffices (coming_beside b e c) (told_in b e (losing_twigs b cells) c at);
  };
  lie = may.lie;
  room = may.room;
  unplaced = unplaced;
  numbers = may.numbers;
}
