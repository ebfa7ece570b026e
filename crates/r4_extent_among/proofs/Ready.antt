-- A standing twig among whose extents values come is ready for its turn, and has it.
use Rattle.std.proofs.Common.{◌≡◌, ◌≢◌, inl, inr, ℕ, Bool, List, [], ◌∷◌, ◌+◌, ◌≤◌, refl, sym, ap, subst, ◌∙◌, arith}
use Rattle.std.specs.Prelude.{◌↔◌, Option}
use Rattle.r4_base.specs.Tree.{Holds, Node, Root, Store}
use Rattle.r4_base.specs.Value.{Value}
use Rattle.r4_build.specs.r4_branch.Pieces.{twig_bytes, units_of}
use Rattle.r4_build.specs.r4_branch.declared.piece.TwigPiece.{TwigPiece}
use Rattle.r4_build.specs.Building.{set_by}
use Rattle.r4_extent_build.specs.r4_cell.Seen.{CellSeen, node_of}
use Rattle.r4_extent_build.specs.r4_cell.declared.change.Fresh.{Fresh}
use Rattle.r4_content.specs.Edited.{Edits}
use Rattle.r4_extent_build.specs.Looping.{AreTurned}
use Rattle.r4_extent_build.specs.r4_twig_turns.Turning.{AreReady, CanRegraftAll, IsReady, TurnAtMost, behind, come_at_most, numbers_for}
use Rattle.r4_extent_build.proofs.r4_twig_turns.TurnByTurn.{all_turns, few_stand}
use Rattle.r4_build.specs.r4_measure.Budget.{AreUnplaced, Budget, most_from}
use Rattle.r4_build.specs.r4_measure.Grafting.{Beside, comes_below}
use Rattle.r4_build.specs.r4_patch.Effect.{Placed}
use Rattle.r4_build.specs.r4_patch.Part.{IsPart}
use Rattle.r4_build.proofs.r4_patch.Members.{none}
use Rattle.r4_build.proofs.r4_path.Rising.{hi_is, level_is, lo_is}
use Rattle.r4_build.specs.r4_reach.Needs.{leaf_edits}
use Rattle.r4_build.specs.r4_reach.Touched.{Body}
use Rattle.r4_extent_build.specs.r4_twig_work.Regrafting.{SetsBelow, StandsBelow}
use Rattle.r4_build.specs.r4_work.Remaking.{Changes}
use Rattle.r4_build.specs.r4_work.Working.{IsWorking, now_of, root_of, standing}
use Rattle.r4_build.specs.r4_work.declared.working.WorkingSet.{WorkingSet}
use Rattle.r4_build.proofs.r4_work.InPlace.{now_part, standing_is}
use Rattle.r4_extent_among.specs.Among.{AreNewLeaves, IsAmong, among_need, among_turn, is_put_among, more_twigs}
use Rattle.r4_extent_among.specs.AmongIn.{CanPutAmong, IsAmongIn, MayPutAmong, numbers_among, turns_among}
use Rattle.r4_extent_among.specs.LeavesLeft.{LeavesLeaves}
use Rattle.r4_extent_among.proofs.SetsValues.{sets_below}
use Rattle.r4_extent_among.proofs.TurnOf.{few_bytes, few_leaves, turn_of}

-- what is asked of the twig holds in a part of a tree
pub among_in_part : (b : Option Body) (e : Edits) (t : Store Value) (r : Root) (f : Fresh) (w : WorkingSet) (twig : CellSeen) → IsWorking t r f w → IsAmongIn b e w twig → IsAmong b e twig
among_in_part b e t r f w twig working is =
    let part : IsPart (now_of w t) (root_of w r) = now_part t r f w working in
    record {
      sound = is.sound;
      node = part.nodes twig.id (node_of twig) (standing_is t r f w working twig is.stands);
      level = is.level;
      free = is.free;
    }

module _ (b : Option Body) (e : Edits) (t : Store Value) (r : Root) (f : Fresh) (w : WorkingSet) (u : Budget) (twig : CellSeen) (cells : List CellSeen)
    (working : IsWorking t r f w) (here_is : IsAmongIn b e w twig) (are : AreNewLeaves b e twig cells) (small : among_need b e twig ≤ 16000) (few : more_twigs (among_need b e twig) ≤ u 2 twig.id) where
  is : IsAmong b e twig
  is = among_in_part b e t r f w twig working here_is

  -- twigs come for no more than what is needed
  few_twigs : (n : ℕ) → more_twigs (twig_bytes ((among_turn twig cells).pieces n)) ≤ u 2 twig.id
  few_twigs n = let h = few_bytes b e twig cells is are n in omega (arith, h, few)

  pub is_ready : IsReady t w u (among_turn twig cells) twig.id
  is_ready = record {
    node = node_of twig;
    node_is = refl;
    at = standing_is t r f w working twig here_is.stands;
    stands = (twig, here_is.stands, refl);
    level = level_is twig ∙ here_is.level;
    key = let l = lo_is twig in let h = hi_is twig in let m = is.node.nonempty in (omega (arith, l), omega (arith, l, h, m));
    turn = λ n high fits. turn_of b e twig cells is are n high small;
    goes = λ n y at. absurd (none y at);
    named = λ n y at. absurd (none y at);
    come = few_twigs;
  }

-- ---- what the turn does

-- another cell of the same node
other_cell : (c twig : CellSeen) (qs : List TwigPiece) (x : Beside) (at : ℕ → Bool) (to : ℕ → Option (Placed Value)) → node_of twig ≡ node_of c → SetsBelow c qs x at to → SetsBelow twig qs x at to
other_cell c twig qs x at to same s = record {
  held = λ k h. let (z, in_it, holds) = s.held k h in elim in_it [
    | inl m ↦ (z, inl m, holds)
    | inr is ↦ (twig, inr refl, subst (λ (y : Node Value). Holds y k) (ap node_of is ∙ sym same) holds)
  ];
  there = s.there;
  others = λ k u h. subst (λ (y : Node Value). StandsBelow (comes_below x) (units_of qs) k u ↔ StandsBelow x.below.old y.units k u) (sym same) (s.others k u h);
}

pub set_among : (b : Option Body) (e : Edits) (t : Store Value) (r : Root) (twig : CellSeen) (cells : List CellSeen) (f : Fresh) (w now : WorkingSet) → CanPutAmong b e t r twig f w → AreNewLeaves b e twig cells
    → AreTurned t r (turns_among twig cells) f w now → Changes w now (is_put_among b e twig) (set_by (leaf_edits b e))
set_among b e t r twig cells f w now can are (after, (v, turned, does, rest)) =
    let same = (can.turns cells are).1 turned.twig turned.ups turned.path in
    let at = is_put_among b e twig in
    let to = set_by (leaf_edits b e) in
    subst (λ z. Changes w z at to) (sym rest)
    (does turned.twig turned.ups at to turned.path
    (other_cell twig turned.twig ((among_turn twig cells).pieces f.next) ((among_turn twig cells).beside f.next) at to same (sets_below b e twig cells can.among are f.next can.low)))

-- ---- in a measured set

module _ (b : Option Body) (e : Edits) (t : Store Value) (r : Root) (twig : CellSeen) (f : Fresh) (w : WorkingSet) (u : Budget) (m : MayPutAmong b e t r twig f w u) where
  pub among : IsAmong b e twig
  among = among_in_part b e t r f w twig m.measured.working m.among

  module _ (cells : List CellSeen) (are : AreNewLeaves b e twig cells) where
    pub ready : IsReady t w u (among_turn twig cells) twig.id
    ready = is_ready b e t r f w u twig cells m.measured.working m.among are m.room m.come

    all_ready : AreReady t w u (turns_among twig cells) (twig.id ∷ [])
    all_ready = (ready, (λ j at. absurd (none j at)), tt)

    pub enough : f.next + numbers_for (turns_among twig cells) ≤ f.end
    enough = let n = m.numbers in let l = few_leaves b e twig cells are in omega (arith, n, l)

    pub can_turn : CanRegraftAll t r (turns_among twig cells) f w
    can_turn = all_turns t r (turns_among twig cells) (twig.id ∷ []) f w u m.measured m.quiet all_ready m.unplaced.0 m.unplaced.1 enough

    pub few_left : TurnAtMost (most_from u (root_of w r) (standing w) + come_at_most (turns_among twig cells)) t r (turns_among twig cells) f w
    few_left = few_stand (most_from u (root_of w r) (standing w) + come_at_most (turns_among twig cells)) t r (turns_among twig cells) (twig.id ∷ []) f w u m.measured m.quiet all_ready m.unplaced.0 m.unplaced.1 enough (omega arith)

  pub can_put : CanPutAmong b e t r twig f w
  can_put = record { among = among; turns = can_turn; low = m.unplaced.0; numbers = m.numbers }

-- ---- another twig

pub may_follow : (b : Option Body) (e : Edits) (t : Store Value) (r : Root) (twig other : CellSeen) (cells : List CellSeen) (f : Fresh) (w now : WorkingSet) (u : Budget) → (done : LeavesLeaves u t r f w now twig cells)
    → AreUnplaced f → IsAmongIn b e w other → other.id ≢ twig.id → among_need b e other ≤ 16000 → more_twigs (among_need b e other) ≤ u 2 other.id
    → (behind (among_turn twig cells) f).next + numbers_among b e other ≤ f.end → MayPutAmong b e t r other (behind (among_turn twig cells) f) now done.left
may_follow b e t r twig other cells f w now u done unplaced among ne small few numbers =
    let two = among.level in
    let h = done.others other among.stands (omega (arith, two)) ne in
    record {
      measured = done.measured;
      quiet = done.quiet;
      among = record { stands = h.0; sound = among.sound; level = among.level; free = among.free };
      room = small;
      come = let same = subst (λ l. done.left l other.id ≡ u l other.id) two h.1 in omega (arith, few, same);
      unplaced = let low = unplaced.0 in (omega (arith, low), unplaced.1);
      numbers = numbers;
    }
