-- A standing twig of a body that comes to extents is ready for its turn, and has it.
use Rattle.std.proofs.Common.{◌≡◌, ◌+◌, ◌-◌, ◌/◌, ◌<◌, ◌≤◌, [], ◌∷◌, refl, sym, subst, ◌∙◌, arith}
use Rattle.std.specs.Prelude.{Contains, Some}
use Rattle.r4_base.specs.Key.{rank}
use Rattle.r4_base.specs.Tree.{Root, Store}
use Rattle.r4_base.specs.Value.{Value}
use Rattle.r4_base.specs.declared.key.Key.{Key}
use Rattle.r4_build.specs.r4_branch.Pieces.{twig_bytes}
use Rattle.r4_extent_build.specs.r4_cell.Seen.{CellSeen, node_of}
use Rattle.r4_extent_build.specs.r4_cell.declared.change.Fresh.{Fresh}
use Rattle.r4_content.specs.Edited.{Edits}
use Rattle.r4_extent_build.specs.r4_twig_turns.Turning.{AreReady, CanRegraftAll, IsReady, TurnAtMost, come_at_most, numbers_for}
use Rattle.r4_extent_build.proofs.r4_twig_turns.TurnByTurn.{all_turns, few_stand}
use Rattle.r4_extent_build.proofs.r4_extent_edit.TurnGraft.{distinct_leaves}
use Rattle.r4_build.specs.r4_measure.Budget.{Budget, most_from}
use Rattle.r4_build.specs.r4_patch.Part.{IsPart}
use Rattle.r4_build.proofs.r4_patch.Members.{have_names, none}
use Rattle.r4_build.specs.r4_path.Grafts.{extra_twigs}
use Rattle.r4_build.proofs.r4_path.Rising.{hi_is, level_is, lo_is}
use Rattle.r4_build.specs.r4_reach.Touched.{Body}
use Rattle.r4_build.specs.r4_work.Working.{IsWorking, now_of, root_of, standing}
use Rattle.r4_build.specs.r4_work.declared.working.WorkingSet.{WorkingSet}
use Rattle.r4_build.proofs.r4_work.InPlace.{now_part, standing_is}
use Rattle.r4_extent_turn.specs.Turning.{AreKept, IsTurnFor, IsTurningBody, Kept, Turn, blocks_turned, last_of, leaves_of, right_number, told_pieces, turning_turn}
use Rattle.r4_extent_turn.specs.TurningIn.{CanTurnOut, IsTurnIn, MayTurnOut, StandsTurn, turns_to}
use Rattle.r4_extent_turn.proofs.Room.{same_bytes}
use Rattle.r4_extent_turn.proofs.TurnOf.{turn_of}

-- what is asked of the twig holds in a part of a tree
pub turn_in_part : (t : Store Value) (r : Root) (f : Fresh) (w : WorkingSet) (b : Body) (x : Turn) → IsWorking t r f w → IsTurnIn b w x → IsTurnFor b x
turn_in_part t r f w b x working s =
    let part : IsPart (now_of w t) (root_of w r) = now_part t r f w working in
    let stands : (c : CellSeen) → Contains (standing w) c → now_of w t c.id ≡ Some (node_of c) = λ c at. standing_is t r f w working c at in
    record {
      pieces = s.pieces;
      node = part.nodes x.twig.id (node_of x.twig) (stands x.twig s.stands.twig);
      level = s.level;
      beside = s.beside;
      named = s.named;
      nodes = λ c at. part.nodes c.id (node_of c) (stands c (s.stands.leaves c at));
      once = have_names (leaves_of x) (distinct_leaves (now_of w t) (rank x.leaf.lo) (rank (last_of x).hi) (leaves_of x) s.beside (λ c at. stands c (s.stands.leaves c at)));
      around = s.around;
      short = s.short;
      no_holes = s.no_holes;
    }

module _ (t : Store Value) (r : Root) (f : Fresh) (w : WorkingSet) (working : IsWorking t r f w) (u : Budget) (b : Body) (first : Key) (e : Edits) (x : Turn) (s : Kept) (g : IsTurningBody b first)
    (c : IsTurnFor b x) (k : AreKept b x s) (stands : StandsTurn w x) (small : twig_bytes (told_pieces b e x s) ≤ 16000) (few : extra_twigs (told_pieces b e x s) ≤ u 2 x.twig.id) where
  some : rank x.twig.lo < rank x.twig.hi
  some = let l = lo_is x.twig in let h = hi_is x.twig in let m = c.node.nonempty in omega (arith, l, h, m)

  pub is_ready : IsReady t w u (turning_turn b e x s) x.twig.id
  is_ready = record {
    node = node_of x.twig;
    node_is = refl;
    at = standing_is t r f w working x.twig stands.twig;
    stands = (x.twig, stands.twig, refl);
    level = level_is x.twig ∙ c.level;
    key = let l = lo_is x.twig in let h = hi_is x.twig in let m = some in (omega (arith, l), omega (arith, h, m));
    turn = λ n high fits. turn_of b x c s k first g e small n high;
    goes = λ n y at. stands.leaves y at;
    named = λ n y at. c.named y at;
    come = λ n. let same = same_bytes b x c e s n (right_number x (n + blocks_turned b e)) in subst (λ m. (m - 4068 + 1023) / 1024 ≤ u 2 x.twig.id) (sym same) few;
  }

-- ---- in a measured set

module _ (b : Body) (first : Key) (e : Edits) (t : Store Value) (r : Root) (x : Turn) (f : Fresh) (w : WorkingSet) (u : Budget) (m : MayTurnOut b first e t r x f w u) where
  pub turn : IsTurnFor b x
  turn = turn_in_part t r f w b x m.measured.working m.turn

  module _ (s : Kept) (k : AreKept b x s) where
    pub ready : IsReady t w u (turning_turn b e x s) x.twig.id
    ready = is_ready t r f w m.measured.working u b first e x s m.turning turn k m.turn.stands (m.room s k) (m.come s k)

    all_ready : AreReady t w u (turns_to b e x s) (x.twig.id ∷ [])
    all_ready = (ready, (λ j at. absurd (none j at)), tt)

    enough : f.next + numbers_for (turns_to b e x s) ≤ f.end
    enough = let n = m.numbers in omega (arith, n)

    pub can_turn : CanRegraftAll t r (turns_to b e x s) f w
    can_turn = all_turns t r (turns_to b e x s) (x.twig.id ∷ []) f w u m.measured m.quiet all_ready m.unplaced.0 m.unplaced.1 enough

    pub few_left : TurnAtMost (most_from u (root_of w r) (standing w) + come_at_most (turns_to b e x s)) t r (turns_to b e x s) f w
    few_left = few_stand (most_from u (root_of w r) (standing w) + come_at_most (turns_to b e x s)) t r (turns_to b e x s) (x.twig.id ∷ []) f w u m.measured m.quiet all_ready m.unplaced.0 m.unplaced.1 enough (omega arith)

  pub can_turn_out : CanTurnOut b e t r x f w
  can_turn_out = record {
    first = first;
    turning = m.turning;
    turn = turn;
    turns = can_turn;
    low = m.unplaced.0;
    numbers = m.numbers;
  }
