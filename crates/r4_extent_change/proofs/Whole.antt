-- The whole change, step by step: what each step needs, and what it leaves for the next one.
use Rattle.std.proofs.Common.{◌≡◌, ℕ, ◌+◌, ◌*◌, ◌^◌, ◌<◌, ◌≤◌, Bool, List, length, arith}
use Rattle.std.specs.Prelude.{◌==◌, Contains, Some}
use Rattle.std.proofs.lemmas.Bool.{and_parts, eqb-true}
use Rattle.r4_base.specs.Tree.{Root, Store}
use Rattle.r4_base.specs.Value.{Value}
use Rattle.r4_build.specs.Making.{CanMake, IsOf, MakeAtMost}
use Rattle.r4_content.specs.Edited.{Edits}
use Rattle.r4_extent_loss.proofs.r4_extent_build.AllTurns.{all_set}
use Rattle.r4_extent_loss.specs.r4_extent_build.Looping.{AreKeysOfEach, AreTurned, CanTurnAll, behind_all, keys_of_each, turns_of}
use Rattle.r4_extent_loss.specs.r4_extent_build.Setting.{bytes_after}
use Rattle.r4_extent_renew.specs.Overwriting.{AreSetAmong, AreStandingCells, StaysMeasured}
use Rattle.r4_build.proofs.r4_measure.r4_patch.Members.{distinct, have_names}
use Rattle.r4_build.specs.r4_measure.Budget.{Budget}
use Rattle.r4_build.specs.r4_measure.Measured.{IsMeasured}
use Rattle.r4_build.specs.r4_measure.r4_cell.Seen.{CellSeen, node_of}
use Rattle.r4_build.specs.r4_measure.r4_cell.declared.change.Fresh.{Fresh}
use Rattle.r4_build.specs.r4_measure.r4_reach.Needs.{changes_pieces}
use Rattle.r4_build.specs.r4_measure.r4_reach.Touched.{Body}
use Rattle.r4_build.specs.r4_measure.r4_work.Remaking.{Changes}
use Rattle.r4_build.specs.r4_measure.r4_work.Working.{IsStart, standing}
use Rattle.r4_build.specs.r4_measure.r4_work.declared.working.WorkingSet.{WorkingSet}
use Rattle.r4_extent_loss.specs.r4_extent_build.r4_twig_turns.r4_twig_work.Renewing.{IsRenewed, StandAsBefore}
use Rattle.r4_extent_change.specs.Beside.{is_turning, turning_among, without_bytes}
use Rattle.r4_extent_change.specs.Changing.{CanGrow, most_grown}
use Rattle.r4_extent_change.specs.Turned.{LeavesLeaves, MayTurnAll}
use Rattle.r4_extent_change.specs.Wider.{GoesOn}
use Rattle.r4_extent_change.proofs.AllTurned.{left_over}
use Rattle.r4_extent_change.proofs.Chosen.{picked, picked_apart}
use Rattle.r4_extent_change.proofs.GrownTurns.{can_all, leaves_left, still_of_cells}
use Rattle.r4_extent_change.proofs.AtStart.{renewed_of, start_few, start_measured, start_stands, still_stand}
use Rattle.r4_extent_change.proofs.LeafTurns.{can_make, few_made}
use Rattle.r4_extent_change.proofs.TwigTurn.{as_wide}

module _ (b : Body) (e : Edits) (u : Budget) (t : Store Value) (r : Root) (f : Fresh) (cells : List CellSeen) (is : CanGrow b e u t r f cells) (w0 : WorkingSet) (start : IsStart cells w0) where
  abbrev twigs : List CellSeen
  twigs = turning_among b e cells

  abbrev beside : Edits
  beside = without_bytes e

  numbers_end : f.next ≤ f.end
  numbers_end = let n = is.numbers in omega (arith, n)

  pub blocks_stand : AreStandingCells t r f w0 cells
  blocks_stand = start_stands cells w0 start t r f is.cells_in is.names numbers_end is.blocks

  pub at_start : IsMeasured t r f w0 u
  at_start = start_measured cells w0 start t r f is.cells_in u is.measured

  twig_in : (c : CellSeen) → Contains twigs c → Contains cells c × (c.level ≡ 2)
  twig_in c m =
      let (at, on) = picked (is_turning b e) cells c m in
      (at, eqb-true c.level 2 (and_parts (c.level == 2) (changes_pieces (Some b) e (node_of c)) on).0)

  module _ (w1 : WorkingSet) (stays : StaysMeasured t r f w0 w1 u) (olds news : List CellSeen) (among : AreSetAmong e cells olds) (renewed : IsRenewed t r f w0 w1 olds news) where
    stand : (c : CellSeen) → Contains cells c → 1 ≤ c.level → Contains (standing w1) c
    stand = still_stand cells w0 start e w1 olds news is.names among t r f renewed

    pub may_turn_all : MayTurnAll b e u t r f w1 twigs
    may_turn_all = record {
      measured = stays.measured;
      quiet = is.quiet;
      each = is.twigs;
      stand = λ c m. let (at, two) = twig_in c m in stand c at (omega (arith, two));
      names = have_names twigs (picked_apart (is_turning b e) cells (distinct cells is.names));
      unplaced = is.unplaced;
      numbers = let n = is.numbers in omega (arith, n);
    }

    pub can_twigs : CanTurnAll b e t r twigs f w1
    can_twigs = can_all b is.first e t r is.growing u f w1 twigs may_turn_all

    module _ (w2 : WorkingSet) (turned : AreTurned t r (turns_of b e twigs) f w1 w2) where
      abbrev left : Fresh
      left = behind_all (turns_of b e twigs) f

      leaves : LeavesLeaves b e u t r f w1 w2 twigs
      leaves = leaves_left b is.first e t r is.growing u f w1 twigs may_turn_all w2 turned

      leaf_stands : (c : CellSeen) → Contains cells c → c.level ≡ 1 → GoesOn w2 c
      leaf_stands c at one = (c, leaves.leaves c (stand c at (omega (arith, one))) one, as_wide c)

      pub left_low : 2 ^ 63 ≤ left.next
      left_low = let n = (left_over (turns_of b e twigs) f).0 in let low = is.unplaced.0 in omega (arith, n, low)

      left_high : left.end < 2 ^ 64
      left_high = let n = (left_over (turns_of b e twigs) f).1 in let high = is.unplaced.1 in omega (arith, n, high)

      left_enough : left.next + 64 * length cells ≤ left.end
      left_enough = let n = left_over (turns_of b e twigs) f in let m = is.numbers in omega (arith, n, m)

      pub left_ends : left.next ≤ left.end
      left_ends = let n = left_enough in omega (arith, n)

      pub can_leaves : CanMake t r beside cells left w2
      can_leaves = can_make beside t r left w2 leaves.left leaves.measured cells is.names leaf_stands is.room left_low left_high left_enough

      pub few_leaves : MakeAtMost (most_grown b e u r cells) t r beside cells left w2
      few_leaves =
          let a = start_few cells w0 start t r f is.cells_in u is.measured in
          let d = stays.few in
          let g = leaves.few in
          few_made beside t r left w2 leaves.left leaves.measured cells is.names leaf_stands is.room left_low left_high left_enough (most_grown b e u r cells) (omega (arith, a, d, g))

      pub of_those : StandAsBefore w0 w1 → IsOf cells f.next left w2
      of_those as_before = still_of_cells b is.first e t r is.growing u f w1 twigs may_turn_all w2 turned cells f.next (omega arith) (renewed_of cells w0 start w1 f as_before)

      pub twigs_change : (at : CellSeen → ℕ → Bool) → AreKeysOfEach b e twigs at → Changes w1 w2 (keys_of_each at twigs) (bytes_after e)
      twigs_change at keys = all_set b is.first e t r twigs f w1 w2 at is.growing keys can_twigs.turns (let low = is.unplaced.0 in omega (arith, low)) turned
