-- Twigs of a growing body that have their turns, one after the other.
use Rattle.std.proofs.Common.{◌≡◌, ℕ, ◌+◌, ◌≤◌, List, [], ◌∷◌, inl, inr, refl, sym, subst, ◌∙◌, arith}
use Rattle.std.specs.Prelude.{Contains}
use Rattle.std.proofs.lemmas.List.Sums.{sum_by-cons}
use Rattle.r4_base.specs.Tree.{Root, Store}
use Rattle.r4_base.specs.Value.{Value}
use Rattle.r4_base.specs.declared.key.Key.{Key}
use Rattle.r4_build.specs.Making.{IsOf}
use Rattle.r4_content.specs.Edited.{Edits}
use Rattle.r4_extent_loss.proofs.r4_extent_build.GrowingReady.{is_ready}
use Rattle.r4_extent_loss.proofs.r4_extent_build.r4_twig_turns.TurnByTurn.{all_turns}
use Rattle.r4_extent_loss.specs.r4_extent_build.Growing.{IsGrowing}
use Rattle.r4_extent_loss.specs.r4_extent_build.Looping.{AreTurned, CanTurnAll, behind_all, turns_of}
use Rattle.r4_extent_loss.specs.r4_extent_build.Turns.{growing_turn}
use Rattle.r4_extent_loss.specs.r4_extent_build.r4_twig_turns.Turning.{AreReady, TwigTurn}
use Rattle.r4_build.proofs.r4_measure.Loop.{of_id}
use Rattle.r4_build.proofs.r4_measure.r4_patch.Members.{Distinct, cases, distinct, here, later, none}
use Rattle.r4_build.specs.r4_measure.Budget.{Budget}
use Rattle.r4_build.specs.r4_measure.r4_cell.Seen.{CellSeen}
use Rattle.r4_build.specs.r4_measure.r4_cell.declared.change.Fresh.{Fresh}
use Rattle.r4_build.specs.r4_measure.r4_patch.Joining.{ids_of}
use Rattle.r4_build.specs.r4_measure.r4_reach.Touched.{Body}
use Rattle.r4_build.specs.r4_measure.r4_work.declared.working.WorkingSet.{WorkingSet}
use Rattle.r4_extent_change.specs.Turned.{LeavesLeaves, MayTurnAll, blocks_coming}
use Rattle.r4_extent_change.proofs.AllTurned.{AreDone, IsMild, all_done, coming}

-- only data blocks come
grown_coming : (b : Body) (e : Edits) (twigs : List CellSeen) → coming (turns_of b e twigs) ≡ blocks_coming b e twigs
grown_coming b e [] = refl
grown_coming b e (c ∷ cs) =
    let n = sum_by-cons (λ (d : TwigTurn). d.blocks + d.leaves) (growing_turn b e c) (turns_of b e cs) in
    let k = sum_by-cons (λ (d : CellSeen). (growing_turn b e d).blocks) c cs in
    let h = grown_coming b e cs in
    omega (arith, n, k, h)

turn_among : (b : Body) (e : Edits) (twigs : List CellSeen) (d : TwigTurn) → Contains (turns_of b e twigs) d → (c : CellSeen) × (d ≡ growing_turn b e c)
turn_among b e [] d at = absurd (none d at)
turn_among b e (c ∷ cs) d at = elim (cases (growing_turn b e c) d (turns_of b e cs) at) [
  | inl is ↦ (c, is)
  | inr more ↦ turn_among b e cs d more
]

mild : (b : Body) (e : Edits) (c : CellSeen) → IsMild (growing_turn b e c)
mild b e c = record { few = λ n. omega arith; goes = λ n z at one. absurd (none z at) }

module _ (b : Body) (first : Key) (e : Edits) (t : Store Value) (r : Root) (growing : IsGrowing b first) where
  -- ---- each has its condition at its turn

  module _ (u : Budget) (f : Fresh) (w : WorkingSet) where
    ready_all : (all twigs : List CellSeen) → MayTurnAll b e u t r f w all → ((c : CellSeen) → Contains twigs c → Contains all c) → Distinct twigs → AreReady t w u (turns_of b e twigs) (ids_of twigs)
    ready_all all [] is among apart = tt
    ready_all all (c ∷ cs) is among (first_apart, apart) =
        let may = is.each c (among c (here c cs)) in (
          is_ready t r f w is.measured.working u b first e c may.twig.level (is.stand c (among c (here c cs))) growing may.clear may.bytes may.come,
          (λ j m same. let (x, at, id) = of_id cs j m in first_apart x at (sym (id ∙ same))),
          ready_all all cs is (λ d m. among d (later c d cs m)) apart,
        )

    module _ (twigs : List CellSeen) (is : MayTurnAll b e u t r f w twigs) where
      ready : AreReady t w u (turns_of b e twigs) (ids_of twigs)
      ready = ready_all twigs twigs is (λ c m. m) (distinct twigs is.names)

      pub can_all : CanTurnAll b e t r twigs f w
      can_all = record {
        turns = all_turns t r (turns_of b e twigs) (ids_of twigs) f w u is.measured is.quiet ready is.unplaced.0 is.unplaced.1 is.numbers;
        each = λ c m. (is.each c m).twig;
        low = is.unplaced.0;
        numbers = is.numbers;
      }

      module _ (now : WorkingSet) (turned : AreTurned t r (turns_of b e twigs) f w now) where
        done : AreDone t r u f w now (turns_of b e twigs)
        done = all_done t r u f w now (turns_of b e twigs) (ids_of twigs) is.measured is.quiet ready (λ d m. let (c, same) = turn_among b e twigs d m in subst IsMild (sym same) (mild b e c)) is.unplaced.0 is.unplaced.1 is.numbers turned

        pub leaves_left : LeavesLeaves b e u t r f w now twigs
        leaves_left =
            let is_done = done in
            record {
              left = is_done.left;
              measured = is_done.measured;
              quiet = is_done.quiet;
              few = let n = is_done.few in let k = grown_coming b e twigs in omega (arith, n, k);
              leaves = λ c at one. is_done.stays c at one (λ d m n z below same. let (y, is_turn) = turn_among b e twigs d m in none z (subst (λ (g : TwigTurn). Contains (g.beside n).below.old z) is_turn below));
            }

        pub still_of_cells : (cells : List CellSeen) (from : ℕ) → from ≤ f.next → IsOf cells from f w → IsOf cells from (behind_all (turns_of b e twigs) f) now
        still_of_cells = done.of_cells
