-- A standing twig of which blocks go is ready for its turn.
use Rattle.std.proofs.Common.{◌+◌, ◌-◌, ◌/◌, ◌^◌, ◌≤◌, [], refl, sym, subst, ◌∙◌, arith}
use Rattle.std.specs.Prelude.{Some}
use Rattle.r4_base.specs.Tree.{Root, Store}
use Rattle.r4_base.specs.Value.{Value}
use Rattle.r4_base.specs.declared.key.Key.{Key}
use Rattle.r4_extent_build.specs.r4_cell.Seen.{node_of}
use Rattle.r4_extent_build.specs.r4_cell.declared.change.Fresh.{Fresh}
use Rattle.r4_content.specs.Edited.{Edits}
use Rattle.r4_extent_build.specs.r4_measure.Budget.{Budget}
use Rattle.r4_extent_build.specs.r4_path.Grafts.{extra_twigs}
use Rattle.r4_extent_build.proofs.r4_path.Rising.{hi_is, level_is, lo_is}
use Rattle.r4_extent_build.specs.r4_reach.Needs.{pieces_after}
use Rattle.r4_extent_build.specs.r4_reach.Touched.{Body}
use Rattle.r4_extent_build.specs.r4_twig_turns.Turning.{IsReady}
use Rattle.r4_extent_build.specs.r4_work.Working.{IsWorking}
use Rattle.r4_extent_build.specs.r4_work.declared.working.WorkingSet.{WorkingSet}
use Rattle.r4_extent_build.proofs.r4_work.InPlace.{standing_is}
use Rattle.r4_extent_loss.specs.Losing.{IsLosing, IsLossOf, Loss, losing_turn}
use Rattle.r4_extent_loss.specs.LosingEach.{StandsLoss}
use Rattle.r4_extent_loss.proofs.LosingTurns.{bytes_are, turn_of}
use Rattle.r4_extent_loss.proofs.LostPieces.{some}

module _ (t : Store Value) (r : Root) (f : Fresh) (w : WorkingSet) (working : IsWorking t r f w) (u : Budget) (b : Body) (first : Key) (e : Edits) (x : Loss) (g : IsLosing b first e) (c : IsLossOf b x) (s : StandsLoss w x)
    (few : extra_twigs (pieces_after (Some b) e (node_of x.twig) []) ≤ u 2 x.twig.id) where
  pub is_ready : IsReady t w u (losing_turn b e x) x.twig.id
  is_ready = record {
    node = node_of x.twig;
    node_is = refl;
    at = standing_is t r f w working x.twig s.twig;
    stands = (x.twig, s.twig, refl);
    level = level_is x.twig ∙ c.level;
    key = let l = lo_is x.twig in let h = hi_is x.twig in let m = some b x c in (omega (arith, l), omega (arith, h, m));
    turn = λ n high small. turn_of b x c first e g n high;
    goes = λ n y at. s.goes y at;
    named = λ n y at. (turn_of b x c first e g (2 ^ 63) (omega arith)).goes y at;
    come = λ n. let same = bytes_are b x c first e g n in subst (λ m. (m - 4068 + 1023) / 1024 ≤ u 2 x.twig.id) (sym same) few;
  }
