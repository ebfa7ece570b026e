-- Twigs of a measured set of which blocks go: all of them may be packed anew.
use Rattle.std.proofs.Common.{◌+◌, ◌≤◌, List, [], ◌∷◌, map, sym, ◌∙◌, arith}
use Rattle.std.specs.Prelude.{Contains, Some}
use Rattle.r4_base.specs.Tree.{Root, Store}
use Rattle.r4_base.specs.Value.{Value}
use Rattle.r4_base.specs.declared.key.Key.{Key}
use Rattle.r4_extent_build.specs.r4_cell.Seen.{CellSeen, node_of}
use Rattle.r4_extent_build.specs.r4_cell.declared.change.Fresh.{Fresh}
use Rattle.r4_content.specs.Edited.{Edits}
use Rattle.r4_extent_build.specs.r4_measure.Budget.{Budget, most_from}
use Rattle.r4_extent_build.proofs.r4_measure.Loop.{of_id}
use Rattle.r4_extent_build.specs.r4_patch.Joining.{ids_of}
use Rattle.r4_extent_build.proofs.r4_patch.Members.{Distinct, distinct, here, later}
use Rattle.r4_extent_build.specs.r4_path.Grafts.{extra_twigs}
use Rattle.r4_extent_build.specs.r4_reach.Needs.{pieces_after}
use Rattle.r4_extent_build.specs.r4_reach.Touched.{Body}
use Rattle.r4_extent_build.specs.r4_twig_turns.Turning.{AreReady, TurnAtMost, come_at_most}
use Rattle.r4_extent_build.proofs.r4_twig_turns.TurnByTurn.{all_turns, few_stand}
use Rattle.r4_extent_build.specs.r4_work.Working.{IsWorking, root_of, standing}
use Rattle.r4_extent_build.specs.r4_work.declared.working.WorkingSet.{WorkingSet}
use Rattle.r4_extent_loss.specs.Losing.{IsLosing, Loss}
use Rattle.r4_extent_loss.specs.LosingEach.{CanLoseAll, IsLossIn, MayGo, losing_turns}
use Rattle.r4_extent_loss.proofs.InParts.{loss_of_part}
use Rattle.r4_extent_loss.proofs.Ready.{is_ready}

module _ (b : Body) (first : Key) (e : Edits) (t : Store Value) (r : Root) (f : Fresh) (w : WorkingSet) (u : Budget) (losing : IsLosing b first e) (working : IsWorking t r f w) where
  are_ready : (xs : List Loss) → ((x : Loss) → Contains xs x → IsLossIn b w x) → ((x : Loss) → Contains xs x → extra_twigs (pieces_after (Some b) e (node_of x.twig) []) ≤ u 2 x.twig.id)
      → Distinct (map (λ (x : Loss). x.twig) xs) → AreReady t w u (losing_turns b e xs) (ids_of (map (λ (x : Loss). x.twig) xs))
  are_ready [] each come apart = tt
  are_ready (x ∷ xs) each come (other, more) =
      let s = each x (here x xs) in (
        is_ready t r f w working u b first e x losing (loss_of_part t r f w working b x s) s.stands (come x (here x xs)),
        (λ j at same. let (d, at_d, id) = of_id (map (λ (y : Loss). y.twig) xs) j at in other d at_d (sym (id ∙ same))),
        are_ready xs (λ y at. each y (later x y xs at)) (λ y at. come y (later x y xs at)) more,
      )

module _ (b : Body) (first : Key) (e : Edits) (t : Store Value) (r : Root) (xs : List Loss) (f : Fresh) (w : WorkingSet) (u : Budget) (m : MayGo b first e t r xs f w u) where
  abbrev pub twigs : List CellSeen
  twigs = map (λ (x : Loss). x.twig) xs

  pub ready : AreReady t w u (losing_turns b e xs) (ids_of twigs)
  ready = are_ready b first e t r f w u m.losing m.measured.working xs m.each m.come (distinct twigs m.names)

  pub may_lose : CanLoseAll b e t r xs f w
  may_lose = record {
    first = first;
    losing = m.losing;
    turns = all_turns t r (losing_turns b e xs) (ids_of twigs) f w u m.measured m.quiet ready m.unplaced.0 m.unplaced.1 m.numbers;
    each = λ x at. loss_of_part t r f w m.measured.working b x (m.each x at);
    low = m.unplaced.0;
    numbers = m.numbers;
  }

  pub few_left : TurnAtMost (most_from u (root_of w r) (standing w) + come_at_most (losing_turns b e xs)) t r (losing_turns b e xs) f w
  few_left = few_stand (most_from u (root_of w r) (standing w) + come_at_most (losing_turns b e xs)) t r (losing_turns b e xs) (ids_of twigs) f w u m.measured m.quiet ready m.unplaced.0 m.unplaced.1 m.numbers (omega arith)
