-- What twigs get by a plan is a change that gathers.
use Rattle.std.proofs.Common.{◌≡◌, ℕ, ◌≤◌, List, ◌++◌, length, map, sym, subst, arith}
use Rattle.std.proofs.lemmas.List.{length-map}
use Rattle.r4_work.specs.r4_branch.declared.piece.TwigPiece.{TwigPiece}
use Rattle.r4_base.specs.Tree.{Root, Store}
use Rattle.r4_base.specs.Value.{Value}
use Rattle.r4_work.specs.r4_cell.Patch.{HaveNames}
use Rattle.r4_work.specs.r4_cell.Seen.{CellSeen}
use Rattle.r4_work.specs.r4_cell.declared.change.Change.{Change}
use Rattle.r4_work.specs.r4_patch.Following.{without}
use Rattle.r4_work.specs.r4_patch.Joining.{ids_of}
use Rattle.r4_row_edit.specs.Climbing.{row_of}
use Rattle.r4_row_edit.specs.Parting.{CanPart, IsParted}
use Rattle.r4_row_gather.proofs.Gathers.{can_part, new_numbers, old_among, standing_names, still, way}
use Rattle.r4_row_gather.specs.Clearing.{going}
use Rattle.r4_row_gather.specs.Gathering.{HasTwigOf, IsGathered, StandIn}
use Rattle.r4_row_gather.specs.Planning.{IsPlanOf}
use Rattle.r4_row_gather.specs.Rising.{AreRowsOver}
use Rattle.r4_row_gather.specs.declared.planning.Plan.{Plan}

module _ (cells : List CellSeen) (from to : ℕ) (x : Plan) (plan : IsPlanOf cells from to x)
    (above : List (List CellSeen)) (over : AreRowsOver cells 2 x.row above) where
  abbrev parts : List (List TwigPiece)
  parts = map (λ v. v.items) x.parts.items

  few : length parts ≤ length x.row
  few = let long = length-map x.parts.items (λ v. v.items) in let less = plan.few in omega (arith, long, less)

  pub plan_can_part : CanPart x.row parts above
  plan_can_part = can_part cells x.row plan.begin plan.hi plan.row plan.each plan.pieces plan.fates plan.may plan.first
      plan.among parts plan.parts few above over

  pub plan_gathers : (c : Change) (stood : List CellSeen) → IsParted (row_of x.below) x.row parts above c
      → HasTwigOf c.new from to → stood ≡ c.new ++ without (ids_of c.old) cells
      → IsGathered cells from to (record { change = c; cells = stood })
  plan_gathers c stood parted twig stand =
      let made = subst (λ come. IsParted (record { old = going plan.fates; new = come }) x.row parts above c) plan.come
      (subst (λ gone. IsParted (record { old = gone; new = x.below.new }) x.row parts above c) plan.gone parted) in
      let numbers = new_numbers cells x.row plan.begin plan.hi plan.row plan.each plan.pieces plan.fates plan.may plan.first
      plan.among parts plan.parts few above over c made in
      let stays = λ (t : Store Value) (r : Root) (within : StandIn t r cells). still cells x.row plan.begin plan.hi plan.row plan.each plan.pieces plan.fates plan.may
      plan.first plan.among parts plan.parts few above over t r within c made in
      record {
        brought = record {
          stays = record {
            still = stays;
            root = made.root;
            old = old_among cells x.row plan.begin plan.hi plan.row plan.each plan.pieces plan.fates plan.may plan.first
                plan.among parts plan.parts few above over c made;
            new = numbers;
            stand = stand;
            names = λ t r within names. subst HaveNames (sym stand)
                (standing_names cells c.old c.new names (stays t r within).change.new_names numbers);
          };
          below = twig;
        };
        way = way cells x.row plan.begin plan.hi plan.row plan.each plan.pieces plan.fates plan.may plan.first
            plan.among parts plan.parts few above over c made from to
            plan.clear;
      }
