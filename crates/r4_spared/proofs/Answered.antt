-- What is asked of an answer on what a command reaches, so that it can be built.
use Rattle.std.specs.Prelude.{◌≡◌, ℕ, ◌<◌, ◌≤◌, List, Contains, Option, None, IsSome}
use Rattle.std.proofs.Common.{sym, subst}
use Rattle.std.proofs.lemmas.List.Elements.{All-contains}
use Rattle.r4_base.specs.Tree.{Node}
use Rattle.r4_base.specs.Value.{Value}
use Rattle.r4_search.specs.r4_cell.Patch.{by_name, root_of_pair}
use Rattle.r4_search.specs.r4_cell.Seen.{CellSeen}
use Rattle.r4_search.specs.r4_cell.declared.change.Fresh.{Fresh}
use Rattle.r4_search.specs.r4_cell.declared.change.Root.{Root as RootPair}
use Rattle.r4_content.specs.Edited.{changed, is_in}
use Rattle.r4_content.specs.Fields.{HasBytePaths}
use Rattle.r4_content.specs.declared.command.Command.{Command}
use Rattle.r4_build.specs.r4_leaf_edits.Made.{spread_keys}
use Rattle.r4_build.proofs.r4_patch.Members.{distinct, found, there}
use Rattle.r4_build.specs.r4_reach.Answer.{IsReachOf}
use Rattle.r4_build.specs.r4_reach.Leaves.{LieInLeaves}
use Rattle.r4_build.specs.r4_reach.Needs.{demand_on}
use Rattle.r4_build.specs.r4_reach.Reach.{IsWritten}
use Rattle.r4_build.specs.r4_reach.Touched.{body_on, edits_on, reads_on}
use Rattle.r4_suited.specs.Suited.{IsAccepted}
use Rattle.r4_suited.proofs.Cells.{reach_lawful}
use Rattle.r4_build.specs.Building.{CanBuild, HaveLawfulKeys}
use Rattle.r4_spared.specs.Spared.{AreAccepted, ChangesLeaves, HasNumbers, HasTask, MayStandAll}
use Rattle.r4_spared.proofs.Small.{builds}

pub all_accepted : (cells : List CellSeen) → MayStandAll cells → AreAccepted (by_name cells)
all_accepted cells h = record {
  cells = λ i c at.
      let (x, among, id, says) = found cells i c at in
      (x, says, h.whole x among, All-contains IsAccepted cells x h.accepted among);
}

module _ (root : RootPair) (c : Command) (met reads writes : List CellSeen) (rises : Option RootPair)
    (h : IsReachOf root c met reads writes rises) (stand : MayStandAll met) (paths : HasBytePaths c)
    (tails : spread_keys (body_on c h.seen h.in_extents) ≡ None)
    (lie : LieInLeaves (by_name met) (is_in (changed (edits_on c h.seen)))) where
  pub changes_leaves : ChangesLeaves c h.seen h.in_extents (by_name met) (root_of_pair root)
  changes_leaves = record {
    part = h.part;
    accepted = all_accepted met stand;
    paths = paths;
    rises = h.sees.rises;
    lawful = reach_lawful root c met reads writes rises h stand.accepted;
    tails = tails;
    lie = lie;
  }

  module _ (f : Fresh) (height : (root_of_pair root).height ≤ 8)
      (low : IsSome rises → (root_of_pair root).height < 8)
      (has : HasNumbers (by_name met) (root_of_pair root) f writes) where
    task : HasTask (demand_on c h.seen h.in_extents) (by_name met) (root_of_pair root) f writes
    task = record {
      height = height;
      low = λ x asking. low (h.root_pair.1 (x, asking));
      cells_in = record {
        part = h.part;
        stand = λ x at. there met x (distinct met stand.names) ((h.written x).0 at).0;
        free = has.free;
        root_number = has.root_number;
      };
      written = λ i w.
          let (n, at, why) = w in
          let (x, among, id, says) = found met i n at in (
            x,
            (h.written x).1
                (among, subst (λ (j : ℕ). IsWritten (demand_on c h.seen h.in_extents) (by_name met) j) (sym id) w),
            id,
          );
      names = has.names;
      unplaced = has.unplaced;
      numbers = has.numbers;
    }

    pub answer_builds : HaveLawfulKeys (edits_on c h.seen)
        → CanBuild (body_on c h.seen h.in_extents) (edits_on c h.seen) (reads_on c h.seen h.in_extents) (by_name met)
        (root_of_pair root) f writes
    answer_builds keys = builds c h.seen h.in_extents (by_name met) (root_of_pair root) changes_leaves f writes keys
        task
