-- What is reached on the tests' device can be built (docs/volume.md, "Building").
use Rattle.std.proofs.Common.{◌≡◌, ◌∙◌, ℕ, ◌<◌, ◌≤◌, ◌%◌, List, Bool, true, false, ap, refl, sym, subst, arith}
use Rattle.std.specs.Prelude.{All, Contains, None}
use Rattle.std.proofs.lemmas.Bool.Decides.{nat_tests}
use Rattle.std.proofs.lemmas.List.Elements.{All-contains, All-weaker}
use Rattle.r4_base.specs.Key.{rank}
use Rattle.r4_base.specs.Tree.{Node, Root as TreeRoot, Store}
use Rattle.r4_base.specs.Value.{Value}
use Rattle.r4_build.specs.Building.{CanBuild, HaveLawfulKeys, most_new}
use Rattle.r4_build.specs.Built.{IsBuildable}
use Rattle.r4_cell.proofs.NamesBelow.{names_below}
use Rattle.r4_cell.specs.Patch.{by_name, root_of_pair}
use Rattle.r4_cell.specs.Seen.{CellSeen}
use Rattle.r4_cell.specs.declared.change.Root.{Root}
use Rattle.r4_content.specs.Edited.{Pairs, changed, is_in}
use Rattle.r4_content.specs.Fields.{HasBytePaths}
use Rattle.r4_content.specs.Held.{pairs_of}
use Rattle.r4_content.specs.Seen.{Rises}
use Rattle.r4_content.specs.declared.command.Command.{Command}
use Rattle.r4_reaching.specs.r4_judging.Judging.{IsSound}
use Rattle.r4_build.specs.r4_leaf_edits.Made.{spread_keys}
use Rattle.r4_build.specs.r4_leaf_edits.Suiting.{SuitLeaves}
use Rattle.r4_leaf_demands.specs.Leaves.{AreLeafEdits, IsInLeaves}
use Rattle.r4_patch.proofs.Members.{absent, found}
use Rattle.r4_build.specs.r4_path.Nodes.{IsPointable}
use Rattle.r4_build.specs.r4_path.Steps.{IsFree}
use Rattle.r4_build.specs.r4_reach.Demand.{Demand}
use Rattle.r4_build.specs.r4_reach.Leaves.{LieInLeaves, most_of}
use Rattle.r4_build.specs.r4_reach.Needs.{Ask, demand_of, demand_on}
use Rattle.r4_build.specs.r4_reach.Touched.{body_on, edits_on, reads_on}
use Rattle.r4_reaching.proofs.Made.{none_spread}
use Rattle.r4_reaching.specs.Answers.{IsReach}
use Rattle.r4_reaching.specs.declared.reached.Reach.{Reach}
use Rattle.r4_search.specs.Pool.{PoolState}
use Rattle.r4_reaching.proofs.r4_spared.Answered.{answer_builds, changes_leaves}
use Rattle.r4_reaching.proofs.r4_spared.Spared.{asked_in_leaves}
use Rattle.r4_reaching.specs.r4_spared.Spared.{ChangesLeaves, HasNumbers, MayStandAll}
use Rattle.r4_leaf_demands.specs.r4_suited.Suited.{AreLawfulSeen, IsAccepted}
use Rattle.r4_turns.specs.declared.out.Scope.{Scope}
use Rattle.r4_change_testing.specs.Ready.{IsBlock, IsReady, numbers}

-- none of the numbers is a block's, or is named
free_numbers : (cells : List CellSeen) → All IsBlock cells
    → IsFree numbers.next numbers.end (by_name cells)
free_numbers cells blocks = record {
  cells = λ i from to. absent cells i
      (λ x among is. let low = (All-contains IsBlock cells x blocks among).low in omega (arith, is, low, from));
  names = λ i from to named.
      let (n, (j, c, at, has), is) = named in
      let (x, among, id, says) = found cells j c at in
      let accepted = (All-contains IsBlock cells x blocks among).accepted in
      let inside = subst (λ (d : Node Value). Contains d.names n) says has in
      let low = names_below 64 x.level (rank x.lo) (rank x.hi) x.block n accepted inside in
      omega (arith, is, low, from);
}

-- a block behind the fixed ones may be pointed to
whole_rest : (id : ℕ) → id < 64 → id % 32736 ≡ id
whole_rest id below = omega (arith, below)

pointable : (id : ℕ) → 22 ≤ id → id < 64 → IsPointable id
pointable id from below = let rest = whole_rest id below in (omega (arith, below), grind (arith, nat_tests, rest))

module _ (p : PoolState) (root : Root) (c : Command) (reach : Reach) (h : IsReach p root c reach)
    (ready : IsReady root reach) (paths : HasBytePaths c) where
  stand : MayStandAll reach.met
  stand = record {
    accepted = All-weaker IsSound IsAccepted (λ x s. s.stands) reach.met h.sound;
    whole = λ x among. (All-contains IsSound reach.met x h.sound among).whole;
    names = h.all.names;
  }

  body_in_leaves : IsInLeaves (body_on c h.answer.seen h.answer.in_extents)
  body_in_leaves = subst (λ (t : Bool). IsInLeaves (body_on c h.answer.seen t)) (sym h.in_leaves)
      (subst (λ (s : Pairs). IsInLeaves (body_on c s false)) (sym h.seen) h.body)

  tails : spread_keys (body_on c h.answer.seen h.answer.in_extents) ≡ None
  tails = none_spread (body_on c h.answer.seen h.answer.in_extents) body_in_leaves

  lie : LieInLeaves (by_name reach.met) (is_in (changed (edits_on c h.answer.seen)))
  lie = subst (λ (s : Pairs). LieInLeaves (by_name reach.met) (is_in (changed (edits_on c s)))) (sym h.seen) h.lie

  keys : HaveLawfulKeys (edits_on c h.answer.seen)
  keys = subst (λ (s : Pairs). HaveLawfulKeys (edits_on c s)) (sym h.seen) h.keys

  leaves : ChangesLeaves c h.answer.seen h.answer.in_extents (by_name reach.met) (root_of_pair root)
  leaves = changes_leaves root c reach.met reach.reads reach.writes reach.root h.answer stand paths tails lie

  has_numbers : HasNumbers (by_name reach.met) (root_of_pair root) numbers reach.writes
  has_numbers = record {
    root_number = pointable root.id.0 ready.from ready.below;
    names = h.writes_once;
    free = free_numbers reach.met ready.blocks;
    unplaced = (omega arith, omega arith);
    numbers = let few = ready.few in omega (arith, few);
  }

  can_build_seen : CanBuild (body_on c h.answer.seen h.answer.in_extents) (edits_on c h.answer.seen)
      (reads_on c h.answer.seen h.answer.in_extents) (by_name reach.met) (root_of_pair root) numbers reach.writes
  can_build_seen = answer_builds root c reach.met reach.reads reach.writes reach.root h.answer stand paths tails lie
      numbers ready.height ready.low has_numbers keys

  abbrev scope : Scope
  scope = record { root = root; in_leaves = true; in_extents = false; most = reach.most }

  asked : demand_of (body_on c h.answer.seen h.answer.in_extents) (edits_on c h.answer.seen)
      (reads_on c h.answer.seen h.answer.in_extents) (changed (edits_on c h.answer.seen))
      ≡ demand_on c (pairs_of reach.seen) false
  asked =
      sym (asked_in_leaves c h.answer.seen h.answer.in_extents tails)
      ∙ ap (λ (v : Pairs). demand_on c v h.answer.in_extents) h.seen
      ∙ ap (demand_on c (pairs_of reach.seen)) h.in_leaves

  few_come : most_new (body_on c h.answer.seen h.answer.in_extents) (edits_on c h.answer.seen)
      (reads_on c h.answer.seen h.answer.in_extents) (by_name reach.met) (root_of_pair root) reach.writes ≤ reach.most
  few_come =
      let same = ap (λ (q : Demand Ask). most_of q (by_name reach.met) (root_of_pair root) reach.writes) asked in
      let most = h.most in
      omega (arith, same, most)

  buildable_seen : IsBuildable c h.answer.seen scope (by_name reach.met) (root_of_pair root) numbers reach.writes
  buildable_seen = record {
    root = refl;
    height = ready.height;
    seen = can_build_seen.reached.quiet.seen;
    cells_in = can_build_seen.reached.cells_in;
    names = has_numbers.names;
    unplaced = has_numbers.unplaced;
    numbers = has_numbers.numbers;
    leaves = λ leaves. subst (λ (b : Bool). CanBuild (body_on c h.answer.seen b) (edits_on c h.answer.seen)
        (reads_on c h.answer.seen b) (by_name reach.met) (root_of_pair root) numbers reach.writes) h.in_leaves
        can_build_seen;
    few = λ leaves. subst (λ (b : Bool). most_new (body_on c h.answer.seen b) (edits_on c h.answer.seen)
        (reads_on c h.answer.seen b) (by_name reach.met) (root_of_pair root) reach.writes ≤ reach.most) h.in_leaves
        few_come;
  }

  pub buildable : (t : Store Value) × ((r : TreeRoot)
      × IsBuildable c (pairs_of reach.seen) scope t r numbers reach.writes)
  buildable = (
    by_name reach.met,
    (
      root_of_pair root,
      subst (λ (s : Pairs). IsBuildable c s scope (by_name reach.met) (root_of_pair root) numbers reach.writes) h.seen
          buildable_seen,
    ),
  )

  pub seen_rises : Rises (pairs_of reach.seen)
  seen_rises = subst Rises h.seen h.answer.sees.rises

  pub edits_suit : ((d : Command) (s : Pairs) (in_extents : Bool) → HasBytePaths d → Rises s → AreLawfulSeen d s
      → IsInLeaves (body_on d s in_extents) → AreLeafEdits (edits_on d s))
      → SuitLeaves 16384 (edits_on c (pairs_of reach.seen))
  edits_suit law = subst (λ (s : Pairs). SuitLeaves 16384 (edits_on c s)) h.seen
      (law c h.answer.seen h.answer.in_extents paths h.answer.sees.rises leaves.lawful body_in_leaves).suit
