-- A twig at its turn.
use Rattle.std.proofs.Common.{◌≡◌, ◌⊎◌, inl, inr, ℕ, ◌^◌, ◌<◌, ◌≤◌, List, ◌∷◌, ap, sym, subst, ◌∙◌, arith}
use Rattle.std.specs.Prelude.{Contains, None, length}
use Rattle.std.proofs.lemmas.Bool.{cases_lt}
use Rattle.std.proofs.lemmas.List.Elements.{Contains-append_cases}
use Rattle.r4_base.specs.Tree.{Root, Store}
use Rattle.r4_base.specs.Value.{Value}
use Rattle.r4_reach.specs.r4_branch.Pieces.{twig_bytes}
use Rattle.r4_reach.specs.r4_branch.declared.piece.TwigPiece.{TwigPiece}
use Rattle.r4_reach.specs.r4_cell.Seen.{CellSeen}
use Rattle.r4_reach.specs.r4_cell.declared.change.Change.{Change}
use Rattle.r4_reach.specs.r4_cell.declared.change.Fresh.{Fresh}
use Rattle.r4_reach.proofs.r4_patch.Members.{cases, here, later}
use Rattle.r4_reach.specs.r4_patch.Part.{IsPart}
use Rattle.r4_work.proofs.LeafEffect.{taken}
use Rattle.r4_reach.specs.r4_path.Grafts.{extra_twigs}
use Rattle.r4_reach.specs.r4_path.Levels.{IsLongEnough}
use Rattle.r4_reach.specs.r4_path.Steps.{Ascends, olds}
use Rattle.r4_work.proofs.InPlace.{now_part, standing_is}
use Rattle.r4_work.proofs.Paths.{ascends_from, lowest_from, ups_from}
use Rattle.r4_work.specs.Working.{now_of, root_of, standing, twig_path_of}
use Rattle.r4_work.specs.declared.working.WorkingSet.{WorkingSet}
use Rattle.r4_measure.specs.Budget.{Budget}
use Rattle.r4_measure.specs.Grafting.{AreGraftsIn, Beside, IsQuietBelow, IsRegrafted, LeavesTwigMeasure}
use Rattle.r4_measure.specs.Measured.{IsMeasured}
use Rattle.r4_measure.proofs.Grafted.{graft_budget, graft_height, graft_seen}
use Rattle.r4_measure.proofs.OldCells.{path_among}
use Rattle.r4_measure.proofs.Placed.{placed_few, placed_measured, placed_root}
use Rattle.r4_measure.proofs.Suffices.{long_enough}

module _ (t : Store Value) (r : Root) (fresh : Fresh) (w : WorkingSet) (b : Budget) (is : IsMeasured t r fresh w b) (key : ℕ) (twig : CellSeen) (ups : List CellSeen) (path : twig_path_of w key ≡ twig ∷ ups) where
  pub twig_enough : (qs : List TwigPiece) → extra_twigs qs ≤ b 2 twig.id → (twig_bytes qs ≤ 4068) ⊎ IsLongEnough (root_of w r) (extra_twigs qs) twig ups
  twig_enough qs fits = elim (cases_lt 4068 (twig_bytes qs)) [
    | inr room ↦ inl room
    | inl past ↦
        let some : 1 ≤ extra_twigs qs = omega (arith, past) in
        let h = long_enough (now_of w t) (root_of w r) (now_part t r fresh w is.working) b is.budget (standing w) (standing_is t r fresh w is.working) is.height is.kept key 6 2 twig (extra_twigs qs) (lowest_from 6 (standing w) 2 key twig ups path) (omega arith) (omega arith) some fits in
        inr (subst (λ cells. IsLongEnough (root_of w r) (extra_twigs qs) twig cells) (ups_from 6 (standing w) 2 key twig ups path) h)
  ]

module _ (t : Store Value) (r : Root) (fresh after : Fresh) (w now : WorkingSet) (b : Budget) (is : IsMeasured t r fresh w b) (quiet : IsQuietBelow b) (key : ℕ) (qs : List TwigPiece) (x : Beside) (made : IsRegrafted t r fresh after w now key qs x)
    (fits : extra_twigs qs ≤ b 2 made.twig.id) (unplaced : 2 ^ 63 ≤ fresh.next) (high : fresh.end < 2 ^ 64) where
  abbrev s : Store Value
  s = now_of w t

  abbrev root : Root
  root = root_of w r

  part : IsPart s root
  part = now_part t r fresh w is.working

  d : Change
  d = made.edit

  ascends : Ascends s None (made.twig ∷ made.ups)
  ascends = subst (Ascends s None) made.path (ascends_from s root part (standing w) (standing_is t r fresh w is.working) key 7 2 (omega arith))

  grafts : AreGraftsIn s root b made.twig made.ups qs x fresh after made.edit
  grafts = record {
    path = ascends;
    enough = twig_enough t r fresh w b is key made.twig made.ups made.path qs fits;
    come = inr fits;
    quiet = quiet;
    grafts = made.grafts;
  }

  stood : (c : CellSeen) → Contains made.edit.old c → Contains (standing w) c
  stood c at = elim (Contains-append_cases x.below.old _ c (subst (λ cs. Contains cs c) (ap (λ (e : Change). e.old) made.grafts.is ∙ made.grafts.below_is.old_is) at)) [
    | inl gone ↦ made.goes c gone
    | inr mine ↦ elim (cases made.grafts.grafts.lowest.old c (olds made.grafts.grafts.more) (subst (λ cs. Contains cs c) made.grafts.grafts.levels.old mine)) [
      | inl same ↦ in_path c (subst (Contains (made.twig ∷ made.ups)) (sym (same ∙ made.grafts.grafts.level.row.old)) (here made.twig made.ups))
      | inr more ↦ in_path c (later made.twig c made.ups (taken (length made.grafts.grafts.more) made.ups c (subst (λ cs. Contains cs c) made.grafts.grafts.ups_are more)))
    ]
  ]
    where
      in_path : (c : CellSeen) → Contains (made.twig ∷ made.ups) c → Contains (standing w) c
      in_path c m = path_among 7 (standing w) 2 key c (subst (λ cs. Contains cs c) (sym made.path) m)

  pub twig_turn_kept : LeavesTwigMeasure t r fresh after w now b x
  twig_turn_kept =
      let (c2, budget, less, quiet2, few, stays) = graft_budget s root part is.seen fresh after is.working.free unplaced high is.working.root_number b is.budget made.twig made.ups qs x made.edit grafts in
      let seen2 = graft_seen s root part is.seen fresh after is.working.free unplaced high is.working.root_number b is.budget made.twig made.ups qs x made.edit grafts in
      let height2 = graft_height s root part is.seen fresh after is.working.free unplaced high is.working.root_number b is.budget made.twig made.ups qs x made.edit grafts is.height in
      record {
        left = c2;
        measured = placed_measured t r fresh w b is now after made.edit made.change made.meets stood made.put made.working c2 budget seen2 height2 less;
        less = less;
        quiet = quiet2;
        few = placed_few t r fresh w b is now after made.edit made.change made.meets stood made.put made.working c2 budget seen2 height2 less _ few;
        root = placed_root t r fresh w b is now after made.edit made.change made.meets stood made.put made.working c2 stays;
      }
