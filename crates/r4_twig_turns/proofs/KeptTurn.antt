-- A twig at its turn: the other twigs keep what may come of them.
use Rattle.std.proofs.Common.{◌≡◌, inl, inr, ℕ, ◌+◌, ◌-◌, ◌^◌, ◌<◌, ◌≤◌, List, ◌∷◌, ap, sym, subst, ◌∙◌, arith}
use Rattle.std.specs.Prelude.{Contains, None, length}
use Rattle.std.proofs.lemmas.List.Elements.{Contains-append_cases}
use Rattle.r4_base.specs.Tree.{Root, Store}
use Rattle.r4_base.specs.Value.{Value}
use Rattle.r4_twig_work.specs.r4_branch.declared.piece.TwigPiece.{TwigPiece}
use Rattle.r4_twig_work.specs.r4_cell.Seen.{CellSeen}
use Rattle.r4_twig_work.specs.r4_cell.declared.change.Change.{Change}
use Rattle.r4_twig_work.specs.r4_cell.declared.change.Fresh.{Fresh}
use Rattle.r4_twig_work.proofs.r4_patch.Members.{cases, here, later}
use Rattle.r4_twig_work.specs.r4_patch.Part.{IsPart}
use Rattle.r4_twig_work.proofs.r4_work.LeafEffect.{taken}
use Rattle.r4_twig_work.specs.r4_path.Grafts.{extra_twigs}
use Rattle.r4_twig_work.specs.r4_path.Steps.{Ascends, olds}
use Rattle.r4_twig_work.proofs.r4_work.InPlace.{now_part, standing_is}
use Rattle.r4_twig_work.proofs.r4_work.Paths.{ascends_from}
use Rattle.r4_twig_work.specs.r4_work.Working.{now_of, root_of, standing}
use Rattle.r4_twig_work.specs.r4_work.declared.working.WorkingSet.{WorkingSet}
use Rattle.r4_twig_work.specs.r4_measure.Budget.{Budget, most_from}
use Rattle.r4_twig_work.specs.r4_patch.Joining.{ids_of}
use Rattle.r4_twig_work.specs.r4_measure.Grafting.{AreGraftsIn, Beside, IsQuietBelow, IsRegrafted, comes_below}
use Rattle.r4_twig_work.specs.r4_measure.Measured.{IsMeasured}
use Rattle.r4_twig_work.proofs.r4_measure.Grafted.{graft_height, graft_seen}
use Rattle.r4_twig_work.proofs.r4_measure.TwigTurn.{twig_enough}
use Rattle.r4_twig_turns.proofs.Left.{left_budget}
use Rattle.r4_twig_work.proofs.r4_measure.OldCells.{path_among}
use Rattle.r4_twig_work.proofs.r4_measure.Placed.{placed_few, placed_measured}

module _ (t : Store Value) (r : Root) (fresh after : Fresh) (w now : WorkingSet) (b : Budget) (is : IsMeasured t r fresh w b) (quiet : IsQuietBelow b) (key : ℕ) (qs : List TwigPiece) (x : Beside) (made : IsRegrafted t r fresh after w now key qs x)
    (fits : extra_twigs qs ≤ b 2 made.twig.id) (unplaced : 2 ^ 63 ≤ fresh.next) (high : fresh.end < 2 ^ 64) where
  abbrev s : Store Value
  s = now_of w t

  abbrev root : Root
  root = root_of w r

  part : IsPart s root
  part = now_part t r fresh w is.working

  d : Change
  d = made.edit

  pub ascends : Ascends s None (made.twig ∷ made.ups)
  ascends = subst (Ascends s None) made.path (ascends_from s root part (standing w) (standing_is t r fresh w is.working) key 7 2 (omega arith))

  grafts : AreGraftsIn s root b made.twig made.ups qs x fresh after made.edit
  grafts = record {
    path = ascends;
    enough = twig_enough t r fresh w b is key made.twig made.ups made.path qs fits;
    come = inr fits;
    quiet = quiet;
    grafts = made.grafts;
  }

  pub stood : (c : CellSeen) → Contains made.edit.old c → Contains (standing w) c
  stood c at = elim (Contains-append_cases x.below.old _ c (subst (λ cs. Contains cs c) (ap (λ (e : Change). e.old) made.grafts.is ∙ made.grafts.below_is.old_is) at)) [
    | inl gone ↦ made.goes c gone
    | inr mine ↦ elim (cases made.grafts.grafts.lowest.old c (olds made.grafts.grafts.more) (subst (λ cs. Contains cs c) made.grafts.grafts.levels.old mine)) [
      | inl same ↦ in_path c (subst (Contains (made.twig ∷ made.ups)) (sym (same ∙ made.grafts.grafts.level.row.old)) (here made.twig made.ups))
      | inr more ↦ in_path c (later made.twig c made.ups (taken (length made.grafts.grafts.more) made.ups c (subst (λ cs. Contains cs c) made.grafts.grafts.ups_are more)))
    ]
  ]
    where
      in_path : (c : CellSeen) → Contains (made.twig ∷ made.ups) c → Contains (standing w) c
      in_path c m = path_among 7 (standing w) 2 key c (subst (λ cs. Contains cs c) (sym made.path) m)

  -- the set after it is measured, and of a cell that the change does not make as much may come as before
  pub kept : (c2 : Budget) × IsMeasured t r after now c2 × IsQuietBelow c2 × ((k i : ℕ) → (Contains (ids_of made.edit.new) i → ⊥) → c2 k i ≡ b k i)
      × (most_from c2 (root_of now r) (standing now) ≤ most_from b (root_of w r) (standing w) + (length (comes_below x) - length x.below.old))
  kept =
      let (c2, budget, less, quiet2, same, few, stays) = left_budget s root part is.seen fresh after is.working.free unplaced high is.working.root_number b is.budget made.twig made.ups qs x made.edit grafts in
      let seen2 = graft_seen s root part is.seen fresh after is.working.free unplaced high is.working.root_number b is.budget made.twig made.ups qs x made.edit grafts in
      let height2 = graft_height s root part is.seen fresh after is.working.free unplaced high is.working.root_number b is.budget made.twig made.ups qs x made.edit grafts is.height in (
        c2,
        placed_measured t r fresh w b is now after made.edit made.change made.meets stood made.put made.working c2 budget seen2 height2 less,
        quiet2,
        same,
        placed_few t r fresh w b is now after made.edit made.change made.meets stood made.put made.working c2 budget seen2 height2 less (length (comes_below x) - length x.below.old) (omega (arith, few)),
      )
