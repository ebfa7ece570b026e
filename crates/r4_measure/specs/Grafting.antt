-- What a twig that is packed anew leaves of a budget (docs/volume.md, "What may still come").
use Rattle.std.specs.Prelude.{◌≡◌, ◌⊎◌, ℕ, ◌+◌, ◌≤◌, List, ◌∷◌, ◌++◌, Contains, None, length}
use Rattle.r4_base.specs.Tree.{Root, Store}
use Rattle.r4_base.specs.Value.{Value}
use Rattle.r4_reach.specs.r4_branch.Pieces.{twig_bytes}
use Rattle.r4_reach.specs.r4_branch.declared.piece.TwigPiece.{TwigPiece}
use Rattle.r4_reach.specs.r4_cell.Patch.{IsChange, place, root_after}
use Rattle.r4_reach.specs.r4_cell.Seen.{CellSeen}
use Rattle.r4_reach.specs.r4_cell.declared.change.Change.{Change}
use Rattle.r4_reach.specs.r4_cell.declared.change.Fresh.{Fresh}
use Rattle.r4_reach.specs.r4_patch.Joining.{patch_of_change}
use Rattle.r4_reach.specs.r4_patch.Part.{MeetsPart}
use Rattle.r4_reach.specs.r4_path.Grafts.{Grafts, HasBelow, extra_twigs}
use Rattle.r4_reach.specs.r4_path.Levels.{IsLongEnough}
use Rattle.r4_reach.specs.r4_path.Steps.{Ascends, OnlyTakes}
use Rattle.r4_reach.specs.r4_path.Twigs.{Below}
use Rattle.r4_work.specs.Working.{IsPutInPlace, IsWorking, now_of, root_of, standing, twig_path_of}
use Rattle.r4_work.specs.declared.working.WorkingSet.{WorkingSet}
use Rattle.r4_measure.specs.Budget.{Budget, IsBudget, IsFresh, most_from}
use Rattle.r4_measure.specs.Measured.{IsMeasured}

-- nothing more comes of a leaf or a data block
abbrev pub IsQuietBelow : Budget → Type 0
IsQuietBelow b = (l i : ℕ) → l ≤ 1 → b l i ≡ 0

-- what goes and comes with a twig that is packed anew: cells below it, and data blocks that come
pub record Beside : Type 0 where
  pub below : Below
  pub blocks : List CellSeen

-- all that comes below the twig
abbrev pub comes_below : Beside → List CellSeen
comes_below x = x.below.new ++ x.blocks

-- The twig gets these pieces, along its path, while this goes and comes below it; some numbers were taken before. It is
-- one change, with the blocks, and no node comes below the twig but leaves.
pub record RegraftsIn (twig : CellSeen) (ups : List CellSeen) (qs : List TwigPiece) (x : Beside)
    (before after : Fresh) (d : Change) : Type 0 where
  pub level : twig.level ≡ 2
  pub mid : Fresh
  pub change : Change
  pub with_below : Change
  pub grafts : Grafts twig ups qs mid after change
  pub below_is : HasBelow x.below.old x.below.new change with_below
  pub is : d ≡ record with_below { new = with_below.new ++ x.blocks }
  pub low : (c : CellSeen) → Contains (comes_below x) c → c.level ≤ 1
  pub took : OnlyTakes before mid
  pub takes : OnlyTakes before after

-- What comes beside the twig is in the budget, and nothing more comes below twigs.
pub record AreGraftsIn (now : Store Value) (r : Root) (b : Budget) (twig : CellSeen)
    (ups : List CellSeen) (qs : List TwigPiece) (x : Beside) (before after : Fresh) (d : Change)
    : Type 0 where
  pub path : Ascends now None (twig ∷ ups)
  pub enough : (twig_bytes qs ≤ 4068) ⊎ IsLongEnough r (extra_twigs qs) twig ups
  pub come : (twig_bytes qs ≤ 4068) ⊎ (extra_twigs qs ≤ b 2 twig.id)
  pub quiet : IsQuietBelow b
  pub grafts : RegraftsIn twig ups qs x before after d

-- With the change in place there is a budget: no old cell has more, and still nothing more comes below twigs. Of its new
-- cells there may be no more in the end than of its old ones before, and what comes below the twig. Where nothing may
-- come of the root, it stays the root, and nothing may come of it.
pub record LeavesTwigBudget (now : Store Value) (r : Root) (f : Fresh) (b : Budget) (x : Beside)
    (d : Change) : Type 0 where
  pub left : Budget
  pub budget : IsBudget (place (patch_of_change d) now) (root_after (patch_of_change d) r) left
  pub less : (k i : ℕ) → (IsFresh f i → ⊥) → left k i ≤ b k i
  pub quiet : IsQuietBelow left
  pub few : most_from left (root_after (patch_of_change d) r) d.new
      ≤ most_from b r d.old + length (comes_below x)
  pub root : b r.height r.id ≡ 0 → (root_after (patch_of_change d) r ≡ r) × (left r.height r.id ≡ 0)

-- A standing twig gets these pieces: it and what goes below it stands, and the change is put in place.
pub record IsRegrafted (t : Store Value) (r : Root) (before after : Fresh) (w now : WorkingSet)
    (key : ℕ) (qs : List TwigPiece) (x : Beside) : Type 0 where
  pub twig : CellSeen
  pub ups : List CellSeen
  pub path : twig_path_of w key ≡ twig ∷ ups
  pub goes : (c : CellSeen) → Contains x.below.old c → Contains (standing w) c
  pub edit : Change
  pub change : IsChange edit.old edit.new edit.root
  pub meets : MeetsPart (patch_of_change edit) (now_of w t) (root_of w r)
  pub grafts : RegraftsIn twig ups qs x before after edit
  pub put : IsPutInPlace w edit now
  pub working : IsWorking t r after now

-- The set after it is measured.
pub record LeavesTwigMeasure (t : Store Value) (r : Root) (before after : Fresh) (w now : WorkingSet)
    (b : Budget) (x : Beside) : Type 0 where
  pub left : Budget
  pub measured : IsMeasured t r after now left
  pub less : (k i : ℕ) → (IsFresh before i → ⊥) → left k i ≤ b k i
  pub quiet : IsQuietBelow left
  pub few : most_from left (root_of now r) (standing now)
      ≤ most_from b (root_of w r) (standing w) + length (comes_below x)
  pub root : b (root_of w r).height (root_of w r).id ≡ 0
      → (root_of now r ≡ root_of w r) × (left (root_of w r).height (root_of w r).id ≡ 0)
