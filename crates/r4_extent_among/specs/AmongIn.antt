-- Values that are put among the extents of a standing twig (docs/volume.md, "Bodies in extents").
use Rattle.std.specs.Prelude.{◌≡◌, ℕ, ◌+◌, ◌^◌, ◌≤◌, List, [], ◌∷◌, Contains, Option}
use Rattle.r4_base.specs.Tree.{Root, Store}
use Rattle.r4_base.specs.Value.{Value}
use Rattle.r4_extent_build.specs.r4_cell.Seen.{CellSeen, node_of}
use Rattle.r4_extent_build.specs.r4_cell.declared.change.Fresh.{Fresh}
use Rattle.r4_content.specs.Edited.{Edits}
use Rattle.r4_extent_build.specs.Looping.{AreTurned}
use Rattle.r4_extent_build.specs.r4_twig_turns.Turning.{CanRegraftAll, TwigTurn, behind}
use Rattle.r4_build.specs.r4_leaf.Units.{LeafUnit}
use Rattle.r4_build.specs.r4_measure.Budget.{AreUnplaced, Budget}
use Rattle.r4_build.specs.r4_measure.Grafting.{IsQuietBelow}
use Rattle.r4_build.specs.r4_measure.Measured.{IsMeasured}
use Rattle.r4_build.specs.r4_path.Sharing.{IsSound}
use Rattle.r4_build.specs.r4_reach.Needs.{put_among}
use Rattle.r4_build.specs.r4_reach.Touched.{Body}
use Rattle.r4_build.specs.r4_work.Working.{standing}
use Rattle.r4_build.specs.r4_work.declared.working.WorkingSet.{WorkingSet}
use Rattle.r4_extent_among.specs.Among.{AreNewLeaves, IsAmong, IsFree, among_need, among_turn}
use Rattle.r4_extent_among.specs.Among.{more_twigs, numbered, values_among}

-- The twig stands in the set, and no value comes where it has a block or a hole.
pub record IsAmongIn (b : Option Body) (e : Edits) (w : WorkingSet) (twig : CellSeen) : Type 0 where
  pub stands : Contains (standing w) twig
  pub sound : IsSound twig
  pub level : twig.level ≡ 2
  pub free : (u : LeafUnit) → Contains (values_among b e twig) u → IsFree twig u.0

-- the one turn
abbrev pub turns_among : CellSeen → (leaves : List CellSeen) → List TwigTurn
turns_among twig cells = among_turn twig cells ∷ []

-- numbers enough: for the leaves, and 64 of the twig's own
abbrev pub numbers_among : Option Body → Edits → CellSeen → ℕ
numbers_among b e twig = put_among b e (node_of twig) + 64

-- The twig may be packed anew, whatever the leaves are made of, and there are numbers.
pub record CanPutAmong (b : Option Body) (e : Edits) (t : Store Value) (r : Root) (twig : CellSeen)
    (f : Fresh) (w : WorkingSet) : Type 0 where
  pub among : IsAmong b e twig
  pub turns : (cells : List CellSeen) → AreNewLeaves b e twig cells
      → CanRegraftAll t r (turns_among twig cells) f w
  pub low : 2 ^ 63 ≤ f.next
  pub numbers : f.next + numbers_among b e twig ≤ f.end

-- The set is measured, and nothing more comes of leaves and blocks. Such a twig stands, and needs
-- no more than 16000 bytes, and what comes beside it is in the budget. There are numbers.
pub record MayPutAmong (b : Option Body) (e : Edits) (t : Store Value) (r : Root) (twig : CellSeen)
    (f : Fresh) (w : WorkingSet) (u : Budget) : Type 0 where
  pub measured : IsMeasured t r f w u
  pub quiet : IsQuietBelow u
  pub among : IsAmongIn b e w twig
  pub room : among_need b e twig ≤ 16000
  pub come : more_twigs (among_need b e twig) ≤ u 2 twig.id
  pub unplaced : AreUnplaced f
  pub numbers : f.next + numbers_among b e twig ≤ f.end

-- The turn was done, and these leaves came.
pub record HasPutAmong (b : Option Body) (e : Edits) (twig : CellSeen) (f after : Fresh)
    (w now : WorkingSet) (cells : List CellSeen) : Type 0 where
  pub leaves : List CellSeen
  pub are : AreNewLeaves b e twig leaves
  pub turned : (t : Store Value) (r : Root) → CanPutAmong b e t r twig f w
      → AreTurned t r (turns_among twig leaves) f w now
  pub cells_are : cells ≡ numbered f.next leaves
  pub left : after ≡ behind (among_turn twig leaves) f
