-- Values that are put among the extents of several standing twigs, one twig after the other
-- (docs/volume.md, "Bodies in extents").
use Rattle.std.specs.Prelude.{◌≡◌, ℕ, ◌+◌, ◌<◌, ◌≤◌, List, [], ◌∷◌, ◌++◌, length, sum_by, Bool}
use Rattle.std.specs.Prelude.{Contains, Option}
use Rattle.std.specs.List.{list_any}
use Rattle.r4_base.specs.Tree.{Root, Store}
use Rattle.r4_base.specs.Value.{Value}
use Rattle.r4_build.specs.Making.{StaysOf}
use Rattle.r4_extent_build.specs.r4_cell.Patch.{HaveNames}
use Rattle.r4_extent_build.specs.r4_cell.Seen.{CellSeen}
use Rattle.r4_extent_build.specs.r4_cell.declared.change.Fresh.{Fresh}
use Rattle.r4_content.specs.Edited.{Edits}
use Rattle.r4_extent_build.specs.Looping.{AreTurned}
use Rattle.r4_extent_build.specs.r4_twig_turns.Turning.{behind}
use Rattle.r4_build.specs.r4_measure.Budget.{AreUnplaced, Budget, most_from}
use Rattle.r4_build.specs.r4_measure.Grafting.{IsQuietBelow}
use Rattle.r4_build.specs.r4_measure.Measured.{IsMeasured}
use Rattle.r4_build.specs.r4_reach.Touched.{Body}
use Rattle.r4_build.specs.r4_work.Working.{root_of, standing}
use Rattle.r4_build.specs.r4_work.declared.working.WorkingSet.{WorkingSet}
use Rattle.r4_extent_among.specs.Among.{AreNewLeaves, among_need, among_turn, is_put_among}
use Rattle.r4_extent_among.specs.Among.{more_twigs}
use Rattle.r4_extent_among.specs.AmongIn.{CanPutAmong, HasPutAmong, IsAmongIn, numbers_among}
use Rattle.r4_extent_among.specs.AmongIn.{turns_among}

-- The first may be packed anew, and whatever that leaves, so may the others.
abbrev pub CanPutEach : Option Body → Edits → Store Value → Root → List CellSeen → Fresh
    → WorkingSet → Type 0
CanPutEach b e t r [] f w = Unit {0}
CanPutEach b e t r (x ∷ xs) f w =
    CanPutAmong b e t r x f w × ((cells : List CellSeen) (v : WorkingSet)
    → AreNewLeaves b e x cells → AreTurned t r (turns_among x cells) f w v
    → CanPutEach b e t r xs (behind (among_turn x cells) f) v)

-- Each was, and these leaves came, those of one twig behind those of the one before it.
abbrev pub HasPutEach : Option Body → Edits → List CellSeen → (f after : Fresh)
    → (w now : WorkingSet) → List CellSeen → Type 0
HasPutEach b e [] f after w now cells = (after ≡ f) × (now ≡ w) × (cells ≡ [])
HasPutEach b e (x ∷ xs) f after w now cells =
    (mid : Fresh) × (v : WorkingSet) × (mine : List CellSeen) × (others : List CellSeen)
    × HasPutAmong b e x f mid w v mine × HasPutEach b e xs mid after v now others
    × (cells ≡ mine ++ others)

-- The set is measured, and nothing more comes of leaves and blocks. Such twigs stand, no two of one
-- number. None needs more than 16000 bytes, and what comes beside each is in the budget. There are
-- numbers for all.
pub record MayPutEach (b : Option Body) (e : Edits) (t : Store Value) (r : Root)
    (twigs : List CellSeen) (f : Fresh) (w : WorkingSet) (u : Budget) : Type 0 where
  pub measured : IsMeasured t r f w u
  pub quiet : IsQuietBelow u
  pub each : (x : CellSeen) → Contains twigs x → IsAmongIn b e w x
  pub room : (x : CellSeen) → Contains twigs x → among_need b e x ≤ 16000
  pub come : (x : CellSeen) → Contains twigs x → more_twigs (among_need b e x) ≤ u 2 x.id
  pub names : HaveNames twigs
  pub unplaced : AreUnplaced f
  pub numbers : f.next + sum_by (numbers_among b e) twigs ≤ f.end

-- a value comes at the key among the extents of one of the twigs
abbrev pub is_put_in_each : Option Body → Edits → List CellSeen → (key : ℕ) → Bool
is_put_in_each b e twigs k = list_any (λ (x : CellSeen). is_put_among b e x k) twigs

-- The set after them is measured for the numbers that are left, and still nothing more comes below
-- twigs. In the end there may be no more cells than before, and the leaves that came. Each leaf
-- that stood stands, and so do those that came, each of a number that was taken, no two of one.
-- What was of some cells is still of them.
pub record LeavesAll (u : Budget) (t : Store Value) (r : Root) (f after : Fresh)
    (w now : WorkingSet) (cells : List CellSeen) : Type 0 where
  pub left : Budget
  pub measured : IsMeasured t r after now left
  pub quiet : IsQuietBelow left
  pub few : most_from left (root_of now r) (standing now)
      ≤ most_from u (root_of w r) (standing w) + length cells
  pub leaves : (c : CellSeen) → Contains (standing w) c → c.level ≡ 1 → Contains (standing now) c
  pub come : (c : CellSeen) → Contains cells c → Contains (standing now) c × (c.level ≡ 1)
  pub taken : (c : CellSeen) → Contains cells c → (f.next ≤ c.id) × (c.id < after.next)
  pub names : HaveNames cells
  pub rises : f.next ≤ after.next
  pub stays : StaysOf f after w now
