-- A standing twig that is packed anew, with what goes and comes below it (docs/volume.md, "The working set").
use Rattle.std.specs.Prelude.{◌≡◌, ◌⊎◌, ◌↔◌, ◌==◌, ℕ, ◌<◌, ◌≤◌, Bool, true, false, List, ◌∷◌, Contains, Option, Some}
use Rattle.std.specs.Prelude.{map}
use Rattle.std.specs.Arc.{arc_value}
use Rattle.r4_base.specs.Tree.{Holds, Root, Store}
use Rattle.r4_base.specs.Value.{Value}
use Rattle.r4_measure.specs.r4_branch.Pieces.{units_of}
use Rattle.r4_measure.specs.r4_branch.declared.piece.TwigPiece.{TwigPiece}
use Rattle.r4_measure.specs.r4_cell.Seen.{CellSeen, node_of}
use Rattle.r4_measure.specs.r4_cell.declared.change.Fresh.{Fresh}
use Rattle.r4_extent_edit.specs.r4_leaf.Units.{LeafUnit}
use Rattle.r4_measure.specs.Grafting.{Beside, comes_below}
use Rattle.r4_measure.specs.r4_patch.Effect.{Placed}
use Rattle.r4_measure.specs.r4_patch.Joining.{ids_of}
use Rattle.r4_measure.specs.r4_path.Grafts.{IsGraftBelowUp}
use Rattle.r4_twig_work.specs.declared.regrafting.Below.{Below}
use Rattle.r4_measure.specs.r4_work.Remaking.{Changes}
use Rattle.r4_measure.specs.r4_work.Working.{IsWorking, now_of, root_of, standing, twig_path_of}
use Rattle.r4_measure.specs.r4_work.declared.working.WorkingSet.{WorkingSet}

-- The set is one of this part of a tree. The standing twig that has the key may get these pieces, while cells below it
-- that stand go, others come, and data blocks come. What comes has the number of a cell that goes, or one that was taken
-- before, leaves and twigs from `first` on.
pub record IsRegraftable (t : Store Value) (r : Root) (fresh : Fresh) (w : WorkingSet) (key : ℕ)
    (qs : List TwigPiece) (x : Beside) (first : ℕ) : Type 0 where
  pub working : IsWorking t r fresh w
  pub graft : IsGraftBelowUp (now_of w t) (root_of w r) qs x.below x.blocks first fresh
      (twig_path_of w key)
  pub goes : (c : CellSeen) → Contains x.below.old c → Contains (standing w) c
  pub low : (c : CellSeen) → Contains (comes_below x) c → c.level ≤ 1
  pub taken : (c : CellSeen) → Contains (comes_below x) c
      → Contains (ids_of x.below.old) c.id ⊎ (c.id < fresh.next)

-- what contracts see of what goes and comes
abbrev pub beside_of : Below → Beside
beside_of b = record {
  below = record {
    old = map (λ c. arc_value c) b.old.items;
    new = map (λ c. arc_value c) b.new.items;
  };
  blocks = map (λ c. arc_value c) b.blocks.items;
}

-- ---- what that does to units

-- one of the cells has the unit, in a leaf or not; or it is one of these, which stand in no leaf
abbrev pub StandsBelow : (cells : List CellSeen) → (mine : List LeafUnit) → ℕ → Placed Value → Type 0
StandsBelow cells mine k u =
    ((c : CellSeen) × Contains cells c × Contains (node_of c).units (k, u.0) × ((c.level == 1) ≡ u.1))
    ⊎ (Contains mine (k, u.0) × (u.1 ≡ false))

-- At the keys of a set, each of which the twig or a cell that goes holds, these values stand below the twig afterwards,
-- and elsewhere what stood there.
pub record SetsBelow (twig : CellSeen) (qs : List TwigPiece) (x : Beside) (at : ℕ → Bool)
    (to : ℕ → Option (Placed Value)) : Type 0 where
  pub held : (k : ℕ) → at k ≡ true
      → (c : CellSeen) × (Contains x.below.old c ⊎ (c ≡ twig)) × Holds (node_of c) k
  pub there : (k : ℕ) (u : Placed Value) → at k ≡ true
      → StandsBelow (comes_below x) (units_of qs) k u ↔ (to k ≡ Some u)
  pub others : (k : ℕ) (u : Placed Value) → at k ≡ false
      → StandsBelow (comes_below x) (units_of qs) k u
      ↔ StandsBelow x.below.old (node_of twig).units k u

-- Whatever these say of the twig that has the key, the set after does.
abbrev pub DoesBelow : (w now : WorkingSet) → (key : ℕ) → List TwigPiece → Beside → Type 0
DoesBelow w now key qs x = (twig : CellSeen) (ups : List CellSeen) (at : ℕ → Bool)
    (to : ℕ → Option (Placed Value)) → twig_path_of w key ≡ twig ∷ ups → SetsBelow twig qs x at to
    → Changes w now at to
