-- The cells of a part of a tree in which a command was seen (docs/volume.md, "Reach"). A key is its rank.
use Rattle.std.specs.Prelude.{◌≡◌, ◌⊎◌, ℕ, ◌<◌, ◌≤◌, true, Some}
use Rattle.r4_base.specs.Key.{least, top}
use Rattle.r4_base.specs.Tree.{Covers, Node, Root, Store}
use Rattle.r4_base.specs.Value.{Value}
use Rattle.r4_content.specs.Edited.{Intervals, Pairs, is_in}
use Rattle.r4_touching.specs.r4_patch.Part.{IsPart}
use Rattle.r4_touching.specs.r4_reach.Demand.{Demand}
use Rattle.r4_touching.specs.r4_reach.Leaves.{LieInLeaves}
use Rattle.r4_touching.specs.r4_seeing.Looking.{AreFound}

-- The cells are a part of a tree, and at the keys that are known this was seen of them.
pub record IsSeenPart (t : Store Value) (root : Root) (known : Intervals) (s : Pairs) : Type 0 where
  pub part : IsPart t root
  pub found : AreFound t known s

-- Each key of a tree that is read is known, or in a leaf; each that changes is in a leaf, and no twig turns.
pub record StaysInLeaves {A : Type 0} (d : Demand A) (t : Store Value) (known : Intervals) : Type 0
  where
    pub reads : (k : ℕ) → d.reads k ≡ true → least ≤ k → k < top
        → (is_in known k ≡ true) ⊎ Covers t 1 k
    pub changes : LieInLeaves t d.changes
    pub still : (i : ℕ) (c : Node Value) → t i ≡ Some c → d.turns c ≡ true → ⊥
