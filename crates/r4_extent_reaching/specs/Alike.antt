-- Demands that agree on a part of a tree (docs/volume.md, "Reach"). A key is its rank.
use Rattle.std.specs.Prelude.{◌≡◌, ℕ, ◌<◌, ◌≤◌, List, Some}
use Rattle.r4_base.specs.Key.{least, top}
use Rattle.r4_base.specs.Tree.{Name, Node, Store}
use Rattle.r4_base.specs.Value.{Value}
use Rattle.r4_reaching.specs.r4_reach.Demand.{Demand}
use Rattle.r4_reaching.specs.r4_reach.Needs.{Ask}

-- They read and change the same keys of a tree, and of each cell they ask the same.
pub record AreAlike (d f : Demand Ask) (t : Store Value) : Type 0 where
  pub reads : (k : ℕ) → least ≤ k → k < top → d.reads k ≡ f.reads k
  pub changes : (k : ℕ) → least ≤ k → k < top → d.changes k ≡ f.changes k
  pub asks : (i : ℕ) (c : Node Value) (hs : List (Name × Ask)) → t i ≡ Some c → d.asks c hs ≡ f.asks c hs
  pub turns : (i : ℕ) (c : Node Value) → t i ≡ Some c → d.turns c ≡ f.turns c
  pub beside : (c : Node Value) → d.beside c ≡ f.beside c
