-- What is found of the path of a leaf.
use Rattle.std.proofs.Common.{◌≡◌, ℕ, ◌-◌, ◌^◌, ◌<◌, List, sym, subst, arith}
use Rattle.std.specs.Prelude.{min}
use Rattle.r4_base.specs.Key.{rank}
use Rattle.r4_base.specs.Tree.{Root}
use Rattle.r4_base.specs.declared.key.Key.{Key}
use Rattle.r4_build.specs.r4_leaf.Units.{leaf_bytes}
use Rattle.r4_build.specs.r4_leaf.declared.remaking.Given.{Given}
use Rattle.r4_build.specs.r4_leaf.declared.remaking.KeyRange.{KeyRange}
use Rattle.r4_build.specs.r4_measure.r4_cell.Seen.{CellSeen, node_of}
use Rattle.r4_build.specs.r4_measure.r4_cell.declared.change.Fresh.{Fresh}
use Rattle.r4_build.specs.r4_leaf_edits.Made.{AreOfLeaf}
use Rattle.r4_build.specs.r4_measure.r4_edit.Remaking.{after_edits}
use Rattle.r4_build.specs.r4_work.Remaking.{CanEdit, CanRemake}
use Rattle.r4_leaf_steps.specs.Editing.{AreForRange}

pub same_range : (c d : CellSeen) (cuts : List KeyRange) (items : List Given) → d.lo ≡ c.lo → d.hi ≡ c.hi → AreForRange (rank c.lo) (rank c.hi) cuts items → AreForRange (rank d.lo) (rank d.hi) cuts items
same_range c d cuts items lo hi h =
    subst (λ (k : Key). AreForRange (rank k) (rank d.hi) cuts items) (sym lo)
    (subst (λ (k : Key). AreForRange (rank c.lo) (rank k) cuts items) (sym hi) h)

pub can_remake : (r : Root) (f : Fresh) (cuts : List KeyRange) (items : List Given) (leaf : CellSeen) (ups : List CellSeen) → AreForRange (rank leaf.lo) (rank leaf.hi) cuts items
    → AreOfLeaf (rank leaf.lo) (rank leaf.hi) (node_of leaf).units → leaf_bytes (after_edits cuts items leaf) < 58912 → CanEdit r f (after_edits cuts items leaf) leaf ups → CanRemake r f cuts items leaf ups
can_remake r f cuts items leaf ups given of small edit = record {
  cuts_within = given.cuts_within;
  within = given.within;
  keys = given.keys;
  can = given.can (node_of leaf).units of;
  small = small;
  edit = edit;
}

-- bytes that were counted up to the greatest number
pub is_whole : (n total : ℕ) → n ≡ min total (2 ^ 64 - 1) → n < 58912 → n ≡ total
is_whole n total is few = omega (arith, is, few)
