-- The answer of `reach` (docs/volume.md, "Reach"). A key is its rank.
use Rattle.std.specs.Prelude.{◌≡◌, ◌↔◌, ℕ, Bool, true, List, Contains, Option, Some, IsSome}
use Rattle.std.specs.FinMap.{find}
use Rattle.std.specs.Ordering.{nat_cmp}
use Rattle.r4_base.specs.Tree.{Node, Store, UnitAt}
use Rattle.r4_base.specs.Value.{Value}
use Rattle.r4_path.specs.r4_cell.Patch.{by_name, root_of_pair}
use Rattle.r4_path.specs.r4_cell.Seen.{CellSeen}
use Rattle.r4_path.specs.r4_cell.declared.change.Root.{Root}
use Rattle.r4_content.specs.Edited.{Pairs, is_in}
use Rattle.r4_content.specs.Course.{asked}
use Rattle.r4_content.specs.Meaning.{course, greatest_size}
use Rattle.r4_content.specs.Seen.{Rises, of_seen}
use Rattle.r4_content.specs.declared.command.Command.{Command}
use Rattle.r4_path.specs.r4_patch.Part.{IsPart}
use Rattle.r4_reach.specs.Needs.{Ask, demand_on}
use Rattle.r4_reach.specs.Reach.{HasTouched, IsRead, IsRootAsking, IsWritten}
use Rattle.r4_reach.specs.Touched.{IsKindIn, body_on}

-- What was seen is what the cells have, at each key that the command asks for.
pub record IsSeenIn (c : Command) (s : Pairs) (t : Store Value) : Type 0 where
  pub rises : Rises s
  pub agrees : (k : ℕ) (v : Value) → is_in (asked (course greatest_size c) (of_seen s)) k ≡ true
      → (find nat_cmp k s ≡ Some v) ↔ UnitAt t k v

-- the tree has all the cells
abbrev pub HasAll : List CellSeen → Store Value → Type 0
HasAll met u = (i : ℕ) (n : Node Value) → by_name met i ≡ Some n → u i ≡ Some n

-- The cells that were met are a part of a tree that has what the command touches, and these of them are read and
-- written.
pub record IsReachOf (root : Root) (c : Command) (met reads writes : List CellSeen) (rises : Option Root) : Type 0
  where
    pub seen : Pairs
    pub in_extents : Bool
    pub part : IsPart (by_name met) (root_of_pair root)
    pub sees : IsSeenIn c seen (by_name met)
    pub kind : IsKindIn (by_name met) (body_on c seen in_extents)
    pub has : HasTouched (demand_on c seen in_extents) (by_name met)
    pub read : (x : CellSeen) → Contains reads x ↔ (Contains met x
        × IsRead (demand_on c seen in_extents) (by_name met) x.id)
    pub written : (x : CellSeen) → Contains writes x ↔ (Contains met x
        × IsWritten (demand_on c seen in_extents) (by_name met) x.id)
    -- the root pair is in it
    pub root_pair : IsSome rises ↔ ((a : Ask)
        × IsRootAsking (demand_on c seen in_extents) (by_name met) (root_of_pair root) a)
