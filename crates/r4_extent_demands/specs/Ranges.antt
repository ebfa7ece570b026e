-- What is asked of the ranges of a twig's extents (docs/volume.md, "Reach"). A key is its rank.
use Rattle.std.specs.Prelude.{◌≡◌, ℕ, ◌++◌, Bool, true, map, Contains, Option, Some, slice_get}
use Rattle.std.specs.Option.{option_copied}
use Rattle.r4_base.specs.Node.{Item, items_of}
use Rattle.r4_base.specs.Tree.{Span}
use Rattle.r4_bodies.specs.r4_cell.Seen.{CellSeen, node_of}
use Rattle.r4_content.specs.Edited.{Edits, put_keys}
use Rattle.r4_content.specs.Held.{edits_of, interval_of}
use Rattle.r4_bodies.specs.r4_leaf_demands.Touching.{MeetsKind, spans_at}
use Rattle.r4_bodies.specs.r4_leaf_edits.r4_reach.Needs.{is_met, leaf_edits}
use Rattle.r4_bodies.specs.r4_leaf_edits.r4_reach.Touched.{Body}
use Rattle.r4_extent_demands.specs.Changing.{comes_in}
use Rattle.r4_extent_demands.specs.Sizes.{AreExtentEdits, IsSizedBody}
use Rattle.r4_extent_demands.specs.declared.ranges.Way.{Way}
use Rattle.r4_extent_demands.specs.declared.ranges.Way.TheVariants.{Comes, Kind, Meets, Puts}

-- a value is put into the range, and is no byte of a body in extents
abbrev pub puts_into : Option Body → Edits → Span → Bool
puts_into b e s = is_met ((leaf_edits b e).zeros ++ put_keys (leaf_edits b e).puts) s.lo s.hi

-- it holds of a range
abbrev pub Holds : Way → Span → Type 0
Holds (Comes body) s = comes_in body.now s ≡ true
Holds (Puts body edits) s = puts_into (option_copied body) (edits_of edits.now) s ≡ true
Holds (Meets rs) s = is_met (map interval_of rs.now) s.lo s.hi ≡ true
Holds (Kind body rs) s = MeetsKind body (map interval_of rs.now) s.lo s.hi

-- It may be asked.
abbrev pub MayAsk : Way → Type 0
MayAsk (Comes body) = IsSizedBody body.now
MayAsk (Puts body edits) = AreExtentEdits (option_copied body) (edits_of edits.now)
MayAsk (Meets rs) = Unit {0}
MayAsk (Kind body rs) = Unit {0}

-- it holds of the range of one of the node's extents
abbrev pub HoldsIn : Way → CellSeen → Type 0
HoldsIn way c = (s : Span) × Contains (node_of c).spans s × Holds way s

-- the item at a place is an extent of whose range it holds
abbrev pub HoldsAt : Way → CellSeen → (place : ℕ) → Type 0
HoldsAt way c place = (it : Item) × (s : Span) × (slice_get (items_of c.block) place ≡ Some it)
    × Contains (spans_at c place it) s × Holds way s
