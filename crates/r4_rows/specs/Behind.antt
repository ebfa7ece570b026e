-- Items put in behind all units of a leaf (docs/volume.md, "Leaves").
use Rattle.std.specs.Prelude.{◌<◌, List, [], ◌∷◌, Contains}
use Rattle.r4_leaf.specs.Leaves.{MayBePut}
use Rattle.r4_leaf.specs.Remade.{item_of}
use Rattle.r4_leaf.specs.Units.{LeafUnit}
use Rattle.r4_leaf.specs.declared.remaking.Given.{Given}

-- each key is below those behind it
abbrev pub UnitsRise : List LeafUnit → Type 0
UnitsRise [] = Unit {0}
UnitsRise (u ∷ us) = ((w : LeafUnit) → Contains us w → u.0 < w.0) × UnitsRise us

-- each of the items may be put into a leaf that has none of its keys
abbrev pub EachMayBePut : List Given → Type 0
EachMayBePut [] = Unit {0}
EachMayBePut (g ∷ gs) = MayBePut (item_of g) × EachMayBePut gs
