-- A leaf of which several runs of units go and to which several items come (docs/volume.md, "Leaves").
use Rattle.std.specs.Prelude.{ℕ, ◌≤◌, List, [], ◌∷◌, replicate}
use Rattle.r4_base.specs.Cell.{item_end, item_units, units_in}
use Rattle.r4_base.specs.Key.{rank}
use Rattle.r4_base.specs.Node.{Item}
use Rattle.r4_base.specs.declared.key.Key.{Key}
use Rattle.r4_leaf.specs.Leaves.{AreApart, MayBePut}
use Rattle.r4_leaf.specs.Pieces.{Adds}
use Rattle.r4_leaf.specs.declared.piece.Piece.{Piece}
use Rattle.r4_leaf.specs.Units.{LeafUnit, cut_units, put_units}
use Rattle.r4_leaf.specs.declared.remaking.Given.{Given}
use Rattle.r4_leaf.specs.declared.remaking.Given.TheVariants.{Fill, Item as GivenItem}
use Rattle.r4_leaf.specs.declared.remaking.KeyRange.{KeyRange}

-- a tail of so many bytes of one value
abbrev pub filled_tail : Key → (count byte : ℕ) → Item
filled_tail key count byte = record { key = key; plugin = 6; body = replicate count byte }

-- the item that is given; a fill is a tail's
abbrev pub item_of : Given → Item
item_of (GivenItem key plugin body) = record { key = key; plugin = plugin; body = body.now }
item_of (Fill key count byte) = filled_tail key count byte

-- the pieces of the item stand behind the others
abbrev pub AddsItem : List Piece → Item → List Piece → Type 0
AddsItem old it new = Adds old (rank it.key) (item_end it) (item_units it) new

-- the units without those of each of these ranges, and with those of each of these items
abbrev pub cut_all : List KeyRange → List LeafUnit → List LeafUnit
cut_all [] us = us
cut_all (c ∷ cs) us = cut_all cs (cut_units (rank c.from) (rank c.to) us)

abbrev pub put_all : List Given → List LeafUnit → List LeafUnit
put_all [] us = us
put_all (g ∷ gs) us = put_all gs (put_units (item_units (item_of g)) us)

-- the units of a leaf's items after these edits
abbrev pub units_after : List KeyRange → List Given → List Item → List LeafUnit
units_after cuts items leaf = put_all items (cut_all cuts (units_in leaf))

-- Each item may be put in, one after another.
abbrev pub CanPutAll : List Given → List LeafUnit → Type 0
CanPutAll [] us = Unit {0}
CanPutAll (g ∷ gs) us =
    MayBePut (item_of g) × AreApart us (item_units (item_of g))
    × CanPutAll gs (put_units (item_units (item_of g)) us)

-- each belongs to a range
abbrev pub AreWithin : (lo hi : ℕ) → List Given → Type 0
AreWithin lo hi [] = Unit {0}
AreWithin lo hi (g ∷ gs) = (lo ≤ rank (item_of g).key) × (item_end (item_of g) ≤ hi) × AreWithin lo hi gs
