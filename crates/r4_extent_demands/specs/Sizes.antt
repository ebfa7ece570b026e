-- The body of a file, and for which edits twigs may be asked (docs/volume.md, "Reach"). A key is its rank.
use Rattle.std.specs.Prelude.{◌≡◌, ℕ, ◌^◌, ◌<◌, ◌≤◌, true, if◌then◌else◌, Option, None, Some}
use Rattle.r4_base.specs.Key.{IsKey, minor_of, offset_of, rank}
use Rattle.r4_base.specs.Tree.{Node}
use Rattle.r4_base.specs.Value.{Value}
use Rattle.r4_base.specs.declared.key.Key.{Key}
use Rattle.r4_content.specs.Edited.{Edits}
use Rattle.r4_content.specs.Seen.{Rises}
use Rattle.r4_bodies.specs.r4_leaf.Units.{leaf_bytes}
use Rattle.r4_bodies.specs.r4_leaf_edits.Suiting.{SuitLeaves}
use Rattle.r4_bodies.specs.r4_leaf_edits.r4_reach.Needs.{units_after}
use Rattle.r4_bodies.specs.r4_leaf_edits.r4_reach.Reach.{is_body}
use Rattle.r4_bodies.specs.r4_leaf_edits.r4_reach.Touched.{Body, first_byte, is_spread}

-- Its key is a body's, and it has no more bytes, before and after, than a file may have.
pub record IsSizedBody (b : Body) : Type 0 where
  pub body : is_body b.first ≡ true
  pub was : b.was ≤ 2 ^ 30
  pub now : b.now ≤ 2 ^ 30

-- if there is one
abbrev pub IsSized : Option Body → Type 0
IsSized None = Unit {0}
IsSized (Some b) = IsSizedBody b

-- the key of the body's first byte
pub record IsFirstKey (b : Body) (k : Key) : Type 0 where
  pub key : IsKey k
  pub at : rank k ≡ first_byte b
  pub begins : offset_of k ≡ 0
  pub body : minor_of k ≡ 4

-- Bytes that are set stand before this one of their file: where its body stands in extents afterwards, before the
-- greatest size of a file.
abbrev pub end_of_bytes : Option Body → ℕ
end_of_bytes None = 16384
end_of_bytes (Some b) = if is_spread b then 2 ^ 30 else 16384

-- Leaves can take the edits, and one whose units fit into it has so few bytes afterwards that it can be parted.
pub record AreExtentEdits (b : Option Body) (e : Edits) : Type 0 where
  pub body : IsSized b
  pub suit : SuitLeaves (end_of_bytes b) e
  pub small : (n : Node Value) → Rises n.units → leaf_bytes n.units ≤ 4068
      → leaf_bytes (units_after b e n) < 58912
