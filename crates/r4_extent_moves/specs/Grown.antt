-- A body in extents that grows: what is asked so that the change of its task's cells moves it
-- (docs/volume.md, "Bodies in extents"). A key is its rank.
use Rattle.std.specs.Prelude.{◌≡◌, ◌⊎◌, ℕ, ◌+◌, ◌^◌, ◌≤◌, Bool, true, false, List, Contains}
use Rattle.std.specs.Prelude.{Some}
use Rattle.r4_base.specs.Tree.{Store}
use Rattle.r4_base.specs.Value.{Byte, Content, Value, at_key}
use Rattle.r4_base.specs.Volume.{HasExtents}
use Rattle.r4_base.specs.declared.key.Key.{Key}
use Rattle.r4_content.specs.Edited.{Edits, changed, is_between, is_in}
use Rattle.r4_applied.specs.r4_path.TwigPieces.{twig_pieces}
use Rattle.r4_applied.specs.r4_reach.Reach.{is_body}
use Rattle.r4_applied.specs.r4_reach.Touched.{Body, first_byte}
use Rattle.r4_applied.specs.r4_sets_told.r4_cell.Seen.{CellSeen, node_of}
use Rattle.r4_applied.specs.r4_build.r4_leaf_edits.Suiting.{SuitLeaves}
use Rattle.r4_allowed.specs.r4_extent_change.r4_extent_blocks.Setting.{byte_set}
use Rattle.r4_allowed.specs.r4_extent_change.r4_extent_build.Growing.{IsGrowing, end_after, end_before}
use Rattle.r4_allowed.specs.r4_extent_change.r4_extent_build.Looping.{AreKeysOfEach}
use Rattle.r4_allowed.specs.r4_extent_change.r4_extent_build.Setting.{in_coming, in_hole_of}
use Rattle.r4_allowed.specs.r4_extent_change.r4_extent_renew.Overwriting.{blocks_among, in_blocks}
use Rattle.r4_allowed.specs.r4_extent_change.Beside.{turning_among, without_bytes}
use Rattle.r4_extent_moves.specs.Moving.{in_body}

-- The byte gets to its key: the key lies in a data block among the cells, or in a hole or among the
-- blocks that come of a twig whose pieces change; or it is a 0 where a 0 stands.
abbrev pub GetsThere : Body → Edits → (raw : Content) → List CellSeen → (key byte : ℕ) → Type 0
GetsThere b e raw cells k x =
    (in_blocks (blocks_among cells) k ≡ true)
    ⊎ (((c : CellSeen) × Contains (turning_among b e cells) c
    × ((in_hole_of b (twig_pieces c) k ≡ true) ⊎ (in_coming b c k ≡ true)))
    ⊎ ((x ≡ 0) × (at_key raw k ≡ Some (Byte 0))))

-- The body does not lose blocks, and stood in extents as files do. The cells are the tree's; nothing
-- stands where blocks come into the twigs whose pieces change, and these are their keys that get
-- bytes. Leaves can take the edits. Each byte that is set gets to its key, and each block that comes
-- has its place in such a twig. A cut that begins in a body ends within this one, and attributes and
-- entries change outside of it.
pub record GrowsBody (b : Body) (e : Edits) (u : Store Value) (raw : Content)
    (cells : List CellSeen) (keys : CellSeen → ℕ → Bool) : Type 0 where
  pub first : Key
  pub growing : IsGrowing b first
  pub stood : HasExtents u b.file b.was
  pub cells_in : (c : CellSeen) → Contains cells c → u c.id ≡ Some (node_of c)
  pub twigs : AreKeysOfEach b e (turning_among b e cells) keys
  pub end : ℕ
  pub suits : SuitLeaves end e
  pub covered : (k x : ℕ) → byte_set e k ≡ Some x → GetsThere b e raw cells k x
  pub comes : (k : ℕ) → is_between (end_before b) (end_after b) k ≡ true
      → (c : CellSeen) × Contains (turning_among b e cells) c × (in_coming b c k ≡ true)
  pub cuts : (r : ℕ × ℕ) → Contains e.cuts r → is_body r.0 ≡ true → r.1 ≤ first_byte b + 2 ^ 64
  pub beside : (k : ℕ) → is_in (changed (without_bytes e)) k ≡ true → in_body b k ≡ false
