-- Keys that change, of a tree (docs/volume.md, "Reach"). A key is its rank.
use Rattle.std.specs.Prelude.{◌≡◌, ℕ, ◌+◌, ◌^◌, ◌<◌, ◌≤◌, true, Contains}
use Rattle.r4_base.specs.Key.{key_of_rank, least, top}
use Rattle.r4_base.specs.Volume.{object_of}
use Rattle.r4_content.specs.Edited.{Intervals, is_in}
use Rattle.r4_reaching.specs.r4_reach.Reach.{is_body}
use Rattle.r4_reaching.specs.r4_reach.Touched.{Body, first_byte}

-- They are keys of a tree, the body's first one among them; and an interval that begins at a key of a body ends within
-- the file's.
pub record AreOneBody (b : Body) (rs : Intervals) : Type 0 where
  pub first : is_body b.first ≡ true
  pub file : b.file ≡ object_of (key_of_rank b.first)
  pub among : is_in rs b.first ≡ true
  pub keys : (k : ℕ) → is_in rs k ≡ true → (least ≤ k) × (k < top)
  pub within : (r : ℕ × ℕ) → Contains rs r → is_body r.0 ≡ true → r.1 ≤ first_byte b + 2 ^ 64
