-- Keys that come behind others (docs/volume.md, "Reach"). A key is its rank.
use Rattle.std.specs.Prelude.{◌≡◌, ℕ, ◌<◌, ◌≤◌, ◌||◌, List, map}
use Rattle.r4_base.specs.Key.{least, top}
use Rattle.r4_content.specs.Edited.{Intervals, is_in}
use Rattle.r4_content.specs.Held.{interval_of}
use Rattle.r4_content.specs.declared.edits.Interval.{Interval}

-- The keys of a tree that the intervals have are those that they had, and these.
abbrev pub AddsKeys : (old : List Interval) → Intervals → (new : List Interval) → Type 0
AddsKeys old rs new = (k : ℕ) → least ≤ k → k < top
    → is_in (map interval_of new) k ≡ (is_in (map interval_of old) k || is_in rs k)
