-- Keys of a body that count as changed with the whole of their blocks (docs/volume.md, "Reach"). A key is its rank.
use Rattle.std.specs.Prelude.{◌≡◌, ℕ, ◌<◌, ◌||◌, List, map, if◌then◌else◌, Option, None, Some}
use Rattle.r4_base.specs.Key.{top}
use Rattle.r4_content.specs.Edited.{Intervals, is_in}
use Rattle.r4_content.specs.Held.{interval_of}
use Rattle.r4_content.specs.declared.edits.Interval.{Interval}
use Rattle.r4_twig_asks.specs.r4_reach.Touched.{Body, is_spread, with_blocks}

-- an interval that is changed, with all that counts as changed by it
abbrev pub widened : Option Body → ℕ × ℕ → ℕ × ℕ
widened None r = r
widened (Some b) r = if is_spread b then with_blocks b r else r

-- What counts as changed by the intervals is what did before, and what does by these.
abbrev pub AddsChanges : (old : List Interval) → Intervals → (new : List Interval) → Type 0
AddsChanges old rs new = (b : Option Body) (k : ℕ) → k < top
    → is_in (map (widened b) (map interval_of new)) k
    ≡ (is_in (map (widened b) (map interval_of old)) k || is_in (map (widened b) rs) k)

-- The keys that they have are those that they had, and these.
abbrev pub AddsKeys : (old : List Interval) → Intervals → (new : List Interval) → Type 0
AddsKeys old rs new = (k : ℕ) → k < top
    → is_in (map interval_of new) k ≡ (is_in (map interval_of old) k || is_in rs k)
