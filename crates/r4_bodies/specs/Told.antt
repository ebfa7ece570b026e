-- What a command reads beside the keys that it asked for, and where a body stands (docs/volume.md, "Reach"). A key is
-- its rank.
use Rattle.std.specs.Prelude.{◌≡◌, ℕ, ◌<◌, ◌≤◌, [], ◌∷◌, Option, None, Some}
use Rattle.std.specs.FinMap.{find}
use Rattle.std.specs.Ordering.{nat_cmp}
use Rattle.r4_base.specs.Key.{least, top}
use Rattle.r4_base.specs.Value.{Value}
use Rattle.r4_content.specs.Edited.{Intervals, Pairs}
use Rattle.r4_content.specs.Held.{interval_of}
use Rattle.r4_content.specs.declared.edits.Interval.{Interval}

abbrev pub intervals_of : Option Interval → Intervals
intervals_of None = []
intervals_of (Some i) = interval_of i ∷ []

-- what was seen has keys of a tree
abbrev pub AreOfTree : Pairs → Type 0
AreOfTree s = (k : ℕ) (v : Value) → find nat_cmp k s ≡ Some v → (least ≤ k) × (k < top)
