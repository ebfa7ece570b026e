-- Where a body stood before it changes, as cells tell that were met (docs/volume.md, "Reach"). A key is its rank.
use Rattle.std.specs.Prelude.{◌≡◌, ◌≢◌, ◌⊎◌, ℕ, ◌+◌, ◌<◌, ◌≤◌, Bool, false, Option, None, Some}
use Rattle.r4_base.specs.Key.{least, top}
use Rattle.r4_content.specs.Edited.{is_between}
use Rattle.r4_extent_reaching.specs.Telling.{IsKindTold}
use Rattle.r4_extent_reaching.specs.r4_touching.r4_reach.Touched.{Body, shown_at}
use Rattle.r4_extent_asks.specs.r4_search.Pool.{Goes, PoolState}

-- the body where it stood so
abbrev pub standing : (in_extents : Bool) → Body → Body
standing t b = record b { in_extents = t }

-- the key that tells where a body stands
abbrev pub kind_of : Body → ℕ → Bool
kind_of b k = is_between (shown_at b) (shown_at b + 1) k

abbrev pub shown_keys : Option Body → ℕ → Bool
shown_keys None k = false
shown_keys (Some b) k = kind_of b k

-- It is a key of a tree, if the body had bytes.
abbrev pub IsShown : Body → Type 0
IsShown b = b.was ≢ 0 → (least ≤ shown_at b) × (shown_at b < top)

abbrev pub MayBeShown : Option Body → Type 0
MayBeShown None = Unit {0}
MayBeShown (Some b) = IsShown b

-- It tells that the body stood so; one of no bytes stood in no extents.
abbrev pub IsStanding : PoolState → Body → (in_extents : Bool) → Type 0
IsStanding p b t = ((b.was ≡ 0) × (t ≡ false)) ⊎ IsKindTold p (shown_at b) t

-- The second is the first, with where it stood.
abbrev pub IsStood : PoolState → Option Body → Option Body → Type 0
IsStood p None now = now ≡ None
IsStood p (Some b) now = (t : Bool) × IsStanding p b t × (now ≡ Some (standing t b))

-- ---- from then on

-- It was told so, by what was met so far.
abbrev pub IsToldSo : PoolState → Body → Type 0
IsToldSo p b = ((b.was ≡ 0) × (b.in_extents ≡ false))
    ⊎ ((q : PoolState) × Goes q p × IsKindTold q (shown_at b) b.in_extents)

abbrev pub IsTold : PoolState → Option Body → Type 0
IsTold p None = Unit {0}
IsTold p (Some b) = IsToldSo p b

-- whether it stood in extents, if there is one
abbrev pub stood : Option Body → Bool
stood None = false
stood (Some b) = b.in_extents
