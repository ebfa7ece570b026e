-- What a pool over the settled image of a device tells (docs/volume.md, "The tree").
use Rattle.std.specs.Prelude.{ℕ, false, List, None}
use Rattle.std.specs.BTreeMap.{BTreeMap}
use Rattle.r4_base.specs.Tree.{Name}
use Rattle.r4_outside.specs.Device.{State}
use Rattle.r4_replay.specs.Homes.{home_in}
use Rattle.r4_search.specs.Keeping.{Shared, keeping_state}
use Rattle.r4_search.specs.OnDevice.{Places, device_state}
use Rattle.r4_search.specs.Pool.{PoolState}

-- each block is at its home, and no cell is kept beforehand
abbrev pub settled_places : (root : Name) → BTreeMap ℕ ℕ → (blocks : ℕ) → Places
settled_places root homes blocks = record { root = root; blocks = blocks; home = home_in homes; kept = λ i. None }

-- the nodes that were met are kept
abbrev pub nodes_state : (root : Name) → State → BTreeMap ℕ ℕ → (blocks : ℕ) → List (ℕ × Shared) → PoolState
nodes_state root d homes blocks met = keeping_state (device_state (settled_places root homes blocks) d) false met
