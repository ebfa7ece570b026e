-- What a cache ends as, once a reference into it has ended.
use Rattle.std.specs.Prelude.{◌≡◌, List, ⊤}
use Rattle.std.specs.Borrow.{Fml, MutBor, follows_so}
use mathlib.Core.Option.{none}
use Rattle.r4_cell.specs.Seen.{CellSeen}
use Rattle.r4_cache.specs.Cached.{CacheSeen}
use Rattle.r4_cache.specs.contracts.cache.Cache.{the_row}

-- it has these entries
abbrev pub ends_as : MutBor CacheSeen → List CellSeen → Fml
ends_as c entries = follows_so the_row the_row c.ghost_name none (λ _ _. ⊤) (λ n. n ≡ record { entries = entries; cap = c.now.cap })
