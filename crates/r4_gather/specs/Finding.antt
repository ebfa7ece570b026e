-- What was asked for as it is held, and where an object that was seen with its entry stands.
use Rattle.std.specs.Prelude.{ℕ, ◌+◌, [], ◌∷◌, ◌++◌, map}
use Rattle.r4_base.specs.Key.{rank}
use Rattle.r4_content.specs.Held.{interval_of}
use Rattle.r4_content.specs.Ways.{Place}
use Rattle.r4_dir.specs.Coming.{object_of}
use Rattle.r4_gather.specs.declared.entries.SeenFound.{SeenFound}
use Rattle.r4_gather.specs.declared.sight.Asked.{Asked}
use Rattle.r4_gather.specs.declared.sight.Asked.TheVariants.{Key, Within}

-- the interval of keys that was asked for
abbrev pub asked_keys : Asked → ℕ × ℕ
asked_keys (Key k) = (rank k, rank k + 1)
asked_keys (Within i) = interval_of i

abbrev pub place_seen : SeenFound → Place
place_seen f = record {
  here = object_of f.object;
  above = map object_of f.above.items ++ object_of f.dir ∷ [];
}
