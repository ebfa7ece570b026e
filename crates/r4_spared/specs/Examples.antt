-- What is seen of the root of a fresh volume (docs/volume.md, "Building").
use Rattle.std.specs.Prelude.{[], ◌∷◌}
use Rattle.r4_base.specs.Key.{least}
use Rattle.r4_base.specs.Value.{Stat}
use Rattle.r4_base.specs.Volume.{root_attr}
use Rattle.r4_content.specs.Edited.{Pairs}

-- its attributes
abbrev pub root_seen : Pairs
root_seen = (least, Stat root_attr) ∷ []
