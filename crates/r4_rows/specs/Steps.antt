-- Steps along a path, and what is below a twig, as rows (docs/volume.md, "Edits").
use Rattle.std.specs.Prelude.{[], ◌∷◌}
use Rattle.r4_path.specs.Steps.{Step}
use Rattle.r4_path.specs.Twigs.{Below}
use Rattle.r4_rows.specs.Rows.{Row}

-- a step's one old cell and its new ones
abbrev pub row_of_step : Step → Row
row_of_step s = record { old = s.old ∷ []; new = s.new }

abbrev pub row_below : Below → Row
row_below b = record { old = b.old; new = b.new }
