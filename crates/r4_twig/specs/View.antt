-- What an extent that was read shows: the body that it lends, and its units.
use Rattle.std.specs.Prelude.{List, ℕ}
use Rattle.std.specs.Borrow.{Bor}
use Rattle.r4_base.specs.declared.items.Unit.{Unit as ExtentUnit}
use Rattle.r4_base.specs.Extents.{units_of}
use Rattle.r4_twig.specs.declared.view.ExtentView.{ExtentView}

-- the body
abbrev pub view_body : ExtentView → Bor (List ℕ)
view_body v = v.body

-- the units that it spells
abbrev pub view_units : ExtentView → List ExtentUnit
view_units v = units_of v.body.now
