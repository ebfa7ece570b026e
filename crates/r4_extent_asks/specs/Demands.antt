-- What contracts see of the demands of a command, bodies in extents included (docs/volume.md, "Reach").
use Rattle.std.specs.Prelude.{Option}
use Rattle.r4_content.specs.Edited.{Intervals}
use Rattle.r4_content.specs.declared.edits.Edits.{Edits as HeldEdits}
use Rattle.r4_twig_asks.specs.r4_reach.Touched.{Body}

-- the body that changes, edits, and the keys that are read and changed
pub record DemandsSeen : Type 0 where
  pub body : Option Body
  pub edits : HeldEdits
  pub reads : Intervals
  pub changes : Intervals
