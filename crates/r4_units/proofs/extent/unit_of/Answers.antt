use Rattle.std.proofs.Common.{◌^◌, true, sym, subst, List}
use Rattle.r4_base.specs.Extents.{AreLawfulUnits}
use Rattle.r4_base.specs.declared.items.Unit.{Unit as ExtentUnit}
use Rattle.r4_twig.proofs.Faults.{body_lawful}
use Rattle.r4_units.proofs.extent.unit_of.Goals as goal

pub unit_at-requires : goal.unit_at-requires
unit_at-requires c = subst (λ (us : List ExtentUnit). AreLawfulUnits true (2 ^ 64) us) (sym c.of_item.ensures.units) (body_lawful true (2 ^ 64) c.args.item.now.body.now c.requires.good).2
