use Rattle.std.proofs.Common.{◌^◌, true}
use Rattle.r4_twig.proofs.Faults.{body_lawful, has_unit}
use Rattle.r4_twig.proofs.view.ExtentView.of_item.Goals as goal

pub invariant_of-result : goal.invariant_of-result
invariant_of-result c = record {
  some = has_unit true (2 ^ 64) c.args.body.now c.requires.good;
  whole = (body_lawful true (2 ^ 64) c.args.body.now c.requires.good).1;
  countable = c.requires.few;
}
