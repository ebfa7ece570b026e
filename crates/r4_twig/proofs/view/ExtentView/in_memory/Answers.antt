use Rattle.std.proofs.Common.{true, sym, ◌∙◌}
use Rattle.r4_twig.proofs.Faults.{body_lawful, has_unit}
use Rattle.r4_twig.proofs.Places.{has_first}
use Rattle.r4_twig.proofs.view.ExtentView.in_memory.Goals as goal

pub invariant_of-result : goal.invariant_of-result
invariant_of-result c =
    let none = sym c.fault_of.ensures ∙ c.in-None.is in
    record {
      some = has_unit true c.args.blocks c.args.body.now none;
      whole = (body_lawful true c.args.blocks c.args.body.now none).1;
      countable = c.requires;
    }

pub returns-in-None-clause-some : goal.returns-in-None-clause-some
returns-in-None-clause-some c = has_first c.args.body.now (has_unit true c.args.blocks c.args.body.now (sym c.fault_of.ensures ∙ c.in-None.is))
