use Rattle.std.proofs.Common.{◌∙◌, ap, sym}
use Rattle.r4_check_objects.specs.Held.{facts_of}
use Rattle.r4_check_gather.proofs.Gathered.{attr_is}
use Rattle.r4_check_gather.proofs.gather.facts_in.Goals as goal

pub returns : goal.returns
returns c = c.of.ensures ∙ ap facts_of (attr_is c.args.body.now c.in-Ok.attr (sym c.read_stat.ensures.value ∙ c.in-Ok.is))
