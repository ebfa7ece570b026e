use Rattle.std.proofs.Common.{◌∙◌, ap, ◌-◌, is_lt}
use Rattle.r4_base.specs.Node.{key_at}
use Rattle.r4_base.proofs.Keys.{compared}
use Rattle.r4_node40.proofs.Laid.{key_fits}
use Rattle.r4_node40.proofs.view.rises.Goals as goal

pub returns : goal.returns
returns c = c.is_lt.ensures ∙ ap is_lt c.cmp.ensures ∙ rw (c.key_of.ensures, c.key_of-2.ensures) (compared (key_at c.args.b.now (c.args.i - 1)) (key_at c.args.b.now c.args.i) (key_fits c.args.b.now (c.args.i - 1)) (key_fits c.args.b.now c.args.i))
