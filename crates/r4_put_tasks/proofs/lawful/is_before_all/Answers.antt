use Rattle.std.proofs.Common.{ap, ◌∙◌}
use Rattle.std.specs.Prelude.{nat_lt}
use Rattle.r4_base.proofs.FreshVolume.{root_rank}
use Rattle.r4_base.specs.Key.{rank}
use Rattle.r4_put_tasks.proofs.lawful.is_before_all.Goals as goal

pub returns : goal.returns
returns c = c.is_below.ensures ∙ ap (nat_lt (rank c.args.key)) (ap rank c.stat.ensures ∙ root_rank)
