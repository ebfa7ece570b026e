use Rattle.std.proofs.Common.{◌+◌, ◌*◌, ap, ◌∙◌}
use Rattle.r4_base.specs.Key.{rank}
use Rattle.r4_graft.proofs.Halves.{later_rank}
use Rattle.r4_extent_demands.proofs.sized_body.SizedBody.blocks_end.Goals as goal

pub returns-clause-rank : goal.returns-clause-rank
returns-clause-rank c =
    ap rank c.behind.ensures ∙ later_rank c.first_byte.result (4096 * c.blocks_for.result)
    ∙ (λ i. c.first_byte.ensures.at i + 4096 * c.blocks_for.ensures i)
