use Rattle.std.proofs.Common.{rules}
use Rattle.r4_base.specs.Key.{rank}
use Rattle.r4_summary.proofs.Places.{behind_place, before_place, place_of}
use Rattle.r4_summary.proofs.Parts.{in_order}
use Rattle.r4_summary.proofs.kept.place.Goals as goal

pub returns-clause-before : goal.returns-clause-before
returns-clause-before c =
    before_place (rank c.args.key) c.args.parts.now c.partition_point.result c.partition_point.ensures.bound
    (place_of (rank c.args.key) c.args.parts.now c.partition_point.result (in_order c.args.parts.now c.requires) c.partition_point.ensures.partitioned (λ r s f' k. search rules))

pub returns-clause-behind : goal.returns-clause-behind
returns-clause-behind c =
    behind_place (rank c.args.key) c.args.parts.now c.partition_point.result c.partition_point.ensures.bound
    (place_of (rank c.args.key) c.args.parts.now c.partition_point.result (in_order c.args.parts.now c.requires) c.partition_point.ensures.partitioned (λ r s f' k. search rules))
