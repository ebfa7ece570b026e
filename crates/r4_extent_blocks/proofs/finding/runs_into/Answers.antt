use Rattle.r4_base.specs.Key.{rank}
use Rattle.r4_extent_blocks.proofs.Sets.{run_far, run_near}
use Rattle.r4_extent_blocks.proofs.finding.runs_into.Goals as goal

pub returns-then-keys_between-lt-BLOCK : goal.returns-then-keys_between-lt-BLOCK
returns-then-keys_between-lt-BLOCK c =
    run_near (rank c.args.lo.now) (rank c.args.from.now) c.args.run.now _ _ c.keys_between.ensures c.if-keys_between-lt-BLOCK.true c.keys_between-then-keys_between-lt-BLOCK.ensures

pub returns-else-keys_between-lt-BLOCK : goal.returns-else-keys_between-lt-BLOCK
returns-else-keys_between-lt-BLOCK c =
    run_far (rank c.args.lo.now) (rank c.args.from.now) c.args.run.now _ c.keys_between.ensures c.if-keys_between-lt-BLOCK.false
