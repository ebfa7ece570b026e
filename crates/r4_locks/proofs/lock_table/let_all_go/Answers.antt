use Rattle.std.proofs.Common.{ap, refl, arith}
use Rattle.r4_locks.specs.Locks.{TaskSeen}
use Rattle.r4_locks.proofs.CallLaws.{distinct_rest, freed_more}
use Rattle.r4_locks.proofs.lock_table.let_all_go.Goals as goal

pub loop-node-init : goal.loop-node-init
loop-node-init c =
    let gives = c.into_iter-node-iterator.ensures.into_iter_gives in
    let holds = ap (λ (t : TaskSeen). t.holds) c.task.view_is in (
      (λ n. rw (gives.0, holds) refl),
      rw gives.0 gives.4,
      omega arith,
    )

pub loop-node-preserved : goal.loop-node-preserved
loop-node-preserved c =
    let inv = rw c.in-Some.ensures.steps at c.loop-node.invariant in
    let room = c.let_go.ensures.room in (
      freed_more c.next.new.self c.in-Some.node c.in-Some.mode c.loop-node.nodes.holders c.let_go.new.self.holders _ inv.1 inv.0 c.let_go.ensures.held,
      distinct_rest c.in-Some.node _ inv.1,
      (let more = inv.2 in omega arith),
    )
