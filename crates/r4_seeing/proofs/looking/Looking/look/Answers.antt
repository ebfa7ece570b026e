use Rattle.std.proofs.Common.{arith}
use Rattle.r4_base.specs.Key.{rank}
use Rattle.r4_search.proofs.Walks.{goes_both, handed, leaves_both}
use Rattle.r4_seeing.specs.Looking.{StopsBetween}
use Rattle.r4_seeing.proofs.LookingOn.{known_on, knows_both, knows_only_both, meets_both, stops_after}
use Rattle.r4_seeing.proofs.looking.Looking.look.Goals as goal

pub returns-in_err-at-clause-goes : goal.returns-in_err-at-clause-goes
returns-in_err-at-clause-goes g c = goes_both (g.P.Pool.state c.args.self.now.pool)
    (g.P.Pool.state c.loop-alloc.self.pool) (g.P.Pool.state c.look_on.new.self.pool) c.loop-alloc.invariant.1
    c.in_err-at.ensures.goes

pub returns-in_err-at-clause-more : goal.returns-in_err-at-clause-more
returns-in_err-at-clause-more g c = knows_both c.args.self.now c.loop-alloc.self c.look_on.new.self
    c.loop-alloc.invariant.3 c.in_err-at.ensures.more

pub returns-in_err-at-clause-err : goal.returns-in_err-at-clause-err
returns-in_err-at-clause-err g c =
    handed (λ e. StopsBetween (rank c.args.from) (rank c.args.to) (g.P.Pool.state c.args.self.now.pool) e
    (g.P.Pool.state c.look_on.new.self.pool)) c.from_residual.result c.in_err-at.field-0.0 c.from_residual.ensures.1
    (stops_after (rank c.args.from) (rank c.args.to) (rank c.loop-alloc.at) (rank c.args.to)
    (g.P.Pool.state c.args.self.now.pool) (g.P.Pool.state c.loop-alloc.self.pool)
    (g.P.Pool.state c.look_on.new.self.pool) c.in_err-at.field-0.0 c.loop-alloc.invariant.0
    (omega arith) c.loop-alloc.invariant.1 c.in_err-at.ensures.err)

pub returns-in_err-at-clause-met : goal.returns-in_err-at-clause-met
returns-in_err-at-clause-met g c =
    meets_both (rank c.args.from) (rank c.args.to) (rank c.loop-alloc.at) (g.P.Pool.state c.args.self.now.pool)
    (g.P.Pool.state c.loop-alloc.self.pool) (g.P.Pool.state c.look_on.new.self.pool) c.loop-alloc.invariant.0
    c.in_err-at.ensures.goes c.loop-alloc.invariant.5 c.in_err-at.ensures.met

pub returns-in_err-at-clause-only : goal.returns-in_err-at-clause-only
returns-in_err-at-clause-only g c =
    knows_only_both (rank c.args.from) (rank c.args.to) (rank c.loop-alloc.at) c.args.self.now.known
    c.loop-alloc.self.known c.look_on.new.self.known c.loop-alloc.invariant.0 c.loop-alloc.invariant.6
    c.in_err-at.ensures.only

pub loop-alloc-preserved : goal.loop-alloc-preserved
loop-alloc-preserved g c =
    let from = c.loop-alloc.invariant.0 in
    let on = c.in_ok-at.ensures.onward in (
      omega (arith, from, on),
      goes_both (g.P.Pool.state c.args.self.now.pool) (g.P.Pool.state c.loop-alloc.self.pool)
          (g.P.Pool.state c.look_on.new.self.pool) c.loop-alloc.invariant.1 c.in_ok-at.ensures.goes,
      leaves_both (g.P.Pool.device c.args.self.now.pool) (g.P.Pool.device c.loop-alloc.self.pool)
          (g.P.Pool.device c.look_on.new.self.pool) c.loop-alloc.invariant.2 c.in_ok-at.ensures.device,
      knows_both c.args.self.now c.loop-alloc.self c.look_on.new.self c.loop-alloc.invariant.3 c.in_ok-at.ensures.more,
      known_on c.loop-alloc.self.known c.look_on.new.self.known (rank c.args.from) (rank c.loop-alloc.at)
          (rank c.in_ok-at.at) c.in_ok-at.ensures.more.known c.loop-alloc.invariant.4 c.in_ok-at.ensures.looked,
      meets_both (rank c.args.from) (rank c.args.to) (rank c.loop-alloc.at) (g.P.Pool.state c.args.self.now.pool)
          (g.P.Pool.state c.loop-alloc.self.pool) (g.P.Pool.state c.look_on.new.self.pool) c.loop-alloc.invariant.0
          c.in_ok-at.ensures.goes c.loop-alloc.invariant.5 c.in_ok-at.ensures.met,
      knows_only_both (rank c.args.from) (rank c.args.to)
          (rank c.loop-alloc.at) c.args.self.now.known c.loop-alloc.self.known c.look_on.new.self.known
          c.loop-alloc.invariant.0 c.loop-alloc.invariant.6 c.in_ok-at.ensures.only,
    )
