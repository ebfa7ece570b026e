use Rattle.std.proofs.Common.{arith}
use Rattle.r4_base.specs.Key.{rank}
use Rattle.r4_search.proofs.Walks.{goes_same}
use Rattle.r4_seeing.proofs.LookingOn.{err_after, knows_none, knows_wider, meets_none, meets_wider}
use Rattle.r4_seeing.proofs.looking.Looking.look_on.Goals as goal

pub returns-in-New-clause-err : goal.returns-in-New-clause-err
returns-in-New-clause-err g c =
    err_after c.read_on.result (rank c.args.at) (rank c.args.to) (rank c.args.at) (rank c.in-New.end)
    (g.P.Pool.state c.args.self.now.pool) (g.P.Pool.state c.args.self.now.pool)
    (g.P.Pool.state c.read_on.new.self.pool) (omega arith) c.in-New.ensures.1
    (goes_same (g.P.Pool.state c.args.self.now.pool)) c.read_on.ensures.err

pub returns-in-New-clause-met : goal.returns-in-New-clause-met
returns-in-New-clause-met g c =
    meets_wider (rank c.args.at) (rank c.args.to) (rank c.args.at) (rank c.in-New.end)
    (g.P.Pool.state c.args.self.now.pool) (g.P.Pool.state c.read_on.new.self.pool)
    (omega arith) c.in-New.ensures.1 c.read_on.ensures.met

pub returns-in-New-clause-only : goal.returns-in-New-clause-only
returns-in-New-clause-only g c =
    knows_wider (rank c.args.at) (rank c.args.to) (rank c.args.at)
    (rank c.in-New.end) c.args.self.now.known c.read_on.new.self.known
    (omega arith) c.in-New.ensures.1 c.read_on.ensures.only

pub returns-in-Known-clause-met : goal.returns-in-Known-clause-met
returns-in-Known-clause-met g c = meets_none (rank c.args.at) (rank c.args.to) (g.P.Pool.state c.args.self.now.pool)

pub returns-in-Known-clause-only : goal.returns-in-Known-clause-only
returns-in-Known-clause-only g c = knows_none (rank c.args.at) (rank c.args.to) c.args.self.now.known
