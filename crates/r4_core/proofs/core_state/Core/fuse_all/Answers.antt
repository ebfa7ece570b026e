use Rattle.r4_others.specs.Others.{pairs_of}
use Rattle.r4_core.proofs.FusingAll.{first_can, goes_later}
use Rattle.r4_core.proofs.core_state.Core.fuse_all.Goals as goal

pub fuse_two-all-requires-clause-two_open : goal.fuse_two-all-requires-clause-two_open
fuse_two-all-requires-clause-two_open g c κs within =
    (first_can c.loop-rest.self c.loop-rest.all.0 _ c.loop-rest.rest.now c.in-len1-up.len_at_least
    c.loop-rest.invariant.can).0

pub fuse_two-all-requires-clause-differ : goal.fuse_two-all-requires-clause-differ
fuse_two-all-requires-clause-differ g c κs within =
    (first_can c.loop-rest.self c.loop-rest.all.0 _ c.loop-rest.rest.now c.in-len1-up.len_at_least
    c.loop-rest.invariant.can).1

pub loop-rest-preserved : goal.loop-rest-preserved
loop-rest-preserved g c =
    goes_later c.loop-rest.self c.loop-rest.all.0 _ c.loop-rest.rest.now c.in-len1-up.len_at_least c.args.self.now
    c.args.own.0 (pairs_of c.args.others.now) c.loop-rest.invariant c.fuse_two-all.new.self c.fuse_two-all.ensures.fused
    c.fuse_two-all.result.0 c.fuse_two-all.ensures.kept
