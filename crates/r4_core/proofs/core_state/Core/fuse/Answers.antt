use Rattle.std.proofs.Common.{arith}
use Rattle.r4_ready.proofs.r4_taking.Fused.{keeps_fused_by, may_fuse, may_merge}
use Rattle.r4_core.proofs.Joined.{fuses_smaller, owners_smaller}
use Rattle.r4_core.proofs.core_state.Core.fuse.Goals as goal

pub fuse-requires-clause-sums : goal.fuse-requires-clause-sums
fuse-requires-clause-sums g c =
    let one = rw (← c.self.view_is) at c.requires.kept_open in
    let two = rw (← c.self.view_is) at c.requires.gone_open in
    let e = c.len.ensures in
    let most = c.len.type_inv in
    may_fuse _ _ _ c.self.invariant c.lawful.ensures (omega (arith, e, most)) c.args.kept.0 c.args.gone.0 one two

pub merge-requires-clause-kept_open : goal.merge-requires-clause-kept_open
merge-requires-clause-kept_open g c =
    let sound = rw (← c.self.view_is) at c.requires.sound in
    let one = rw (← c.self.view_is) at c.requires.kept_open in
    may_merge _ _ _ c.self.invariant sound c.args.kept one

pub merge-requires-clause-gone_open : goal.merge-requires-clause-gone_open
merge-requires-clause-gone_open g c =
    let sound = rw (← c.self.view_is) at c.requires.sound in
    let two = rw (← c.self.view_is) at c.requires.gone_open in
    may_merge _ _ _ c.self.invariant sound c.args.gone two

pub invariant_of-self : goal.invariant_of-self
invariant_of-self g c =
    let sound = rw (← c.self.view_is) at c.requires.sound in
    let one = rw (← c.self.view_is) at c.requires.kept_open in
    let two = rw (← c.self.view_is) at c.requires.gone_open in
    let room = rw (← c.self.view_is) at c.requires.room in
    let less = c.requires.less in
    let kept = c.args.kept.0 in
    let gone = c.args.gone.0 in
    let old = c.self.inside.atoms in
    let new = c.fuse.new.self in
    keeps_fused_by _ _ _ c.self.invariant c.args.kept c.args.gone c.args.node sound one two less c.lawful.ensures room
    new (fuses_smaller old new kept gone less c.fuse.ensures.txns c.fuse.ensures.atoms)
    (owners_smaller old new kept gone less c.fuse.ensures.owners) c.fuse.ensures.spare c.merge.new.self c.push.new.self
    c.merge.ensures c.push.ensures
