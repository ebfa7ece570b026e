use Rattle.r4_durable.proofs.GoingOn.{header_step, part_step, step_behind}
use Rattle.r4_durable.proofs.Staying.{ordered_before}
use Rattle.r4_durable.proofs.kept.moments_of_commits.Goals as goal

pub returns-clause-part : goal.returns-clause-part
returns-clause-part g c = λ limit b job s work plan small way more legal none i.
    part_step c.on_disk_law.ensures limit small b job s work plan way more legal none i
    (g.D.Device.state c.args.old.now) (g.D.Device.state c.args.new.now)

pub returns-clause-header : goal.returns-clause-header
returns-clause-header g c = λ limit b job s work plan small way more legal none i.
    header_step c.on_disk_law.ensures limit small b job s work plan way more legal none i
    (g.D.Device.state c.args.old.now) (g.D.Device.state c.args.new.now)

pub returns-clause-behind : goal.returns-clause-behind
returns-clause-behind g c = λ limit b job s work plan small way more later clock legal none no_more i.
    let next = ordered_before later _ legal in
    step_behind c.on_disk_law.ensures limit small b job s work plan way more next.2 none clock later legal no_more next
    i
    (g.D.Device.state c.args.old.now) (g.D.Device.state c.args.new.now)
