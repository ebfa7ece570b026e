use Rattle.std.proofs.Common.{◌∙◌, subst, sym}
use Rattle.r4_outside.specs.Device.{Rose}
use Rattle.r4_lines.proofs.Texts.{printed}
use Rattle.r4_run.proofs.Told.{told_device, told_memory}
use Rattle.r4_run.proofs.ending.tell_served.Goals as goal

pub returns-in-Broken-Ok : goal.returns-in-Broken-Ok
returns-in-Broken-Ok g c =
    let e = g.D.Device.state c.args.dev.now in
    told_device c.args.before e c.args.standing c.args.printed _ _ c.clock.result c.faults-in-Broken-Ok.result
    c.in-Broken-Ok.is-0 c.in-Broken-Ok.is-1
    (subst (λ n. Rose c.args.before n) (c.faults.ensures ∙ sym c.faults-in-Broken-Ok.ensures)
    (c.has_risen.ensures c.if-has_risen.true))
    c.clock.ensures c.faults-in-Broken-Ok.ensures (printed _ _ _ c.write_device.result c.write_device.ensures)

pub returns-in_default : goal.returns-in_default
returns-in_default g c = told_memory _ _ _ _ _ _ c.tell_memory.result c.tell_memory.ensures.code c.tell_memory.ensures.line
