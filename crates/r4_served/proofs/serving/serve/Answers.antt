use Rattle.std.proofs.Common.{arith, refl, subst}
use Rattle.r4_take.specs.r4_ready.Readiness.{parts_of}
use Rattle.r4_take.specs.r4_serve.Serving.{Asks}
use Rattle.r4_take.specs.r4_serve.declared.asked.Asked.TheVariants as asked
use Rattle.r4_take.proofs.Sent.{on_any}
use Rattle.r4_served.specs.Serving.{IsLeft}
use Rattle.r4_served.proofs.Answering.{left_answer, left_itself, left_read, left_there, sent_dev, served_answer}
use Rattle.r4_served.proofs.Answering.{served_so}
use Rattle.r4_served.specs.declared.serving.Served.TheVariants as served
use Rattle.r4_served.proofs.Starting.{may_send}
use Rattle.r4_served.proofs.serving.serve.Goals as goal

pub returns-in_err-draws-clause-err : goal.returns-in_err-draws-clause-err
returns-in_err-draws-clause-err g c =
    let core = c.args.core.now in
    on_any c.from_residual.result (IsLeft (g.D.Device.state core.dev) (g.D.Device.state core.dev) core core)
    (left_itself g.D.Device.state core)

pub returns-in_err-other-clause-err : goal.returns-in_err-other-clause-err
returns-in_err-other-clause-err g c =
    let core = c.args.core.now in
    let mid = c.asked.new.self in
    on_any c.from_residual-in_err-other.result
    (IsLeft (g.D.Device.state core.dev) (g.D.Device.state mid.dev) core mid)
    (left_read g.D.Device.state core mid c.asked.ensures.device c.asked.ensures.same)

pub send-requires-clause-may : goal.send-requires-clause-may
send-requires-clause-may g c κs within =
    let core = c.args.core.now in
    let d = g.D.Device.state in
    let (x, servable) = c.requires.servable in
    let asks = subst (Asks (d core.dev) (d c.asked.new.self.dev) (parts_of core) c.in_ok-draws.command) c.in-Ready.is
    c.in_ok-other.ensures.asks in
    let fits = c.next_name.type_inv in
    let same = c.next_name.ensures in
    may_send _ (d core.dev) (d c.asked.new.self.dev) core c.asked.new.self c.lawful.ensures.kept c.args.script.0 x
    c.in_ok-draws.draws c.in_ok-draws.command servable (c.in_ok-draws.ensures.named x servable)
    c.in_ok-draws.ensures.paths c.requires.sound (omega (arith, fits, same)) c.in-Ready.ready asks c.asked.ensures.same

pub returns-in_err-task-in-Ready-clause-err : goal.returns-in_err-task-in-Ready-clause-err
returns-in_err-task-in-Ready-clause-err g c =
    let core = c.args.core.now in
    let d = g.D.Device.state in
    let new = c.send.new.core in
    on_any c.from_residual-in_err-task-in-Ready.result (IsLeft (d core.dev) (d new.dev) core new)
    (left_there d core c.asked.new.self c.asked.ensures.device c.asked.ensures.same new
    c.in_err-task-in-Ready.ensures.err)

pub returns-in_ok-task-in-Ready-clause-ok : goal.returns-in_ok-task-in-Ready-clause-ok
returns-in_ok-task-in-Ready-clause-ok g c =
    let core = c.args.core.now in
    let d = g.D.Device.state in
    let (x, servable) = c.requires.servable in
    let mid = c.asked.new.self in
    let new = c.send.new.core in
    let s = c.args.script in
    let draws = c.in_ok-draws.draws in
    let named = c.in_ok-draws.command in
    let ready = c.in-Ready.ready in
    let task = c.in_ok-task-in-Ready.task in
    let asks = subst (Asks (d core.dev) (d mid.dev) (parts_of core) named) c.in-Ready.is c.in_ok-other.ensures.asks in
    let sent = c.in_ok-task-in-Ready.ensures.ok in
    served_so d core mid s x draws named servable (c.in_ok-draws.ensures.named x servable) (asked.Ready ready)
    c.asked.ensures.device c.asked.ensures.same asks new (served.Out task)
    (sent_dev mid new s.0 named draws ready task sent) (task, refl, sent)

pub returns-in_default : goal.returns-in_default
returns-in_default g c =
    let core = c.args.core.now in
    let d = g.D.Device.state in
    let (x, servable) = c.requires.servable in
    let mid = c.asked.new.self in
    let new = c.answer.new.core in
    let s = c.args.script in
    let draws = c.in_ok-draws.draws in
    let named = c.in_ok-draws.command in
    let told = c.in_ok-other.other in
    let name = c.in_ok-draws.ensures.named x servable in
    record {
      ok = served_answer d core mid s x draws named servable name told c.asked.ensures.device c.asked.ensures.same
          c.in_ok-other.ensures.asks new c.answer.result c.answer.ensures.ok;
      err = left_answer d core mid s x draws named servable name told c.asked.ensures.device c.asked.ensures.same
          c.in_ok-other.ensures.asks new c.answer.result c.answer.ensures.err;
    }
