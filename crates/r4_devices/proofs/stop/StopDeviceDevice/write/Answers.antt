use Rattle.std.proofs.Common.{◌≡◌, ◌<◌, refl, inl, inr, sym, subst, None, arith}
use Rattle.std.specs.declared.alloc.AllocError.{AllocError}
use Rattle.r4_outside.specs.declared.device.Failed.{Failed}
use Rattle.r4_devices.specs.Stop.{StopView}
use Rattle.r4_devices.proofs.Stopping.{halt_writes_as, idles_same, none_of, pass_writes_as, idle_writes, fail_writes, holds_kept, holds_unread}
use Rattle.r4_devices.proofs.stop.StopDeviceDevice.write.Goals as goal
use Rattle.r4_devices.proofs.stop.StopDeviceDevice.write.Goals.{then-kept, else-kept}

pub halt-stop-requires-clause-below : goal.halt-stop-requires-clause-below
halt-stop-requires-clause-below g c = subst (λ (v : StopView g.row.D.Denot). c.args.at.0 < (g.D.Device.state v.dev).blocks) (sym c.self.view_is) c.requires

pub hold-requires-clause-below : goal.hold-requires-clause-below
hold-requires-clause-below g c = subst (λ (v : StopView g.row.D.Denot). c.args.at.0 < (g.D.Device.state v.dev).blocks) (sym c.self.view_is) c.requires

pub write-answer-requires : goal.write-answer-requires
write-answer-requires g c = rw c.in-Ok.ensures.idles.goes.blocks (subst (λ (v : StopView g.row.D.Denot). c.args.at.0 < (g.D.Device.state v.dev).blocks) (sym c.self.view_is) c.requires)

pub returns-then-self-eq0-clause-writes : goal.returns-then-self-eq0-clause-writes
returns-then-self-eq0-clause-writes g c = let failed : Failed = record {} in
    rw (← c.self.view_is) (halt_writes_as _ _ _ _ _ _ _ _ _ c.halt-stop.result _ failed (none_of c.self.inside.stop c.in_default.not-Some) (idles_same _) c.halt-stop.ensures)

pub returns-clause-writes : goal.returns-clause-writes
returns-clause-writes g c = let failed : Failed = record {} in
    let none : c.self.inside.stop ≡ None = none_of c.self.inside.stop c.in_default.not-Some in
    let i = c.in-Ok.ensures.idles in
    rw (← c.self.view_is) (elim c.if-kept.branch [
      | then-kept w ↦ rw w.result-is (pass_writes_as _ _ _ _ _ _ _ _ _ none none refl (idle_writes _ _ i _ _ _ _ c.write-answer.ensures))
      | else-kept w ↦ rw w.result-is (pass_writes_as _ _ _ _ _ _ _ _ _ none none refl (fail_writes _ _ _ _ c.write-answer.result failed
          (let rose = (holds_unread AllocError _ _ _ _ _ _ c.in-Ok.kept w.if-kept.false c.in-Ok.ensures.holds).2 in omega (arith, rose, c.write-answer.ensures.goes.faults)) (idle_writes _ _ i _ _ _ _ c.write-answer.ensures)))
    ])

pub returns-clause-passes : goal.returns-clause-passes
returns-clause-passes g c none left now = let i = c.in-Ok.ensures.idles in
    rw (← c.self.view_is) (elim c.if-kept.branch [
      | then-kept w ↦ rw w.result-is (record {
        answer = c.write-answer.result;
        wrote = idle_writes _ _ i _ _ _ _ c.write-answer.ensures;
        held = inl (holds_kept AllocError _ _ _ _ _ _ c.in-Ok.kept w.if-kept.true c.in-Ok.ensures.holds, refl);
        view = refl;
      })
      | else-kept w ↦ rw w.result-is (record {
        answer = c.write-answer.result;
        wrote = idle_writes _ _ i _ _ _ _ c.write-answer.ensures;
        held = let h = holds_unread AllocError _ _ _ _ _ _ c.in-Ok.kept w.if-kept.false c.in-Ok.ensures.holds in inr (h.0, h.1, (let rose = h.2 in omega (arith, rose, c.write-answer.ensures.goes.faults)), refl);
        view = refl;
      })
    ])
