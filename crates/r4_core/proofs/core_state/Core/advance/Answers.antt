use Rattle.std.proofs.Common.{sym, ◌∙◌, ap, arith}
use Rattle.r4_base.specs.declared.things.NodeId.{NodeId}
use Rattle.std.proofs.Common.{List}
use Rattle.r4_buffer.specs.Changed.{cleaned, in_turn}
use Rattle.r4_buffer.specs.Seen.{buffered}
use Rattle.r4_core.proofs.Advanced.{at_footer, at_header, at_quiet, footed_now, for_plan, headed_now, same_volume}
use Rattle.r4_core.proofs.Advanced.{written_now}
use Rattle.r4_core.proofs.Footing.{at_end, keeps_footed, may_clean}
use Rattle.r4_core.proofs.Heading.{at_homes, keeps_headed, may_commit}
use Rattle.r4_core.proofs.Parting.{keeps_part}
use Rattle.r4_core.proofs.Sparing.{spares_needed}
use Rattle.r4_core.proofs.Writing.{keeps_failed, writes_as}
use Rattle.r4_core.proofs.core_state.Core.advance.Goals as goal

pub invariant_of-self : goal.invariant_of-self
invariant_of-self g c =
    let asked = rw (← c.self.view_is) at c.requires in
    let x = writes_as _ asked c.in-Some.commit c.in-Some-work.plan (sym c.in-Some.ensures.value) c.in-Some-work.is in
    keeps_failed c.on_disk_law.ensures _ (g.D.Device.state c.self.inside.dev) (g.D.Device.state c.step.new.dev) _
    c.in-Some.commit c.in-Some-work.plan c.step.new.dev c.self.invariant x c.in-Err.ensures.goes
    c.in-Err.ensures.settles c.take.new.self c.fail.new.broken c.fail.new.trace c.take.ensures.after
    c.fail.ensures.broken c.fail.ensures.told

pub head-requires-clause-atom : goal.head-requires-clause-atom
head-requires-clause-atom g c =
    let asked = rw (← c.self.view_is) at c.requires in
    let x = writes_as _ asked c.in-Some.commit c.in-Some-work.plan (sym c.in-Some.ensures.value) c.in-Some-work.is in
    let at = at_header _ _ _ c.in-Some.commit c.in-Some-work.plan c.self.invariant x c.step.new.plan
    c.in-Ok.ensures.next
    c.in-Ok.stage c.in-Ok.ensures.stage c.in-Headed.is in
    (may_commit _ _ _ c.in-Some.commit c.in-Some-work.plan c.self.invariant x at).0

pub head-requires-clause-sealed : goal.head-requires-clause-sealed
head-requires-clause-sealed g c =
    let asked = rw (← c.self.view_is) at c.requires in
    let x = writes_as _ asked c.in-Some.commit c.in-Some-work.plan (sym c.in-Some.ensures.value) c.in-Some-work.is in
    let at = at_header _ _ _ c.in-Some.commit c.in-Some-work.plan c.self.invariant x c.step.new.plan
    c.in-Ok.ensures.next
    c.in-Ok.stage c.in-Ok.ensures.stage c.in-Headed.is in
    (may_commit _ _ _ c.in-Some.commit c.in-Some-work.plan c.self.invariant x at).1

pub invariant_of-self-in-Headed : goal.invariant_of-self-in-Headed
invariant_of-self-in-Headed g c =
    let asked = rw (← c.self.view_is) at c.requires in
    let x = writes_as _ asked c.in-Some.commit c.in-Some-work.plan (sym c.in-Some.ensures.value) c.in-Some-work.is in
    let at = at_header _ _ _ c.in-Some.commit c.in-Some-work.plan c.self.invariant x c.step.new.plan
    c.in-Ok.ensures.next
    c.in-Ok.stage c.in-Ok.ensures.stage c.in-Headed.is in
    keeps_headed _ (g.D.Device.state c.self.inside.dev) _ c.in-Some.commit c.in-Some-work.plan c.self.invariant x at
    c.on_disk_law.ensures (g.D.Device.state c.step.new.dev) c.step.new.dev c.in-Ok.ensures.goes
    c.in-Ok.ensures.settles c.step.new.plan (record {
      goes = c.in-Ok.ensures.goes;
      plan = c.in-Ok.ensures.plan;
      told = c.in-Ok.ensures.told;
      next = c.in-Ok.ensures.next;
      reads = c.in-Ok.ensures.reads;
      stands = c.in-Ok.ensures.stands;
    }) (let rose = c.in-Ok.ensures.clock.0 in omega (arith, rose))
    c.clock-clock.result c.head.new.atoms c.head.new.trace c.clock-clock.ensures c.head.ensures.atoms
    c.head.ensures.told

pub foot-requires-clause-atom : goal.foot-requires-clause-atom
foot-requires-clause-atom g c =
    let asked = rw (← c.self.view_is) at c.requires in
    let x = writes_as _ asked c.in-Some.commit c.in-Some-work.plan (sym c.in-Some.ensures.value) c.in-Some-work.is in
    let at = at_footer _ _ _ c.in-Some.commit c.in-Some-work.plan c.self.invariant x c.step.new.plan
    c.in-Ok.ensures.next
    c.in-Ok.stage c.in-Ok.ensures.stage c.in-Footed.is in
    (may_clean _ _ _ c.in-Some.commit c.in-Some-work.plan c.self.invariant x at).0

pub foot-requires-clause-sealed : goal.foot-requires-clause-sealed
foot-requires-clause-sealed g c =
    let asked = rw (← c.self.view_is) at c.requires in
    let x = writes_as _ asked c.in-Some.commit c.in-Some-work.plan (sym c.in-Some.ensures.value) c.in-Some-work.is in
    let at = at_footer _ _ _ c.in-Some.commit c.in-Some-work.plan c.self.invariant x c.step.new.plan
    c.in-Ok.ensures.next
    c.in-Ok.stage c.in-Ok.ensures.stage c.in-Footed.is in
    (may_clean _ _ _ c.in-Some.commit c.in-Some-work.plan c.self.invariant x at).1

pub invariant_of-self-in-Footed-1 : goal.invariant_of-self-in-Footed-1
invariant_of-self-in-Footed-1 g c =
    let asked = rw (← c.self.view_is) at c.requires in
    let x = writes_as _ asked c.in-Some.commit c.in-Some-work.plan (sym c.in-Some.ensures.value) c.in-Some-work.is in
    let at = at_footer _ _ _ c.in-Some.commit c.in-Some-work.plan c.self.invariant x c.step.new.plan
    c.in-Ok.ensures.next
    c.in-Ok.stage c.in-Ok.ensures.stage c.in-Footed.is in
    keeps_footed _ (g.D.Device.state c.self.inside.dev) _ c.in-Some.commit c.in-Some-work.plan c.self.invariant x at
    c.on_disk_law.ensures (g.D.Device.state c.step.new.dev) c.step.new.dev c.in-Ok.ensures.goes
    c.in-Ok.ensures.settles c.step.new.plan (record {
      goes = c.in-Ok.ensures.goes;
      plan = c.in-Ok.ensures.plan;
      told = c.in-Ok.ensures.told;
      next = c.in-Ok.ensures.next;
      reads = c.in-Ok.ensures.reads;
      stands = c.in-Ok.ensures.stands;
    }) c.foot.new.buffer
    (λ i. c.foot.ensures.cells i
    ∙ ap (λ (ids : List NodeId). in_turn cleaned ids i (buffered c.self.inside.buffer i)) c.as_slice.ensures)
    c.foot.ensures.spare c.lawful-in-Footed.ensures c.foot.ensures.lawful c.lawful.ensures
    c.foot.new.atoms c.foot.new.space c.volume_by-self-inside.result c.take.new.self
    c.foot.ensures.atoms c.foot.ensures.owners c.foot.ensures.space
    (c.volume_by-self-inside.ensures ∙ same_volume c.in-Some-work.plan c.step.new.plan c.in-Ok.ensures.told) c.take.ensures.after

pub invariant_of-self-in_default-stage : goal.invariant_of-self-in_default-stage
invariant_of-self-in_default-stage g c =
    let asked = rw (← c.self.view_is) at c.requires in
    let x = writes_as _ asked c.in-Some.commit c.in-Some-work.plan (sym c.in-Some.ensures.value) c.in-Some-work.is in
    let at = at_quiet _ _ _ c.in-Some.commit c.in-Some-work.plan c.self.invariant x c.step.new.plan c.in-Ok.ensures.next
    c.in-Ok.stage c.in-Ok.ensures.stage c.in_default-stage.not-Headed c.in_default-stage.not-Footed in
    keeps_part c.on_disk_law.ensures _ (g.D.Device.state c.self.inside.dev) (g.D.Device.state c.step.new.dev) _
    c.in-Some.commit c.in-Some-work.plan c.step.new.dev c.self.invariant x c.in-Ok.ensures.goes
    c.in-Ok.ensures.settles at c.step.new.plan (record {
      goes = c.in-Ok.ensures.goes;
      plan = c.in-Ok.ensures.plan;
      told = c.in-Ok.ensures.told;
      next = c.in-Ok.ensures.next;
      reads = c.in-Ok.ensures.reads;
      stands = c.in-Ok.ensures.stands;
    })

pub returns-in-Headed-clause-advanced : goal.returns-in-Headed-clause-advanced
returns-in-Headed-clause-advanced g c =
    let asked = rw (← c.self.view_is) at c.requires in
    let x = writes_as _ asked c.in-Some.commit c.in-Some-work.plan (sym c.in-Some.ensures.value) c.in-Some-work.is in
    let at = at_header _ _ _ c.in-Some.commit c.in-Some-work.plan c.self.invariant x c.step.new.plan
    c.in-Ok.ensures.next
    c.in-Ok.stage c.in-Ok.ensures.stage c.in-Headed.is in
    rw (← c.self.view_is) (for_plan _ c.in-Some.commit c.in-Some-work.plan (sym c.in-Some.ensures.value)
    c.in-Some-work.is _
    (headed_now (g.D.Device.state c.self.inside.dev) (g.D.Device.state c.step.new.dev) _ c.in-Some.commit
    c.in-Some-work.plan c.step.new.plan c.step.new.dev c.in-Ok.ensures.told c.in-Ok.ensures.plan c.in-Ok.ensures.next
    c.in-Ok.ensures.calls at
    (at_homes (g.D.Device.state c.self.inside.dev) (g.D.Device.state c.step.new.dev) c.in-Some-work.plan c.step.new.plan
    (record {
      goes = c.in-Ok.ensures.goes;
      plan = c.in-Ok.ensures.plan;
      told = c.in-Ok.ensures.told;
      next = c.in-Ok.ensures.next;
      reads = c.in-Ok.ensures.reads;
      stands = c.in-Ok.ensures.stands;
    }) at) c.clock-clock.result c.head.new.atoms c.head.new.trace c.clock-clock.ensures c.head.ensures.atoms
    c.head.ensures.told))

pub returns-in-Footed-clause-advanced : goal.returns-in-Footed-clause-advanced
returns-in-Footed-clause-advanced g c =
    let asked = rw (← c.self.view_is) at c.requires in
    let x = writes_as _ asked c.in-Some.commit c.in-Some-work.plan (sym c.in-Some.ensures.value) c.in-Some-work.is in
    let at = at_footer _ _ _ c.in-Some.commit c.in-Some-work.plan c.self.invariant x c.step.new.plan
    c.in-Ok.ensures.next
    c.in-Ok.stage c.in-Ok.ensures.stage c.in-Footed.is in
    rw (← c.self.view_is) (for_plan _ c.in-Some.commit c.in-Some-work.plan (sym c.in-Some.ensures.value)
    c.in-Some-work.is _
    (footed_now (g.D.Device.state c.self.inside.dev) (g.D.Device.state c.step.new.dev) _ c.in-Some.commit
    c.in-Some-work.plan c.step.new.plan c.step.new.dev c.in-Ok.ensures.told c.in-Ok.ensures.plan c.in-Ok.ensures.next
    c.in-Ok.ensures.calls at
    (at_end (g.D.Device.state c.self.inside.dev) (g.D.Device.state c.step.new.dev) c.in-Some-work.plan c.step.new.plan
    (record {
      goes = c.in-Ok.ensures.goes;
      plan = c.in-Ok.ensures.plan;
      told = c.in-Ok.ensures.told;
      next = c.in-Ok.ensures.next;
      reads = c.in-Ok.ensures.reads;
      stands = c.in-Ok.ensures.stands;
    }) at) c.foot.new.atoms c.foot.new.buffer c.foot.new.space c.volume_by-self-inside.result c.take.new.self
    c.foot.ensures.atoms c.foot.ensures.space
    (c.volume_by-self-inside.ensures ∙ same_volume c.in-Some-work.plan c.step.new.plan c.in-Ok.ensures.told) c.take.ensures.after
    (λ i. c.foot.ensures.cells i
    ∙ ap (λ (ids : List NodeId). in_turn cleaned ids i (buffered c.self.inside.buffer i)) c.as_slice.ensures)
    c.foot.ensures.spare))

pub returns-in_default-stage : goal.returns-in_default-stage
returns-in_default-stage g c =
    let asked = rw (← c.self.view_is) at c.requires in
    let x = writes_as _ asked c.in-Some.commit c.in-Some-work.plan (sym c.in-Some.ensures.value) c.in-Some-work.is in
    let at = at_quiet _ _ _ c.in-Some.commit c.in-Some-work.plan c.self.invariant x c.step.new.plan c.in-Ok.ensures.next
    c.in-Ok.stage c.in-Ok.ensures.stage c.in_default-stage.not-Headed c.in_default-stage.not-Footed in
    rw (← c.self.view_is) (record {
      goes = c.in-Ok.ensures.goes;
      advanced = for_plan _ c.in-Some.commit c.in-Some-work.plan (sym c.in-Some.ensures.value) c.in-Some-work.is _
          (written_now (g.D.Device.state c.self.inside.dev) (g.D.Device.state c.step.new.dev) _ c.in-Some.commit
          c.in-Some-work.plan c.step.new.plan c.step.new.dev c.in-Ok.ensures.told c.in-Ok.ensures.plan
          c.in-Ok.ensures.next
          c.in-Ok.ensures.calls at);
      some = for_plan _ c.in-Some.commit c.in-Some-work.plan (sym c.in-Some.ensures.value) c.in-Some-work.is _
          (let calls = c.in-Ok.ensures.calls in let rose = c.in-Ok.ensures.clock.0 in omega (arith, calls, rose));
      calls = (c.in-Ok.ensures.some, c.in-Ok.ensures.few);
      spares = for_plan _ c.in-Some.commit c.in-Some-work.plan (sym c.in-Some.ensures.value) c.in-Some-work.is _
          c.in-Ok.ensures.spares;
      needed = λ b t named at tells. for_plan _ c.in-Some.commit c.in-Some-work.plan (sym c.in-Some.ensures.value)
          c.in-Some-work.is _
          (λ other. spares_needed c.on_disk_law.ensures _ (g.D.Device.state c.self.inside.dev)
          (g.D.Device.state c.step.new.dev) _ c.in-Some.commit c.in-Some-work.plan c.self.invariant x
          c.in-Ok.ensures.needed other b t named at tells);
    })

pub returns-in-Err-clause-needed : goal.returns-in-Err-clause-needed
returns-in-Err-clause-needed g c =
    let asked = rw (← c.self.view_is) at c.requires in
    let x = writes_as _ asked c.in-Some.commit c.in-Some-work.plan (sym c.in-Some.ensures.value) c.in-Some-work.is in
    rw (← c.self.view_is) (λ b t named at tells. for_plan _ c.in-Some.commit c.in-Some-work.plan (sym
    c.in-Some.ensures.value) c.in-Some-work.is _
    (λ other. spares_needed c.on_disk_law.ensures _ (g.D.Device.state c.self.inside.dev)
    (g.D.Device.state c.step.new.dev) _ c.in-Some.commit c.in-Some-work.plan c.self.invariant x
    c.in-Err.ensures.needed other b t named at tells))

pub returns-in-Headed-clause-needed : goal.returns-in-Headed-clause-needed
returns-in-Headed-clause-needed g c =
    let asked = rw (← c.self.view_is) at c.requires in
    let x = writes_as _ asked c.in-Some.commit c.in-Some-work.plan (sym c.in-Some.ensures.value) c.in-Some-work.is in
    rw (← c.self.view_is) (λ b t named at tells. for_plan _ c.in-Some.commit c.in-Some-work.plan (sym
    c.in-Some.ensures.value) c.in-Some-work.is _
    (λ other. spares_needed c.on_disk_law.ensures _ (g.D.Device.state c.self.inside.dev)
    (g.D.Device.state c.step.new.dev) _ c.in-Some.commit c.in-Some-work.plan c.self.invariant x
    c.in-Ok.ensures.needed other b t named at tells))

pub returns-in-Footed-clause-needed : goal.returns-in-Footed-clause-needed
returns-in-Footed-clause-needed g c =
    let asked = rw (← c.self.view_is) at c.requires in
    let x = writes_as _ asked c.in-Some.commit c.in-Some-work.plan (sym c.in-Some.ensures.value) c.in-Some-work.is in
    rw (← c.self.view_is) (λ b t named at tells. for_plan _ c.in-Some.commit c.in-Some-work.plan (sym
    c.in-Some.ensures.value) c.in-Some-work.is _
    (λ other. spares_needed c.on_disk_law.ensures _ (g.D.Device.state c.self.inside.dev)
    (g.D.Device.state c.step.new.dev) _ c.in-Some.commit c.in-Some-work.plan c.self.invariant x
    c.in-Ok.ensures.needed other b t named at tells))
