use Rattle.std.proofs.Common.{◌∙◌, ap, arith}
use Rattle.r4_buffer.specs.Seen.{cells_of}
use Rattle.r4_core.specs.Handing.{as_task}
use Rattle.r4_core.proofs.HandedOut.{as_many, has_gone_out, holds_new}
use Rattle.r4_others.proofs.r4_history.Places.{next_there}
use Rattle.r4_ready.proofs.r4_taking.GivenOut.{keeps_given_by}
use Rattle.r4_turns.specs.Turns.{gone_out}
use Rattle.r4_turns.specs.declared.out.Out.{Out}
use Rattle.r4_core.proofs.core_state.Core.hand_out.Goals as goal

pub take_out-requires-clause-stays : goal.take_out-requires-clause-stays
take_out-requires-clause-stays g c =
    let can = rw (← c.self.view_is) at c.requires in
    (can.can c.let_in-task.result).free

pub take_out-requires-clause-some_left : goal.take_out-requires-clause-some_left
take_out-requires-clause-some_left g c =
    let can = rw (← c.self.view_is) at c.requires in
    let served = (can.can c.let_in-task.result).served in
    next_there c.self.inside.turns c.args.script.0 served.command served.next

pub use_all-requires : goal.use_all-requires
use_all-requires g c =
    let can = rw (← c.self.view_is) at c.requires in
    let enough = (can.can c.let_in-task.result).cells in
    let many = as_many c.args.going.met.items in
    omega (arith, enough, many)

pub invariant_of-self : goal.invariant_of-self
invariant_of-self g c =
    let can = rw (← c.self.view_is) at c.requires in
    let given = c.args.going.given in
    let met = c.args.going.met.items in
    let many = as_many met in
    let room = c.use_all.ensures.spare in
    let out = as_task given c.let_in-task.result in
    keeps_given_by _ _ _ c.self.invariant c.args.script.0 out can.script can.sound (cells_of met) can.names can.part
    c.args.going.next (can.can c.let_in-task.result) c.let_in-task.new.self
    (holds_new _ _ given c.let_in-task.result c.reads.result.now c.writes.result.now (c.reads.ensures ∙ can.reads)
    (c.writes.ensures ∙ can.writes)
    c.let_in-task.ensures) c.use_all.new.self c.use_all.ensures.buffered (omega (arith, many, room))
    c.lawful.ensures c.lawful-2.ensures c.take_out.new.self
    (c.take_out.ensures ∙ ap (λ (o : Out). gone_out c.self.inside.turns c.args.script.0 o) c.into_task.ensures)

pub returns-clause-out : goal.returns-clause-out
returns-clause-out g c =
    let can = rw (← c.self.view_is) at c.requires in
    let given = c.args.going.given in
    let met = c.args.going.met.items in
    let many = as_many met in
    let room = c.use_all.ensures.spare in
    rw (← c.self.view_is) (has_gone_out _ c.args.script.0 (as_task given c.let_in-task.result) (cells_of met)
    c.take_out.new.self c.let_in-task.new.self c.use_all.new.self c.args.going.next
    (c.take_out.ensures ∙ ap (λ (o : Out). gone_out c.self.inside.turns c.args.script.0 o) c.into_task.ensures)
    (holds_new _ _ given c.let_in-task.result c.reads.result.now c.writes.result.now (c.reads.ensures ∙ can.reads)
    (c.writes.ensures ∙ can.writes)
    c.let_in-task.ensures) c.use_all.ensures.buffered (omega (arith, many, room)))
