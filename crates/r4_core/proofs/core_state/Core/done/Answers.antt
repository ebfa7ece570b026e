use Rattle.std.proofs.Common.{List, arith, ap, ◌∙◌}
use Rattle.r4_base.specs.declared.things.NodeId.{NodeId}
use Rattle.r4_buffer.specs.Changed.{in_turn, unused}
use Rattle.r4_buffer.specs.Seen.{buffered}
use Rattle.r4_others.specs.r4_history.Tables.{inside}
use Rattle.r4_core.proofs.DoneBy.{doable_as, is_done_as, keeps_done_by, may_answer, may_put, may_tell}
use Rattle.r4_core.proofs.core_state.Core.done.Goals as goal

pub put_change-requires : goal.put_change-requires
put_change-requires g c =
    let able = rw (← c.self.view_is) at c.requires.can in
    let pay = rw (← c.self.view_is) at c.in_ok-account.ensures.ok in
    rw c.as_slice-2.ensures (may_put _ _ _ c.self.invariant c.args.script (inside c.args.txn) able.0 c.args.made
    c.args.atom able.1 c.in_ok-account.account pay)

pub answer-requires-clause-some_left : goal.answer-requires-clause-some_left
answer-requires-clause-some_left g c =
    let able = rw (← c.self.view_is) at c.requires.can in
    rw c.drop_out-out.ensures.turn (may_answer _ _ _ c.self.invariant c.args.script (inside c.args.txn) able.0
    c.args.made c.args.atom able.1)

pub push-requires : goal.push-requires
push-requires g c =
    let able = rw (← c.self.view_is) at c.requires.can in
    let two = may_tell _ _ _ c.self.invariant c.args.script (inside c.args.txn) able.0 c.args.made c.args.atom
    able.1 in
    omega (arith, two)

pub invariant_of-self : goal.invariant_of-self
invariant_of-self g c =
    let able = rw (← c.self.view_is) at c.requires.can in
    let can = doable_as _ c.args.script (inside c.args.txn) c.args.made c.args.atom able c.drop_out-out.result
    c.drop_out-out.ensures.task in
    let pay = rw (← c.self.view_is) at c.in_ok-account.ensures.ok in
    let put = rw c.as_slice-2.ensures at c.put_change.ensures in
    let right = rw (← c.self.view_is) at c.requires.right in
    keeps_done_by _ _ _ c.self.invariant c.args.script c.args.txn c.drop_out-out.result c.args.made c.args.atom can
    c.in_ok-account.account pay c.put_change.new.space c.put_change.new.atoms c.put_change.new.buffer c.unuse.new.self
    put c.lawful.ensures
    (λ i. c.unuse.ensures.buffered i
    ∙ ap (λ (ids : List NodeId). in_turn unused ids i (buffered c.put_change.new.buffer i)) c.as_slice-3.ensures)
    c.unuse.ensures.spare c.release.new.self c.release.ensures.gone c.release.ensures.others
    c.drop_out-out.new.self c.answer.new.self c.answered-index.result c.push.new.self c.unwrap_or-self-inside.result
    c.drop_out-out.ensures.turn c.answer.ensures c.answered-index.ensures.value c.push.ensures
    c.unwrap_or-self-inside.ensures
    (rw c.as_slice.ensures.value at c.levels_law.ensures) right

pub returns-clause-ok : goal.returns-clause-ok
returns-clause-ok g c =
    let able = rw (← c.self.view_is) at c.requires.can in
    let can = doable_as _ c.args.script (inside c.args.txn) c.args.made c.args.atom able c.drop_out-out.result
    c.drop_out-out.ensures.task in
    let pay = rw (← c.self.view_is) at c.in_ok-account.ensures.ok in
    let put = rw c.as_slice-2.ensures at c.put_change.ensures in
    rw (← c.self.view_is) (is_done_as _ _ _ c.self.invariant c.args.script c.args.txn c.drop_out-out.result
    c.args.made c.args.atom can
    c.in_ok-account.account pay c.put_change.new.space c.put_change.new.atoms c.put_change.new.buffer c.unuse.new.self
    put c.lawful.ensures
    (λ i. c.unuse.ensures.buffered i
    ∙ ap (λ (ids : List NodeId). in_turn unused ids i (buffered c.put_change.new.buffer i)) c.as_slice-3.ensures)
    c.unuse.ensures.spare c.release.new.self c.release.ensures.gone c.release.ensures.others
    c.drop_out-out.new.self c.answer.new.self c.answered-index.result c.push.new.self c.unwrap_or-self-inside.result
    c.drop_out-out.ensures.turn c.answer.ensures c.answered-index.ensures.value c.push.ensures
    c.unwrap_or-self-inside.ensures)
