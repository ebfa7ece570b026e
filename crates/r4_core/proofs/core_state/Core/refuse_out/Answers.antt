use Rattle.r4_core.proofs.RefusedOut.{refusable_then}
use Rattle.r4_core.proofs.core_state.Core.refuse_out.Goals as goal

pub refuse_single-requires-clause-sound : goal.refuse_single-requires-clause-sound
refuse_single-requires-clause-sound g c κs within =
    let sound = rw (← c.self.view_is) at c.requires.sound in
    let is = rw (← c.self.view_is) at c.requires.script in
    let own = rw (← c.self.view_is) at c.requires.own in
    let some = rw (← c.self.view_is) at c.requires.is_out in
    let back = rw (← c.self.view_is) at c.take_back.ensures in
    (refusable_then _ _ _ c.self.invariant c.args.script.0 c.args.txn sound is own c.take_back.new.self some back).sound

pub refuse_single-requires-clause-stands : goal.refuse_single-requires-clause-stands
refuse_single-requires-clause-stands g c κs within =
    let sound = rw (← c.self.view_is) at c.requires.sound in
    let is = rw (← c.self.view_is) at c.requires.script in
    let own = rw (← c.self.view_is) at c.requires.own in
    let some = rw (← c.self.view_is) at c.requires.is_out in
    let back = rw (← c.self.view_is) at c.take_back.ensures in
    (refusable_then _ _ _ c.self.invariant c.args.script.0 c.args.txn sound is own
    c.take_back.new.self some back).stands

pub refuse_single-requires-clause-room : goal.refuse_single-requires-clause-room
refuse_single-requires-clause-room g c κs within =
    let sound = rw (← c.self.view_is) at c.requires.sound in
    let is = rw (← c.self.view_is) at c.requires.script in
    let own = rw (← c.self.view_is) at c.requires.own in
    let some = rw (← c.self.view_is) at c.requires.is_out in
    let back = rw (← c.self.view_is) at c.take_back.ensures in
    (refusable_then _ _ _ c.self.invariant c.args.script.0 c.args.txn sound is own c.take_back.new.self some back).room

pub returns : goal.returns
returns g c = λ out at. record {
  between = c.take_back.new.self;
  back = c.take_back.ensures out at;
  refused = c.refuse_single.ensures;
}
