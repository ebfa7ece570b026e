use Rattle.std.proofs.Common.{◌≡◌, ◌+◌, true, List, [], cond, reverse, sym, ap, subst, arith, refl, Ok}
use Rattle.r4_outside.specs.declared.device.Failed.{Failed}
use Rattle.r4_outside.specs.Device.{Syncs}
use Rattle.r4_outside.specs.Record.{image_after, is_till}
use Rattle.r4_outside.specs.Memory.{state_of}
use Rattle.r4_outside.specs.declared.memory.Call.{Call}
use Rattle.r4_outside.specs.declared.memory.Call.TheVariants.{Synced}
use Rattle.r4_outside.proofs.Recorded.{till_later, till_call, agrees_sync, idle_sync, idle_sync_as, note_sync}
use Rattle.r4_outside.proofs.memory.MemoryDeviceDevice.sync.Goals as goal

pub invariant_of-self-then-lost : goal.invariant_of-self-then-lost
invariant_of-self-then-lost c = let d = c.args.self.now in record { agrees = d.agrees; till = till_later d.clock (d.clock + 1) _ (omega arith) d.till; whole = d.whole; began_whole = d.began_whole }

pub returns-then-lost-clause-syncs : goal.returns-then-lost-clause-syncs
returns-then-lost-clause-syncs c = let d = c.args.self.now in idle_sync d.blocks.items d.keeps _ _ d.clock (d.clock + 1) d.faults _ d.till d.agrees d.whole (omega arith) (omega arith) (omega arith) (omega arith) _

pub invariant_of-self-in-Ok : goal.invariant_of-self-in-Ok
invariant_of-self-in-Ok c =
    let d = c.args.self.now in
    let cs = reverse d.calls.items in
    record {
      agrees = subst (λ (l : List Call). cond d.keeps d.blocks.items [] ≡ image_after d.start.items l) (sym c.in-Ok.ensures.noted) (agrees_sync d.blocks.items d.keeps d.start.items cs d.clock d.agrees);
      till = subst (λ (l : List Call). is_till (d.clock + 1) l ≡ true) (sym c.in-Ok.ensures.noted) (till_call d.keeps (Synced (d.clock + 1)) cs d.clock refl d.till);
      whole = d.whole;
      began_whole = d.began_whole;
    }

pub invariant_of-self-in_default : goal.invariant_of-self-in_default
invariant_of-self-in_default c =
    let d = c.args.self.now in
    let same : reverse c.note_sync.new.calls.items ≡ reverse d.calls.items = ap (λ (l : List Call). reverse l) c.in_default.ensures.err in
    record { agrees = rw same d.agrees; till = rw same (till_later d.clock (d.clock + 1) (reverse d.calls.items) (omega arith) d.till); whole = d.whole; began_whole = d.began_whole }

pub returns-in_default-clause-syncs : goal.returns-in_default-clause-syncs
returns-in_default-clause-syncs c =
    let d = c.args.self.now in
    let same : reverse c.note_sync.new.calls.items ≡ reverse d.calls.items = ap (λ (l : List Call). reverse l) c.in_default.ensures.err in
    let failed : Failed = record {} in
    idle_sync_as d.blocks.items d.keeps _ _ _ d.clock (d.clock + 1) d.faults _ same d.till d.agrees d.whole (omega arith) (omega arith) (omega arith) (omega arith) failed

pub returns-clause-syncs : goal.returns-clause-syncs
returns-clause-syncs c =
    let d = c.args.self.now in
    let cs = reverse d.calls.items in
    subst (λ (l : List Call). Syncs {E = Failed} (state_of d.blocks.items d.keeps d.start.items cs d.clock d.faults) (Ok tt) (state_of d.blocks.items d.keeps d.start.items l (d.clock + 1) d.faults))
    (sym c.in-Ok.ensures.noted) (note_sync d.blocks.items d.keeps d.start.items cs d.clock d.faults d.faults d.till d.agrees d.whole (omega arith) (omega arith) tt)
