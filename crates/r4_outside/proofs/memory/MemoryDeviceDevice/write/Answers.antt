use Rattle.std.proofs.Common.{◌≡◌, ℕ, ◌+◌, ◌^◌, ◌-◌, ◌<◌, ◌≤◌, Bool, true, List, [], ◌∷◌, cond, reverse, slice_set, refl, sym, ap, subst, arith, Result, Ok, Err, OnErr}
use Rattle.r4_base.specs.Image.{Image, IsBlock}
use Rattle.r4_outside.specs.declared.device.Failed.{Failed}
use Rattle.r4_outside.specs.Device.{Writes, next}
use Rattle.r4_outside.specs.Record.{IsWhole, image_after, is_till}
use Rattle.r4_outside.specs.Memory.{state_of}
use Rattle.r4_outside.specs.declared.memory.Call.{Call}
use Rattle.r4_outside.specs.declared.memory.Call.TheVariants.{Wrote}
use Rattle.r4_outside.proofs.Recorded.{till_later, till_call, agrees_write, idle_write_as, note_write, whole_write}
use Rattle.r4_outside.proofs.memory.MemoryDeviceDevice.write.Goals as goal

-- what the device keeps, and the clause, after the block was written
module _ (image image' : Image) (keeps : Bool) (start : Image) (cs cs' : List Call) (n f f' : ℕ) (till : is_till n cs ≡ true) (agrees : cond keeps image [] ≡ image_after start cs)
    (at : ℕ) (block : List ℕ) (image_is : image' ≡ slice_set image at block) (noted : cs' ≡ cond keeps (Wrote (n + 1) at block ∷ cs) cs) (is_block : IsBlock block) (whole : IsWhole image) where
  agrees_now : cond keeps image' [] ≡ image_after start cs'
  agrees_now = rw (image_is, noted) (agrees_write image keeps start cs n at block agrees)

  till_now : is_till (n + 1) cs' ≡ true
  till_now = rw noted (till_call keeps (Wrote (n + 1) at block) cs n refl till)

  whole_now : IsWhole image'
  whole_now = rw image_is (whole_write image at block is_block whole)

  written : (r : Result (Unit {0}) Failed) → n < 2 ^ 64 - 1 → f ≤ f' → OnErr r (next f ≤ f') → Writes at block (state_of image keeps start cs n f) r (state_of image' keeps start cs' (n + 1) f')
  written r before fle cause =
      subst (λ (i : Image). Writes at block (state_of image keeps start cs n f) r (state_of i keeps start cs' (n + 1) f')) (sym image_is)
      (subst (λ (l : List Call). Writes at block (state_of image keeps start cs n f) r (state_of (slice_set image at block) keeps start l (n + 1) f')) (sym noted)
      (note_write image keeps start cs n f f' till agrees whole before fle r cause at block is_block))

pub invariant_of-self-in_default : goal.invariant_of-self-in_default
invariant_of-self-in_default c =
    let d = c.args.self.now in
    let same : reverse c.put.new.calls.items ≡ reverse d.calls.items = ap (λ (l : List Call). reverse l) c.in_default.ensures.err.1 in
    let kept = c.in_default.ensures.err.0 in
    record { agrees = rw (same, kept) d.agrees; till = rw same (till_later d.clock (d.clock + 1) (reverse d.calls.items) (omega arith) d.till); whole = rw kept d.whole; began_whole = d.began_whole }

pub returns-in_default-clause-writes : goal.returns-in_default-clause-writes
returns-in_default-clause-writes c =
    let d = c.args.self.now in
    let same : reverse c.put.new.calls.items ≡ reverse d.calls.items = ap (λ (l : List Call). reverse l) c.in_default.ensures.err.1 in
    let failed : Failed = record {} in
    idle_write_as d.blocks.items c.put.new.blocks.items d.keeps _ _ _ d.clock (d.clock + 1) d.faults _ c.in_default.ensures.err.0 same d.till d.agrees d.whole (omega arith) (omega arith) (omega arith) (omega arith) failed _ _

pub invariant_of-self-then-failing : goal.invariant_of-self-then-failing
invariant_of-self-then-failing c =
    let d = c.args.self.now in
    let e = c.in-Ok.ensures in
    record {
      agrees = agrees_now d.blocks.items _ d.keeps d.start.items (reverse d.calls.items) (reverse c.put.new.calls.items) d.clock d.faults d.faults d.till d.agrees c.args.at.0 c.args.from.now e.ok e.noted e.whole d.whole;
      till = till_now d.blocks.items _ d.keeps d.start.items (reverse d.calls.items) (reverse c.put.new.calls.items) d.clock d.faults d.faults d.till d.agrees c.args.at.0 c.args.from.now e.ok e.noted e.whole d.whole;
      whole = whole_now d.blocks.items _ d.keeps d.start.items (reverse d.calls.items) (reverse c.put.new.calls.items) d.clock d.faults d.faults d.till d.agrees c.args.at.0 c.args.from.now e.ok e.noted e.whole d.whole;
      began_whole = d.began_whole;
    }

pub returns-then-failing-clause-writes : goal.returns-then-failing-clause-writes
returns-then-failing-clause-writes c =
    let d = c.args.self.now in
    let e = c.in-Ok.ensures in
    let failed : Failed = record {} in
    written d.blocks.items _ d.keeps d.start.items (reverse d.calls.items) (reverse c.put.new.calls.items) d.clock d.faults c.missed-then-failing.new.faults d.till d.agrees c.args.at.0 c.args.from.now e.ok e.noted e.whole d.whole (Err failed) (omega arith) (omega arith) (omega arith)

pub invariant_of-self-else-failing : goal.invariant_of-self-else-failing
invariant_of-self-else-failing c =
    let d = c.args.self.now in
    let e = c.in-Ok.ensures in
    record {
      agrees = agrees_now d.blocks.items _ d.keeps d.start.items (reverse d.calls.items) (reverse c.put.new.calls.items) d.clock d.faults d.faults d.till d.agrees c.args.at.0 c.args.from.now e.ok e.noted e.whole d.whole;
      till = till_now d.blocks.items _ d.keeps d.start.items (reverse d.calls.items) (reverse c.put.new.calls.items) d.clock d.faults d.faults d.till d.agrees c.args.at.0 c.args.from.now e.ok e.noted e.whole d.whole;
      whole = whole_now d.blocks.items _ d.keeps d.start.items (reverse d.calls.items) (reverse c.put.new.calls.items) d.clock d.faults d.faults d.till d.agrees c.args.at.0 c.args.from.now e.ok e.noted e.whole d.whole;
      began_whole = d.began_whole;
    }

pub returns-clause-writes : goal.returns-clause-writes
returns-clause-writes c =
    let d = c.args.self.now in
    let e = c.in-Ok.ensures in
    written d.blocks.items _ d.keeps d.start.items (reverse d.calls.items) (reverse c.put.new.calls.items) d.clock d.faults d.faults d.till d.agrees c.args.at.0 c.args.from.now e.ok e.noted e.whole d.whole (Ok tt) (omega arith) (omega arith) tt
