use Rattle.std.proofs.Common.{◌<◌, length, reverse, take, refl, arith}
use Rattle.r4_outside.specs.Crash.{number_after}
use Rattle.r4_outside.proofs.Crashing.{at_start, next_is, mask_is, newest_first, length-newest_first}
use Rattle.r4_outside.proofs.memory.crashed.Goals as goal

pub loop-call-init : goal.loop-call-init
unfolding number_after
loop-call-init c = record { redone = rw (c.in_ok-full.ensures, c.in_ok-left.ensures) (at_start c.args.start.now c.args.moment c.args.pick c.requires); number = refl }

pub loop-call-preserved : goal.loop-call-preserved
loop-call-preserved c =
    let i = c.loop-call.call-index in
    let calls = c.args.calls.now in
    let pick = c.args.pick in
    let lt : i < length calls = omega arith in
    let number = next_is pick i c.loop-call.number c.next_number-number.result c.loop-call.invariant.number c.next_number-number.ensures in
    let mask = mask_is pick i (length (reverse (take i calls))) c.next_number-number.result number (length-newest_first calls i (omega arith)) in
    record {
      redone = rw (newest_first calls i c.call-item.result lt c.call-item.is) (c.in_ok-redo.ensures c.args.start.now (reverse (take i calls)) pick mask c.loop-call.invariant.redone);
      number = number;
    }
