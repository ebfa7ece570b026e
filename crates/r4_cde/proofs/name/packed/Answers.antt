use Rattle.std.proofs.Common.{◌+◌, ◌-◌, ◌∙◌, sym, arith}
use Rattle.r4_base.proofs.Names.{packed_more, packed_done, packed_fits, packed_small}
use Rattle.r4_cde.proofs.name.packed.Goals as goal

pub overflow_mul-number : goal.overflow_mul-number
overflow_mul-number c = let fits = packed_fits (c.loop-i.i - c.args.from) c.loop-i.number 0 (omega arith) c.loop-i.invariant.small (omega arith) in omega arith

pub overflow_add-number : goal.overflow_add-number
overflow_add-number c = let fits = packed_fits (c.loop-i.i - c.args.from) c.loop-i.number c.from.result (omega arith) c.loop-i.invariant.small (omega arith) in omega arith

pub loop-i-preserved : goal.loop-i-preserved
loop-i-preserved c = record {
  number = rw (c.from.ensures, c.byte_or_zero.ensures) (c.loop-i.invariant.number ∙ packed_more c.loop-i.number c.loop-i.i (c.args.from + c.args.n) c.args.name.now c.loop-i-test.true);
  small = packed_small (c.loop-i.i - c.args.from) (c.loop-i.i + 1 - c.args.from) c.loop-i.number c.from.result (omega arith) c.loop-i.invariant.small (omega arith);
}

pub returns-clause-number : goal.returns-clause-number
returns-clause-number c = packed_done c.loop-i.number c.loop-i.i (c.args.from + c.args.n) c.args.name.now (omega arith) ∙ sym c.loop-i.invariant.number
