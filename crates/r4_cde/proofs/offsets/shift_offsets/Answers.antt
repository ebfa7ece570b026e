use Rattle.std.proofs.Common.{◌≡◌, ◌+◌, ◌-◌, ℕ, ◌∙◌, ap, subst, arith}
use Rattle.r4_base.specs.Bytes.{number_bytes, overwrite}
use Rattle.r4_base.specs.Dir.{entry_header, entry_offset}
use Rattle.r4_cde.specs.Offsets.{ShiftsOffsets}
use Rattle.r4_cde.proofs.Shifts.{shifted_more}
use Rattle.r4_cde.proofs.offsets.shift_offsets.Goals as goal

pub loop-i-preserved : goal.loop-i-preserved
loop-i-preserved c =
    let v : c.from.result ≡ entry_offset c.loop-i.body c.loop-i.i = c.from.ensures ∙ c.offset_in.ensures in
    let e : c.put16.new.b ≡ overwrite (entry_header c.loop-i.i + 24) (number_bytes 2 (c.from.result - c.args.old + c.args.new)) c.loop-i.body = c.put16.ensures ∙ ap (λ (at : ℕ). overwrite (at + 24) (number_bytes 2 (c.from.result - c.args.old + c.args.new)) c.loop-i.body) c.header_of.ensures in
    shifted_more c.args.first c.args.old c.args.new c.loop-i.i c.from.result c.args.body.now c.loop-i.body c.put16.new.b c.loop-i.invariant (omega arith) (omega arith) (c.requires.enough c.loop-i.i (omega arith) (omega arith)) (c.requires.small c.loop-i.i (omega arith) (omega arith)) v e

pub returns : goal.returns
returns c =
    let all : c.loop-i.i ≡ c.args.end = omega arith in
    subst (λ (j : ℕ). ShiftsOffsets c.args.first j c.args.old c.args.new c.args.body.now c.loop-i.body) all c.loop-i.invariant
