use Rattle.std.proofs.Common.{◌∙◌, ap, ℕ, ◌+◌, ◌-◌}
use Rattle.r4_base.specs.Bytes.{number_bytes, overwrite}
use Rattle.r4_node40.proofs.Splices.{shifted_more}
use Rattle.r4_node40.proofs.edit.shift_offsets.Goals as goal

pub loop-i-preserved : goal.loop-i-preserved
loop-i-preserved c = shifted_more c.args.first c.args.count c.args.old c.args.new c.loop-i.i c.offset_of-offset.result c.args.b.now c.loop-i.b c.put16.new.b c.loop-i.invariant c.loop-i.auto.i c.loop-i-test.true (c.requires.enough c.loop-i.i c.loop-i.auto.i c.loop-i-test.true) (c.requires.small c.loop-i.i c.loop-i.auto.i c.loop-i-test.true) c.requires.room (c.loop-i.auto.b ∙ c.requires.whole) c.offset_of-offset.ensures (c.put16.ensures ∙ ap (λ (at : ℕ). overwrite (at + 32) (number_bytes 2 (c.offset_of-offset.result + c.args.new - c.args.old)) c.loop-i.b) c.header_of.ensures)
