use Rattle.std.proofs.Common.{◌∙◌, length, ap}
use Rattle.r4_space.proofs.BitsLaws.{in_bits, same_size}
use Rattle.r4_space.proofs.SpaceLaws.{changed}
use Rattle.r4_space.proofs.TakenLaws.{first_bits-set}
use Rattle.r4_space.proofs.bits.Bits.put.Goals as goal

pub set_bit-requires : goal.set_bit-requires
set_bit-requires c =
    let i = c.self.inside in
    rw c.as_mut_slice.ensures.value (in_bits i.size c.args.i i.words.items c.args.self.now c.self.view_is c.requires c.self.invariant).1

pub invariant_of-self : goal.invariant_of-self
invariant_of-self c =
    let i = c.self.inside in
    let new = changed i.words c.as_mut_slice.result.now c.set_bit.new.words c.as_mut_slice.ensures.value c.set_bit.auto.words in
    rw new (same_size i.size i.words.items c.set_bit.new.words (c.set_bit.auto.words ∙ ap length c.as_mut_slice.ensures.value) c.self.invariant)

pub returns : goal.returns
returns c =
    let i = c.self.inside in
    let in_range = in_bits i.size c.args.i i.words.items c.args.self.now c.self.view_is c.requires c.self.invariant in
    let new = changed i.words c.as_mut_slice.result.now c.set_bit.new.words c.as_mut_slice.ensures.value c.set_bit.auto.words in
    rw (new, ← c.self.view_is) (first_bits-set i.size c.args.i i.words.items c.set_bit.new.words in_range.0 (rw c.as_mut_slice.ensures.value at c.set_bit.ensures.set))
