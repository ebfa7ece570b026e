use Rattle.std.proofs.Common.{◌∙◌, length, ap}
use Rattle.r4_space.proofs.BitsLaws.{in_bits, same_size}
use Rattle.r4_space.proofs.SpaceLaws.{changed}
use Rattle.r4_space.proofs.TakenLaws.{first_bits-clear}
use Rattle.r4_space.proofs.bits.Bits.take.Goals as goal

pub clear_bit-requires : goal.clear_bit-requires
clear_bit-requires c =
    let i = c.self.inside in
    rw c.as_mut_slice.ensures.value (in_bits i.size c.args.i i.words.items c.args.self.now c.self.view_is c.requires c.self.invariant).1

pub invariant_of-self : goal.invariant_of-self
invariant_of-self c =
    let i = c.self.inside in
    let new = changed i.words c.as_mut_slice.result.now c.clear_bit.new.words c.as_mut_slice.ensures.value c.clear_bit.auto.words in
    rw new (same_size i.size i.words.items c.clear_bit.new.words (c.clear_bit.auto.words ∙ ap length c.as_mut_slice.ensures.value) c.self.invariant)

pub returns : goal.returns
returns c =
    let i = c.self.inside in
    let in_range = in_bits i.size c.args.i i.words.items c.args.self.now c.self.view_is c.requires c.self.invariant in
    let new = changed i.words c.as_mut_slice.result.now c.clear_bit.new.words c.as_mut_slice.ensures.value c.clear_bit.auto.words in
    rw (new, ← c.self.view_is) (first_bits-clear i.size c.args.i i.words.items c.clear_bit.new.words in_range.0 (rw c.as_mut_slice.ensures.value at c.clear_bit.ensures.clear))
