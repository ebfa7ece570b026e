use Rattle.std.proofs.Common.{◌∙◌}
use Rattle.r4_space.proofs.BitsLaws.{in_bits, has_bit_of}
use Rattle.r4_space.proofs.bits.Bits.has.Goals as goal

pub get_bit-requires : goal.get_bit-requires
get_bit-requires c =
    let i = c.self.inside in
    rw c.as_slice.ensures.value (in_bits i.size c.args.i i.words.items c.args.self.now c.self.view_is c.requires c.self.invariant).1

pub returns : goal.returns
returns c =
    let i = c.self.inside in
    rw c.as_slice.ensures.value at c.get_bit.ensures ∙ has_bit_of i.size c.args.i i.words.items c.args.self.now c.self.view_is c.requires
