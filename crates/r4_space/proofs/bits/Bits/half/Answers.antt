use Rattle.std.proofs.Common.{◌∙◌}
use Rattle.r4_space.proofs.BitsLaws.{half_within, half_bits}
use Rattle.r4_space.proofs.bits.Bits.half.Goals as goal

pub half_of-requires : goal.half_of-requires
half_of-requires c =
    let i = c.self.inside in
    rw c.as_slice.ensures.value (half_within i.size c.args.h i.words.items c.args.self.now c.self.view_is c.requires c.self.invariant)

pub returns : goal.returns
returns c j lt within =
    let i = c.self.inside in
    rw c.as_slice.ensures.value at (c.half_of.ensures j lt) ∙ half_bits i.size c.args.h j i.words.items c.args.self.now c.self.view_is within
