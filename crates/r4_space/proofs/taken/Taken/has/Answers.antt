use Rattle.std.proofs.Common.{◌∙◌, length}
use Rattle.r4_space.proofs.TakenLaws.{in_words, has_bit}
use Rattle.r4_space.proofs.taken.Taken.has.Goals as goal

pub get_bit-requires : goal.get_bit-requires
get_bit-requires c =
    let i = c.self.inside in
    rw c.as_slice.ensures.value (in_words i.size c.args.i (length i.words.items) i.words.items c.args.self.now c.self.view_is c.requires c.self.invariant.covers).1

pub returns : goal.returns
returns c =
    let i = c.self.inside in
    let in_range = (in_words i.size c.args.i (length i.words.items) i.words.items c.args.self.now c.self.view_is c.requires c.self.invariant.covers).0 in
    rw c.as_slice.ensures.value at c.get_bit.ensures ∙ has_bit i.size c.args.i i.words.items c.args.self.now c.self.view_is in_range
