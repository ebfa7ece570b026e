use Rattle.std.proofs.Common.{◌/◌}
use Rattle.r4_space.proofs.WordLaws.{tells_cleared}
use Rattle.r4_space.proofs.words.give_bit.Goals as goal

pub returns-clause-told : goal.returns-clause-told
returns-clause-told c =
    tells_cleared c.args.words.now c.clear_bit.new.words c.args.full.now c.clear_bit-2.new.words c.args.i c.requires.told
    (record { size = c.clear_bit.auto.words; bits = c.clear_bit.ensures.clear; others = c.clear_bit.ensures.others })
    (record { size = c.clear_bit-2.auto.words; bits = c.clear_bit-2.ensures.clear; others = c.clear_bit-2.ensures.others })

pub returns-clause-told_too : goal.returns-clause-told_too
returns-clause-told_too c =
    tells_cleared c.args.full.now c.clear_bit-2.new.words c.args.fuller.now c.clear_bit-3.new.words (c.args.i / 64) c.requires.told_too
    (record { size = c.clear_bit-2.auto.words; bits = c.clear_bit-2.ensures.clear; others = c.clear_bit-2.ensures.others })
    (record { size = c.clear_bit-3.auto.words; bits = c.clear_bit-3.ensures.clear; others = c.clear_bit-3.ensures.others })
