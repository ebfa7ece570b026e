use Rattle.std.proofs.Common.{◌/◌, arith}
use Rattle.r4_space.proofs.WordLaws.{tells_rest, told_clear_word}
use Rattle.r4_space.proofs.words.take_bit.Goals as goal

pub returns-then-not-set_bit-clause-told : goal.returns-then-not-set_bit-clause-told
returns-then-not-set_bit-clause-told c =
    tells_rest c.args.words.now c.set_bit.new.words c.args.full.now c.args.i c.requires.told c.requires.within c.requires.clear (record { size = c.set_bit.auto.words; bits = c.set_bit.ensures.set; others = c.set_bit.ensures.others }) c.if-not-set_bit.ensures.full

pub returns-then-not-set_bit-2-clause-told_too : goal.returns-then-not-set_bit-2-clause-told_too
returns-then-not-set_bit-2-clause-told_too c =
    tells_rest c.args.full.now c.set_bit-2.new.words c.args.fuller.now (c.args.i / 64) c.requires.told_too (let covers = c.requires.told.covers in let within = c.requires.within in omega arith) (told_clear_word c.args.words.now c.args.full.now c.args.i c.requires.told c.requires.within c.requires.clear) (record { size = c.set_bit-2.auto.words; bits = c.set_bit-2.ensures.set; others = c.set_bit-2.ensures.others }) c.if-not-set_bit-2.ensures.full
