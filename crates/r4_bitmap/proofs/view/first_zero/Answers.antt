use Rattle.std.proofs.Common.{◌≡◌, ◌∙◌, arith}
use Rattle.std.specs.Int.{w64, trailing_ones}
use Rattle.r4_bitmap.proofs.WordLaws.{full_word, shows_first}
use Rattle.r4_bitmap.proofs.view.first_zero.Goals as goal

pub overflow_sub-result : goal.overflow_sub-result
overflow_sub-result c =
    let shown = shows_first c.args.b.now c.args.from c.loop-w.w c.word_from-word.result c.requires.within (omega arith) (omega arith) (omega arith) c.if-word.true c.word_from-word.ensures c.loop-w.invariant in
    let is : c.from.result ≡ trailing_ones w64 c.word_from-word.result = c.from.ensures ∙ c.trailing_ones.ensures in
    rw is shown.past_front

pub returns-then-word : goal.returns-then-word
returns-then-word c =
    let shown = shows_first c.args.b.now c.args.from c.loop-w.w c.word_from-word.result c.requires.within (omega arith) (omega arith) (omega arith) c.if-word.true c.word_from-word.ensures c.loop-w.invariant in
    let is : c.from.result ≡ trailing_ones w64 c.word_from-word.result = c.from.ensures ∙ c.trailing_ones.ensures in
    rw is shown.first

pub loop-w-preserved : goal.loop-w-preserved
loop-w-preserved c = full_word c.args.b.now c.args.from c.loop-w.w c.word_from-word.result c.word_from-word.ensures c.if-word.false c.loop-w.invariant
