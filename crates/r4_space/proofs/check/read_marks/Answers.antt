use Rattle.std.proofs.Common.{◌≡◌, ◌+◌, ◌*◌, ◌++◌, ◌∷◌, [], ◌∙◌, arith, rules}
use Rattle.r4_space.proofs.HalfLaws.{read_all, read_more}
use Rattle.r4_space.proofs.check.read_marks.Goals as goal

pub loop-w-preserved : goal.loop-w-preserved
loop-w-preserved c =
    let pushed : c.push.new.self.items ≡ c.loop-w.words.items ++ (c.half_at-high.result * 4294967296 + c.half_at-low.result) ∷ [] = search rules in
    read_more c.args.bitmaps.now c.loop-w.words.items c.push.new.self.items c.loop-w.w c.half_at-low.result c.half_at-high.result
    c.loop-w.invariant (omega arith) pushed c.half_at-low.ensures c.half_at-high.ensures

pub returns : goal.returns
returns c =
    let end = c.loop-w-test.false in
    let most = c.requires.each in
    c.of_words.ensures ∙ read_all c.args.bitmaps.now c.loop-w.words.items c.loop-w.w c.args.blocks c.loop-w.invariant
    (omega (arith, end)) (omega (arith, most))
