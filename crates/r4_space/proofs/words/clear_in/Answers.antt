use Rattle.std.proofs.Common.{◌≡◌, ◌∙◌}
use Rattle.std.specs.Int.{w64, trailing_ones}
use Rattle.r4_space.proofs.WordLaws.{full_from, shows_first}
use Rattle.r4_space.proofs.words.clear_in.Goals as goal

pub returns-then-word : goal.returns-then-word
returns-then-word c = full_from c.args.words.now c.args.w c.args.from c.seen_from-word.result c.seen_from-word.ensures c.if-word.true

pub returns : goal.returns
returns c =
    let shown = shows_first c.args.words.now c.args.w c.args.from c.seen_from-word.result c.requires.below c.seen_from-word.type_inv c.if-word.false c.seen_from-word.ensures in
    let is : c.from.result ≡ trailing_ones w64 c.seen_from-word.result = c.from.ensures ∙ c.trailing_ones.ensures in
    rw is shown.first
