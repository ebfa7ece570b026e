use Rattle.r4_bitmap.proofs.WordLaws.{seen_from}
use Rattle.r4_bitmap.proofs.view.word_from.Goals as goal

pub returns : goal.returns
returns c = seen_from c.args.b.now c.args.w c.args.from c.get64-word.result c.saturating_sub-before.result c.requires.reached c.saturating_sub-before.ensures c.get64-word.ensures
