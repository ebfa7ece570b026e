use Rattle.r4_node40.specs.View.{item_shown}
use Rattle.r4_check_gather.proofs.Gathered.{extent_good, stat_good}
use Rattle.r4_check_gather.proofs.gather.thing_of.Goals as goal

pub facts_in-requires : goal.facts_in-requires
facts_in-requires c = stat_good (item_shown c.args.item.now) c.if-item-eq-STAT.true c.requires.sound

pub of_item-requires-clause-good : goal.of_item-requires-clause-good
of_item-requires-clause-good c = extent_good (item_shown c.args.item.now) c.if-item-eq-EXTENT.true c.requires.sound
