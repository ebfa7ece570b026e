use Rattle.std.proofs.Common.{◌∙◌}
use Rattle.r4_node40.specs.View.{item_shown}
use Rattle.r4_leaf.proofs.SoundItems.{tail_item}
use Rattle.r4_leaf.proofs.placing.continues.Goals as goal

pub behind-requires : goal.behind-requires
behind-requires c = (tail_item (item_shown c.args.last.now) (c.if-last-plugin.false ∙ c.if-plugin-eq-TAIL.true) c.requires).short
