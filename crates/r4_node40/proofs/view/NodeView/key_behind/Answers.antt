use Rattle.std.proofs.Common.{sym, ◌+◌}
use Rattle.r4_node40.specs.View.{view_items}
use Rattle.r4_node40.proofs.Following.{next_is}
use Rattle.r4_node40.proofs.view.NodeView.key_behind.Goals as goal

pub returns-then-len-i-gt1 : goal.returns-then-len-i-gt1
returns-then-len-i-gt1 c = sym (next_is _ (view_items c.args.self.now) (c.args.i + 1) _ c.item.ensures.shown)
