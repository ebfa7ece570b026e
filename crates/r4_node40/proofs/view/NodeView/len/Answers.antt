use Rattle.std.proofs.Common.{sym, ◌∙◌}
use Rattle.r4_node40.proofs.Laid.{length-items_of}
use Rattle.r4_node40.proofs.view.NodeView.len.Goals as goal

pub returns : goal.returns
returns c = c.args.self.now.counted ∙ sym (length-items_of c.args.self.now.block.now)
