use Rattle.std.proofs.Common.{◌≡◌, length, ap, ◌∙◌}
use Rattle.r4_base.proofs.Lent.{refilled_is}
use Rattle.r4_node40.proofs.node_mut.NodeMut.remove.Goals as goal

pub returns-clause-removes : goal.returns-clause-removes
returns-clause-removes c =
    let long : length c.remove_item.new.b ≡ length c.args.self.now.block.now = c.remove_item.auto.b ∙ ap length c.bytes_mut-bytes.ensures.value in
    rw (refilled_is c.args.self.now.block.now c.remove_item.new.b long, ← c.bytes_mut-bytes.ensures.value) c.remove_item.ensures
