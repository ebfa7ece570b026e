use Rattle.std.proofs.Common.{◌≡◌, length, refl, ap, ◌∙◌, arith}
use Rattle.r4_base.proofs.Lent.{refilled_is}
use Rattle.r4_node40.proofs.Fresh.{fresh}
use Rattle.r4_node40.proofs.node_mut.NodeMut.format.Goals as goal

pub returns-clause-block : goal.returns-clause-block
returns-clause-block c =
    let long : length c.format_block.new.b ≡ length c.args.block.now = c.format_block.auto.b ∙ ap length c.bytes_mut-bytes.ensures.value in
    let same = refilled_is c.args.block.now c.format_block.new.b long ∙ c.format_block.ensures.bytes in
    rw same refl

pub returns-clause-fresh : goal.returns-clause-fresh
returns-clause-fresh c =
    let long : length c.format_block.new.b ≡ length c.args.block.now = c.format_block.auto.b ∙ ap length c.bytes_mut-bytes.ensures.value in
    let same = refilled_is c.args.block.now c.format_block.new.b long ∙ c.format_block.ensures.bytes in
    rw same (fresh c.args.level c.args.mkfs_id c.requires.0 c.requires.1 (omega arith))
