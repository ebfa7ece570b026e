use Rattle.std.proofs.Common.{string_bytes}
use Rattle.std.proofs.lemmas.Result.{IfOk-weaker}
use Rattle.r4_tool.proofs.Starting.{starts_with_block}
use Rattle.r4_tool.proofs.complaints.of_block.Goals as goal

pub returns : goal.returns
returns c =
    IfOk-weaker _ _ _ (λ s e. starts_with_block c.args.block.now c.args.text.now (string_bytes s) e)
    c.format.ensures.ok
