use Rattle.std.proofs.Common.{rules}
use Rattle.r4_summary.proofs.Steps.{root_kept}
use Rattle.r4_summary.proofs.following.root_alone.Goals as goal

pub returns : goal.returns
returns c = root_kept c.root_key-key.result _ c.root_key-key.ensures (search rules)
