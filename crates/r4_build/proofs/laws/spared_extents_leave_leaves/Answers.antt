use Rattle.r4_build.proofs.Lying.{lies_in_leaf}
use Rattle.r4_build.proofs.laws.spared_extents_leave_leaves.Goals as goal

pub returns : goal.returns
returns c = λ b e reads t r f cells k reached touched spares lawful on. lies_in_leaf b e reads t r f cells reached touched spares lawful k on
