use Rattle.r4_lost_tasks.proofs.TwigsGo.{goes_at}
use Rattle.r4_lost_tasks.proofs.laws.twigs_have_blocks.Goals as goal

pub returns : goal.returns
returns c = λ b cells k have on. goes_at b cells k have on
