use Rattle.r4_trace.proofs.Legally.{earlier}
use Rattle.r4_trace.proofs.histories.earlier_traces_are_legal.Goals as goal

pub returns : goal.returns
returns c = earlier
