use Rattle.r4_trace.proofs.FirstOnes.{begun_counted, new_atom}
use Rattle.r4_trace.proofs.Folded.{content_begun, replies_begun}
use Rattle.r4_trace.proofs.histories.all_that_began.Goals as goal

pub returns : goal.returns
returns c = record { begun = begun_counted; new_atom = new_atom; content = content_begun; replies = replies_begun }
