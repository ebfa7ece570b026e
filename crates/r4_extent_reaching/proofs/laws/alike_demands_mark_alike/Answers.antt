use Rattle.r4_extent_reaching.proofs.Marked.{marks_alike}
use Rattle.r4_extent_reaching.proofs.laws.alike_demands_mark_alike.Goals as goal

pub returns : goal.returns
returns c = λ d f met root rs ws rises it same m. marks_alike d f met root rs ws rises it same m
