use Rattle.r4_reaching.proofs.Answering.{is_reach}
use Rattle.r4_reaching.proofs.laws.marked_cells_are_a_reach.Goals as goal

pub returns : goal.returns
returns c = λ p root command seen known questions e read met held m r touched part keys marked more from.
    is_reach p root command seen known questions e read touched met part held keys m marked more r from
