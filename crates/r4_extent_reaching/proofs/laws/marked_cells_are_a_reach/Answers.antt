use Rattle.r4_extent_reaching.proofs.Assembled.{is_reach}
use Rattle.r4_extent_reaching.proofs.laws.marked_cells_are_a_reach.Goals as goal

pub returns : goal.returns
returns c = λ p root command seen known questions n met held m r touched at reads marked more from.
    is_reach p root command seen known questions n touched met at held reads m marked more r from
