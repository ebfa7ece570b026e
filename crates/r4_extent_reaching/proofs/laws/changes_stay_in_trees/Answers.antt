use Rattle.r4_extent_reaching.proofs.Within.{still_of_tree}
use Rattle.r4_extent_reaching.proofs.laws.changes_stay_in_trees.Goals as goal

pub returns : goal.returns
returns c = λ b rs sizes of_tree k on. still_of_tree b rs sizes of_tree k on
