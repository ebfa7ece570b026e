use Rattle.r4_base.specs.Key.{rank}
use Rattle.r4_work.specs.r4_edit.Remaking.{after_edits}
use Rattle.r4_measure.proofs.Turn.{turn_kept}
use Rattle.r4_measure.proofs.laws.turns_keep_the_measure.Goals as goal

pub returns : goal.returns
returns g t r before after w now b key cuts items made is unplaced fits =
    let (left, measured, leaves, few, root) = turn_kept t r before w b is (rank key) made.leaf made.ups made.path now after
    (after_edits cuts items made.leaf) made.edit fits unplaced.0 unplaced.1 made.takes made.change made.meets made.edits made.put
    made.working in
    record { left = left; measured = measured; leaves = leaves; few = few; root = root }
