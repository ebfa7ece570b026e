use Rattle.r4_sets.proofs.Shown.{bodies_shown}
use Rattle.r4_sets.proofs.changes.bodies_are_shown.Goals as goal

pub returns : goal.returns
returns g = λ limit touched changed u raw n m small units vn bn bm others shows o a stat file h.
    bodies_shown limit small touched changed u raw n m units vn bn bm others shows o a stat file
