use Rattle.r4_sets_rows.proofs.NeedsBodies.{bodies_needed}
use Rattle.r4_sets_rows.proofs.needed.bodies_are_shown_where_they_grow.Goals as goal

pub returns : goal.returns
returns c = record { bodies = bodies_needed }
