use Rattle.r4_sets_told.proofs.Showing.{shows, stats}
use Rattle.r4_sets_told.proofs.touched.commands_show_bodies.Goals as goal

pub returns : goal.returns
returns c = record {
  stats = λ limit x n touched changed lt lawful bytes unused h. stats limit lt x n lawful bytes unused touched changed
      h;
  bodies = λ limit x n touched changed lt lawful bytes unused h. shows limit lt x n lawful bytes unused touched changed
      h;
}
