use Rattle.r4_trace.proofs.Stepping.{reading_has_all, said_is_kept}
use Rattle.r4_trace.proofs.safety.what_a_trace_promises.Goals as goal

pub returns : goal.returns
returns g c = record {
  said = λ w start clock trace legal time safe tells. said_is_kept g.M.Images.means w start clock trace legal
      (g.D.Device.state c.args.dev.now) safe tells time;
  reading =
      λ w start clock trace legal time safe tells. reading_has_all g.M.Images.means w start clock trace legal
      (g.D.Device.state c.args.dev.now) safe tells time;
}
