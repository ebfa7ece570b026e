use Rattle.r4_trace.proofs.Safely.{safe_start, safe_push, safe_step, safe_committed, safe_empty, moments}
use Rattle.r4_trace.proofs.safety.steps_stay_safe.Goals as goal

pub returns : goal.returns
returns g c =
    let old = g.D.Device.state c.args.old.now in
    let new = g.D.Device.state c.args.new.now in
    record {
      start = λ w x. safe_start g.M.Images.means w x old;
      entry = λ w x t older e. safe_push g.M.Images.means w x t old older e;
      calls = λ w x t trace. safe_step g.M.Images.means w x t old new trace;
      committed = λ w x t older a. safe_committed g.M.Images.means w x t old new older a;
      empty = λ w x t older a. safe_empty g.M.Images.means w x t old older a;
      moments = λ w x t older trace. moments g.M.Images.means w x t old new older trace;
    }
