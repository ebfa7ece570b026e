use Rattle.std.proofs.Common.{ap, subst, sym}
use Rattle.r4_back.specs.Backing.{IsRefusedBack}
use Rattle.r4_back.specs.r4_build.declared.task.Task.{Task}
use Rattle.r4_content.specs.declared.reply.Reply.TheVariants.{Memory}
use Rattle.r4_back.specs.r4_history.Held.{IsOut}
use Rattle.r4_apply.proofs.Answered.{applied_by, sound_is}
use Rattle.r4_apply.proofs.applying.apply_after_failure.Goals as goal

pub refuse_back-requires-after_bounds : goal.refuse_back-requires-after_bounds
refuse_back-requires-after_bounds g c κs within =
    let m = c.requires.compared in
    let script = ap (λ (t : Task). t.script) c.task.ensures in
    (m.out, subst (λ s. IsOut c.args.core.now.turns s.0 m.out) (sym script) m.out_is.is)

pub returns : goal.returns
returns g c =
    let core = c.args.core.now in
    let new = c.refuse_back.new.core in
    let y = c.args.built in
    let m = c.requires.compared in
    let script = ap (λ (t : Task). t.script) c.task.ensures in
    let is = subst (λ s. IsOut core.turns s.0 m.out) (sym script) m.out_is.is in
    record {
      answer = c.args.found;
      there = c.requires.there;
      same = λ sound. sound_is core.broken c.requires.failed sound;
      compared = m;
      done = applied_by core new y.task.script m.out y core.broken c.requires.failed
          (subst (λ s. IsRefusedBack core new s m.out core.broken Memory) script (c.refuse_back.ensures m.out is));
    }
