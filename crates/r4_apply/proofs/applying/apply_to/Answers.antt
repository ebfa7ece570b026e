use Rattle.std.proofs.Common.{Ok, refl, subst, sym}
use Rattle.r4_back.specs.Backing.{IsCompared}
use Rattle.r4_apply.specs.Applying.{IsAppliedBy}
use Rattle.r4_apply.proofs.applying.apply_to.Goals as goal

pub returns-in-Ok : goal.returns-in-Ok
returns-in-Ok g c =
    let core = c.args.core.now in
    let y = c.args.built in
    let m = subst (IsCompared core y.task) c.in-Ok.is c.requires.compared in
    record {
      answer = Ok tt;
      there = λ e. absurd (cc e);
      same = λ sound. refl;
      compared = m;
      done = subst (IsAppliedBy core c.work.new.core y.task.script m.out y) (sym c.requires.sound)
          (c.work.ensures m.out m.out_is.is);
    }
