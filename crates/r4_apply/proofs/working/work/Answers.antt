use Rattle.std.proofs.Common.{◌∙◌, ap, inl, inr, length, subst, sym}
use Rattle.r4_atoms.specs.Atoms.{IsBegun, atom_of}
use Rattle.r4_back.specs.Backing.{IsRefusedBack}
use Rattle.r4_back.specs.r4_build.declared.task.Task.{Task}
use Rattle.r4_content.specs.Fields.{HasBytePaths}
use Rattle.r4_content.specs.declared.reply.Reply.TheVariants.{Memory, Space}
use Rattle.r4_back.specs.r4_core.Doing.{CanDo}
use Rattle.r4_back.specs.r4_history.Held.{IsOut}
use Rattle.r4_right.specs.r4_kept.View.{CoreSeen}
use Rattle.r4_trace.specs.Kept.{Told}
use Rattle.r4_turns.specs.declared.out.Out.{Out}
use Rattle.r4_apply.specs.Applying.{IsCountable, IsDoneIn, IsRightIn}
use Rattle.r4_apply.proofs.Answered.{open_is, refused_in}
use Rattle.r4_apply.proofs.Doable.{begun, doable, right_in}
use Rattle.r4_apply.proofs.working.work.Goals as goal

pub unreachable-requires : goal.unreachable-requires
unreachable-requires g c =
    let core = c.args.core.now in
    let y = c.args.built in
    let m = c.requires.same in
    let script = ap (λ (t : Task). t.script) c.task.ensures in
    let served = c.lawful.ensures.kept.tables.tasks.served y.task.script.0 m.out m.out_is.is in
    let none = open_is c.turns.result.now core.turns c.task.result.now.script y.task.script c.open.result c.open.ensures
    c.turns.ensures script ∙ c.in_default.is in
    absurd (cc (sym none ∙ served.transaction))

pub atom-atom-requires : goal.atom-atom-requires
atom-atom-requires g c =
    let core = c.args.core.now in
    let y = c.args.built in
    let m = c.requires.same in
    let script = ap (λ (t : Task). t.script) c.task.ensures in
    let at = open_is c.turns.result.now core.turns c.task.result.now.script y.task.script c.open.result c.open.ensures
    c.turns.ensures script ∙ c.in-Some.is in
    let within_is = c.in-Some.within in
    subst (λ x. IsBegun x within_is.txn.0) (sym c.atoms-2.ensures)
    (begun _ _ core c.lawful.ensures.kept y m within_is at)

pub refuse_back-requires-after_bounds : goal.refuse_back-requires-after_bounds
refuse_back-requires-after_bounds g c κs within =
    let m = c.requires.same in
    let script = ap (λ (t : Task). t.script) c.task.ensures in
    (m.out, subst (λ s. IsOut c.args.core.now.turns s.0 m.out) (sym script) m.out_is.is)

pub returns-then-not-is_countable : goal.returns-then-not-is_countable
returns-then-not-is_countable g c = λ out is.
    let core = c.args.core.now in
    let y = c.args.built in
    let m = c.requires.same in
    let script = ap (λ (t : Task). t.script) c.task.ensures in
    let at = open_is c.turns.result.now core.turns c.task.result.now.script y.task.script c.open.result c.open.ensures
    c.turns.ensures script ∙ c.in-Some.is in
    let within_is = c.in-Some.within in
    let new = c.refuse_back.new.core in
    let a = c.atom-atom.result in
    let own = c.atom-atom.ensures ∙ ap (λ x. atom_of x within_is.txn.0) c.atoms-2.ensures in
    let count : IsCountable (length core.trace.entries) → ⊥ =
    subst (λ (t : Told). IsCountable (length t.entries) → ⊥) c.trace.ensures c.if-not-is_countable.ensures in
    let out_is = subst (λ s. IsOut core.turns s.0 out) (sym script) is in
    let back = subst (λ s. IsRefusedBack core new s out core.broken Memory) script (c.refuse_back.ensures out out_is) in
    record {
      within = within_is;
      transaction = at;
      atom = a;
      own = own;
      done = inr (count, refused_in core new y.task.script out within_is at c.requires.sound Memory back);
    }

pub done_in-requires-clause-can : goal.done_in-requires-clause-can
done_in-requires-clause-can g c κs within =
    let core = c.args.core.now in
    let y = c.args.built in
    let m = c.requires.same in
    let script = ap (λ (t : Task). t.script) c.task.ensures in
    let at = open_is c.turns.result.now core.turns c.task.result.now.script y.task.script c.open.result c.open.ensures
    c.turns.ensures script ∙ c.in-Some.is in
    let within_is = c.in-Some.within in
    let a = c.atom-atom.result in
    let own = c.atom-atom.ensures ∙ ap (λ x. atom_of x within_is.txn.0) c.atoms-2.ensures in
    let count = subst (λ (t : Told). IsCountable (length t.entries)) c.trace.ensures c.if-not-is_countable.ensures in
    let made = c.made_of-made.result in
    let paths = subst (λ (t : Task). HasBytePaths t.command) c.task-2.ensures c.lawful-3.ensures in
    subst (λ s. (out : Out) × CanDo core s within_is out made a) (sym script) (
      m.out,
      doable _ _ core c.lawful.ensures.kept y m within_is at c.requires.sound a own c.lawful.ensures.holds
          c.lawful.ensures.buffer made c.made_of-made.ensures.built c.made_of-made.ensures.made count paths,
    )

pub done_in-requires-clause-right : goal.done_in-requires-clause-right
done_in-requires-clause-right g c κs within =
    let core = c.args.core.now in
    let y = c.args.built in
    let m = c.requires.same in
    let script = ap (λ (t : Task). t.script) c.task.ensures in
    let at = open_is c.turns.result.now core.turns c.task.result.now.script y.task.script c.open.result c.open.ensures
    c.turns.ensures script ∙ c.in-Some.is in
    let within_is = c.in-Some.within in
    let a = c.atom-atom.result in
    let own = c.atom-atom.ensures ∙ ap (λ x. atom_of x within_is.txn.0) c.atoms-2.ensures in
    let count = subst (λ (t : Told). IsCountable (length t.entries)) c.trace.ensures c.if-not-is_countable.ensures in
    let made = c.made_of-made.result in
    let paths = subst (λ (t : Task). HasBytePaths t.command) c.task-2.ensures c.lawful-3.ensures in
    subst (λ s. IsRightIn _ (g.D.Device.state core.dev) core s within_is.single within_is.txn made a) (sym script)
    (right_in _ (g.D.Device.state core.dev) core y m within_is at c.requires.sound a own c.lawful.ensures.holds
    c.lawful.ensures.buffer made c.made_of-made.ensures.built c.made_of-made.ensures.made count paths
    c.on_disk_law.ensures within_is.single)

pub refuse_back-requires-in-Err-after_bounds : goal.refuse_back-requires-in-Err-after_bounds
refuse_back-requires-in-Err-after_bounds g c κs within =
    let m = c.requires.same in
    let script = ap (λ (t : Task). t.script) c.task.ensures in
    let is = subst (λ s. IsOut c.args.core.now.turns s.0 m.out) (sym script) m.out_is.is in
    (m.out, subst (λ (z : CoreSeen _). IsOut z.turns c.task.result.now.script.0 m.out) (sym c.in-Err.ensures.err) is)

pub returns-in-Err : goal.returns-in-Err
returns-in-Err g c = λ out is.
    let core = c.args.core.now in
    let y = c.args.built in
    let m = c.requires.same in
    let script = ap (λ (t : Task). t.script) c.task.ensures in
    let at = open_is c.turns.result.now core.turns c.task.result.now.script y.task.script c.open.result c.open.ensures
    c.turns.ensures script ∙ c.in-Some.is in
    let within_is = c.in-Some.within in
    let a = c.atom-atom.result in
    let own = c.atom-atom.ensures ∙ ap (λ x. atom_of x within_is.txn.0) c.atoms-2.ensures in
    let count = subst (λ (t : Told). IsCountable (length t.entries)) c.trace.ensures c.if-not-is_countable.ensures in
    let made = c.made_of-made.result in
    let new = c.refuse_back-in-Err.new.core in
    let s = c.task.result.now.script in
    let reply = Space c.in-Err.short.need c.in-Err.short.free in
    let out_is = subst (λ z. IsOut core.turns z.0 out) (sym script) is in
    let refuses = subst
    (λ (z : CoreSeen _). (o : Out) → IsOut z.turns s.0 o → IsRefusedBack z new s o z.broken reply)
    c.in-Err.ensures.err c.refuse_back-in-Err.ensures in
    let back = subst (λ z. IsRefusedBack core new z out core.broken reply) script (refuses out out_is) in
    record {
      within = within_is;
      transaction = at;
      atom = a;
      own = own;
      done = inl (
        count,
        made,
        c.made_of-made.ensures.made,
        inr (record {
          short = c.in-Err.short;
          is = c.in-Err.ensures.short;
          refused = refused_in core new y.task.script out within_is at c.requires.sound reply back;
        }),
      );
    }

pub returns-in_default-done_in : goal.returns-in_default-done_in
returns-in_default-done_in g c = λ out is.
    let core = c.args.core.now in
    let y = c.args.built in
    let m = c.requires.same in
    let script = ap (λ (t : Task). t.script) c.task.ensures in
    let at = open_is c.turns.result.now core.turns c.task.result.now.script y.task.script c.open.result c.open.ensures
    c.turns.ensures script ∙ c.in-Some.is in
    let within_is = c.in-Some.within in
    let a = c.atom-atom.result in
    let own = c.atom-atom.ensures ∙ ap (λ x. atom_of x within_is.txn.0) c.atoms-2.ensures in
    let count = subst (λ (t : Told). IsCountable (length t.entries)) c.trace.ensures c.if-not-is_countable.ensures in
    let made = c.made_of-made.result in
    let new = c.done_in.new.core in
    let out_is = subst (λ z. IsOut core.turns z.0 out) (sym script) is in
    let done = subst (λ z. IsDoneIn core new z within_is.single within_is.txn made a out) script
    (c.in_default-done_in.ensures.ok out out_is) in
    record {
      within = within_is;
      transaction = at;
      atom = a;
      own = own;
      done = inl (count, made, c.made_of-made.ensures.made, inl done);
    }
