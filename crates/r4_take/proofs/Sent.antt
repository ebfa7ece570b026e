-- What was sent, by all that was done for it.
use Rattle.std.proofs.Common.{◌≡◌, ◌∙◌, ℕ, Result, Ok, Err, ap, subst, sym}
use Rattle.std.specs.Arc.{arc_value}
use Rattle.std.specs.Prelude.{OnErr}
use Rattle.r4_seal.specs.r4_build.declared.task.Task.{Task}
use Rattle.r4_seal.specs.r4_buffer.Seen.{cells_of}
use Rattle.r4_content.specs.declared.command.Command.{Command}
use Rattle.r4_seal.specs.r4_core.Handing.{as_task}
use Rattle.r4_seal.specs.r4_core.declared.handing.Given.{Given}
use Rattle.r4_seal.specs.r4_kept.View.{CoreSeen}
use Rattle.r4_seal.specs.r4_others.Others.{pairs_of}
use Rattle.r4_seal.specs.r4_serve.declared.asked.Ready.{Ready}
use Rattle.r4_seal.specs.r4_taking.Fusing.{HasFusedAll}
use Rattle.r4_seal.specs.r4_taking.GoingOut.{HasGoneOut}
use Rattle.r4_take.specs.Sending.{CanBeBuilt, HasOwn, HasRoomier, IsGathered, IsSent, own_in}
use Rattle.r4_take.specs.declared.drawing.Draws.{Draws}
use Rattle.r4_take.specs.declared.gathering.Gathered.{Gathered}
use Rattle.r4_take.specs.declared.gathering.Own.{Own}
use Rattle.r4_turns.specs.Turns.{answered_at, turn_at}

pub on_any : {T E : Type 0} (x : Result T E) (P : Type 0) → P → OnErr x P
on_any {T} {E} (Ok x) P p = tt
on_any {T} {E} (Err e) P p = p

module _ {D : Type 0} (old roomy begun fused new : CoreSeen D) (s : ℕ) (named : Command) (draws : Draws) (ready : Ready) (task : Task)
    (own : Own) (g : Gathered) (same : own ≡ own_in old.atoms (turn_at old.turns s).transaction)
    (is : IsGathered old.atoms old.tree own draws ready g) (room : HasRoomier old roomy)
    (begins : HasOwn roomy begun s own own.begins)
    (fuses : HasFusedAll begun own.atom.0 (pairs_of g.others.items) fused)
    (out : HasGoneOut fused new s (as_task g.given task.id) (cells_of g.met.items))
    (numbers : new.numbers ≡ draws.next) (script : task.script.0 ≡ s) (index : task.index ≡ answered_at old.turns s)
    (txn : task.txn ≡ own.txn) (command : task.command ≡ named)
    (cells : (task.reads ≡ g.lent.reads) × (task.writes ≡ g.lent.writes)) (seen : task.seen ≡ g.lent.seen)
    (scope : task.scope ≡ g.given.scope) (fresh : task.fresh ≡ draws.own.fresh) (builds : CanBeBuilt task) where
  pub is_sent : IsSent old new s named draws ready task
  is_sent = record {
    gathered = g;
    is = subst (λ (z : Own). IsGathered old.atoms old.tree z draws ready g) same is;
    roomy = roomy;
    begun = begun;
    fused = fused;
    room = room;
    begins = subst (λ (z : Own). HasOwn roomy begun s z z.begins) same begins;
    fuses = subst (λ (z : Own). HasFusedAll begun z.atom.0 (pairs_of g.others.items) fused) same fuses;
    out = out;
    numbers = numbers;
    lent = record {
      script = script;
      index = index;
      txn = txn ∙ sym (ap (λ (z : Given). z.txn) is.given);
      command = command;
      cells = (
        cells.0 ∙ is.lent.reads_are ∙ sym (ap (λ (z : Given). z.reads) is.given),
        cells.1 ∙ is.lent.writes_are ∙ sym (ap (λ (z : Given). z.writes) is.given),
      );
      seen = ap arc_value seen ∙ is.lent.seen_is ∙ sym is.seen;
      scope = scope;
      fresh = fresh ∙ sym (ap (λ (z : Given). z.numbers.fresh) is.given);
    };
    builds = builds;
  }
