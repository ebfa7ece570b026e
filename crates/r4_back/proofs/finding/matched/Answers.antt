use Rattle.std.proofs.Common.{◌∙◌, ap, inl, subst, sym}
use Rattle.r4_next.specs.r4_history.Tables.{next_at}
use Rattle.r4_turns.specs.Turns.{IsScript, answered_at, turn_at}
use Rattle.r4_back.specs.Backing.{IsAnswer}
use Rattle.r4_back.proofs.Back.{answer_of}
use Rattle.r4_back.proofs.finding.matched.Goals as goal

pub unreachable-requires : goal.unreachable-requires
unreachable-requires g c =
    let core = c.args.core.now in
    let s = c.args.task.now.script.0 in
    let turns = c.turns-turns.ensures in
    let is_script = subst (λ t. IsScript t s) turns c.if-not-is_script.ensures in
    let is_out = ap (λ t. (turn_at t s).out) (sym turns) ∙ sym c.in-Some.ensures in
    let served = c.lawful.ensures.kept.tables.tasks.served s c.in-Some.out.now
    (record { is_script = is_script; is_out = is_out }) in
    absurd (cc (c.in_default-command.ensures ∙ ap (λ t. next_at t s) turns ∙ served.next))

pub returns : goal.returns
returns g c =
    let core = c.args.core.now in
    let task = c.args.task.now in
    let s = task.script.0 in
    let turns = c.turns-turns.ensures in
    let is_script = subst (λ t. IsScript t s) turns c.if-not-is_script.ensures in
    let out = c.in-Some.out.now in
    let x = c.in-Some-command.command.now in
    let index = c.answered.ensures.value ∙ ap (λ t. answered_at t s) turns in
    inl (record {
      out = out;
      command = x;
      out_is = record {
        is = record { is_script = is_script; is_out = ap (λ t. (turn_at t s).out) (sym turns) ∙ sym c.in-Some.ensures };
        next = ap (λ t. next_at t s) (sym turns) ∙ sym c.in-Some-command.ensures;
      };
      answer = subst (λ i. IsAnswer out task.script i x task c.match_task.result) index
          (answer_of out task.script c.answered.result x task c.match_task.result c.match_task.ensures.answer);
    })
