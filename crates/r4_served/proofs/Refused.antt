-- A command is refused, in a core with more room.
use Rattle.std.proofs.Common.{◌≡◌, ◌+◌, ◌≤◌, ℕ, Option, ap, arith, subst, sym}
use Rattle.r4_base.specs.declared.things.ScriptNo.{ScriptNo}
use Rattle.r4_content.specs.declared.reply.Reply.{Reply}
use Rattle.r4_take.proofs.r4_kept.Turning.{owed_answered}
use Rattle.r4_take.specs.r4_kept.History.{owed, owed_for_commit}
use Rattle.r4_take.specs.r4_kept.View.{CoreSeen}
use Rattle.r4_take.specs.r4_ready.Rooms.{HasMoreRoom}
use Rattle.r4_turns.specs.Turns.{IsScript, answered_one, turn_at}
use Rattle.r4_turns.specs.declared.turn.Open.{Open}
use Rattle.r4_served.specs.Serving.{refused_by}
use Rattle.r4_take.specs.Sending.{IsServable}
use Rattle.r4_content.specs.declared.command.Command.{Command}

-- there is room for the entry
pub one_entry : {D : Type 0} (c : CoreSeen D) (s : ScriptNo) → IsScript c.turns s.0
    → owed c.turns + owed_for_commit c.commit + 2 ≤ c.trace.spare
    → owed (answered_one c.turns s.0) + owed_for_commit c.commit + 1 ≤ c.trace.spare
one_entry c s is room =
    let less = owed_answered c.turns s.0 is in
    omega (arith, less, room)

pub by_open : {D : Type 0} (c new : CoreSeen D) (s : ScriptNo) (reply : Reply) (o : Option Open)
    → o ≡ (turn_at c.turns s.0).transaction → new ≡ refused_by c s o reply
    → new ≡ refused_by c s (turn_at c.turns s.0).transaction reply
by_open c new s reply o at same = subst (λ z. new ≡ refused_by c s z reply) at same

pub servable_still : {D : Type 0} (old m : CoreSeen D) (more : HasMoreRoom old m) (s : ℕ) (x : Command)
    → IsServable old s x → IsServable m s x
servable_still old m more s x is =
    let same = ap (λ (z : CoreSeen _). z.turns) more.same in
    subst (λ (z : CoreSeen _). IsServable z s x) (sym more.same)
    (record { stands = is.stands; work = is.work; free = is.free })
