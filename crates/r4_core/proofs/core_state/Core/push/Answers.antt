use Rattle.std.proofs.Common.{sym, subst}
use Rattle.r4_trace.specs.Job.{HasNoBegin}
use Rattle.r4_turns.specs.Turns.{IsScript, commands_at}
use Rattle.r4_ready.specs.r4_kept.View.{CoreSeen}
use Rattle.r4_core.proofs.Pushed.{keeps_pushed}
use Rattle.r4_core.proofs.core_state.Core.push.Goals as goal

pub invariant_of-self-2 : goal.invariant_of-self-2
invariant_of-self-2 g c =
    let s = c.args.script.0 in
    let now = c.in_ok-more_room.ensures in
    let is_then : IsScript c.more_room.new.self.turns s =
    subst (λ (x : CoreSeen g.row.D.Denot). IsScript x.turns s) (sym now.ok) c.requires.script in
    let plain_then : HasNoBegin (commands_at c.more_room.new.self.turns s) =
    subst (λ (x : CoreSeen g.row.D.Denot). HasNoBegin (commands_at x.turns s)) (sym now.ok) c.requires.plain in
    let is = rw (← c.self.view_is) at is_then in
    let plain = rw (← c.self.view_is) at plain_then in
    let room = rw (← c.self.view_is) at now.room in
    keeps_pushed _ _ _ c.self.invariant s c.args.command c.requires.unnamed is plain c.requires.command room
    c.push.new.self c.in_ok-push.ensures.ok
