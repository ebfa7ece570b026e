-- How the command of a task is answered.
use Rattle.std.proofs.Common.{◌≡◌, ◌∙◌, ℕ, None, Option, Some, ap, subst, sym}
use Rattle.std.specs.Prelude.{IsSome}
use Rattle.r4_back.specs.Backing.{IsRefusedBack, IsRefusedIn}
use Rattle.r4_base.specs.declared.things.ScriptNo.{ScriptNo}
use Rattle.r4_back.specs.r4_build.Built.{BuiltSeen}
use Rattle.r4_content.specs.declared.reply.Reply.{Reply}
use Rattle.r4_content.specs.declared.reply.Reply.TheVariants.{Memory}
use Rattle.r4_right.specs.r4_kept.View.{CoreSeen}
use Rattle.r4_turns.specs.Turns.{TurnsSeen, turn_at}
use Rattle.r4_turns.specs.declared.out.Out.{Out}
use Rattle.r4_turns.specs.declared.turn.Open.{Open}
use Rattle.r4_apply.specs.Applying.{IsAppliedBy}

-- its script's open transaction, as it is read
pub open_is : (t now : TurnsSeen) (s script : ScriptNo) (o : Option Open) → o ≡ (turn_at t s.0).transaction → t ≡ now
    → s ≡ script → (turn_at now script.0).transaction ≡ o
open_is t now s script o is same at =
    sym (is ∙ ap (λ (x : TurnsSeen). (turn_at x s.0).transaction) same
    ∙ ap (λ (x : ScriptNo). (turn_at now x.0).transaction) at)

-- some call failed
pub sound_is : {A : Type 0} (b : Option ℕ) → IsSome b → b ≡ None → A
sound_is None some none = absurd (cc some)
sound_is (Some clock) some none = absurd (cc none)

module _ {D : Type 0} (c new : CoreSeen D) (s : ScriptNo) (out : Out) where
  -- it is refused in this open transaction
  pub refused_in : (within : Open) → (turn_at c.turns s.0).transaction ≡ Some within → c.broken ≡ None
      → (reply : Reply) → IsRefusedBack c new s out c.broken reply
      → IsRefusedIn c new s out within.single within.txn reply
  refused_in within at sound reply is =
      let (o, same, refused) = subst (λ (b : Option ℕ). IsRefusedBack c new s out b reply) sound is in
      let one : o ≡ within = cc (sym same ∙ at) in
      subst (λ (z : Open). IsRefusedIn c new s out z.single z.txn reply) one refused

  pub applied_by : (y : BuiltSeen) (b : Option ℕ) → IsSome b → IsRefusedBack c new s out b Memory
      → IsAppliedBy c new s out y b
  applied_by y None some is = absurd (cc some)
  applied_by y (Some clock) some is = is
