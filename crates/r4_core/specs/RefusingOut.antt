-- What the refusal of a single command changes whose task is out.
use Rattle.std.specs.Prelude.{◌≡◌}
use Rattle.r4_base.specs.declared.things.ScriptNo.{ScriptNo}
use Rattle.r4_base.specs.declared.things.TxnNo.{TxnNo}
use Rattle.r4_content.specs.declared.reply.Reply.{Reply}
use Rattle.r4_ready.specs.r4_kept.Steps.{IsTakenBack}
use Rattle.r4_ready.specs.r4_kept.View.{CoreSeen}
use Rattle.r4_ready.specs.r4_taking.Refusing.{refused_single}
use Rattle.r4_turns.specs.declared.out.Out.{Out}

-- Its task is given back, and then it is refused and its transaction ends.
pub record IsRefusedOut
    {D : Type 0} (old new : CoreSeen D)
    (script : ScriptNo) (txn : TxnNo) (reply : Reply) (out : Out) : Type 0 where
  pub between : CoreSeen D
  pub back : IsTakenBack old between script.0 out
  pub refused : new ≡ refused_single between script txn reply
