-- What was served, by what was told.
use Rattle.std.proofs.Common.{◌≡◌, ◌∙◌, ℕ, Err, Ok, Result, Option, Some, None, Bool, true, false, ap, arith, refl, subst, sym}
use Rattle.std.specs.Prelude.{IfOk, OnErr}
use Rattle.std.specs.declared.alloc.AllocError.{AllocError}
use Rattle.r4_base.specs.declared.things.ScriptNo.{ScriptNo}
use Rattle.r4_base.specs.declared.things.TxnNo.{TxnNo}
use Rattle.r4_take.specs.r4_build.declared.task.Task.{Task}
use Rattle.r4_content.specs.declared.command.Command.{Command}
use Rattle.r4_content.specs.declared.reply.Reply.{Reply}
use Rattle.r4_take.specs.r4_kept.View.{CoreSeen}
use Rattle.r4_take.specs.r4_others.Others.{pairs_of}
use Rattle.r4_outside.specs.Device.{State}
use Rattle.r4_take.specs.r4_ready.Readiness.{parts_of}
use Rattle.r4_take.specs.r4_ready.Rooms.{HasMoreRoom}
use Rattle.r4_take.specs.r4_search.Pool.{LeavesDevice}
use Rattle.r4_take.specs.r4_serve.Serving.{Asks}
use Rattle.r4_take.specs.r4_serve.declared.asked.Asked.{Asked}
use Rattle.r4_take.specs.r4_serve.declared.asked.Asked.TheVariants as asked
use Rattle.r4_take.specs.r4_serve.declared.asked.Ready.{Ready}
use Rattle.r4_take.proofs.Roomy.{dev_same, roomier_same}
use Rattle.r4_take.specs.Sending.{HasOwn, HasRoomier, IsNamed, IsSent, IsServable, own_in}
use Rattle.r4_take.specs.declared.drawing.Draws.{Draws}
use Rattle.r4_take.specs.declared.gathering.Own.{Own}
use Rattle.r4_take.proofs.r4_taking.FusedAll.{others_stay}
use Rattle.r4_turns.specs.Turns.{turn_at}
use Rattle.r4_turns.specs.declared.turn.Open.{Open}
use Rattle.r4_served.specs.Serving.{IsAnswered, IsLeft, IsRead, IsRefused, IsServed, IsServedBy, refused_by, refused_within}
use Rattle.r4_served.specs.declared.serving.Served.{Served}

-- ---- the device stays

leaves_itself : (d : State) → LeavesDevice d d
leaves_itself d = record {
  goes = record {
    blocks = refl;
    lender = refl;
    stop = refl;
    reads = (λ x. x, λ x. x);
    crashes = (λ x. x, λ x. x);
    time = omega arith;
    faults = omega arith;
    earlier = λ m b s x le. (λ y. y, λ y. y);
  };
  idle = record { seen = refl; clock = refl };
}

module _ {D : Type 0} where
  own_dev : (old new : CoreSeen D) (s : ℕ) (own : Own) (begins : Bool) → HasOwn old new s own begins
      → new.dev ≡ old.dev
  own_dev old new s own true h = ap (λ (x : CoreSeen D). x.dev) h.same
  own_dev old new s own false h = ap (λ (x : CoreSeen D). x.dev) h

  pub sent_dev : (old new : CoreSeen D) (s : ℕ) (named : Command) (draws : Draws) (ready : Ready) (task : Task)
      → IsSent old new s named draws ready task → new.dev ≡ old.dev
  sent_dev old new s named draws ready task is =
      let own = own_in old.atoms (turn_at old.turns s).transaction in
      ap (λ (x : CoreSeen D). x.dev) is.out.same
      ∙ ap (λ (x : CoreSeen D). x.dev) (others_stay (pairs_of is.gathered.others.items) own.atom.0 is.begun is.fused is.fuses)
      ∙ own_dev is.roomy is.begun s own own.begins is.begins ∙ dev_same old is.roomy is.room

  within_dev : (c : CoreSeen D) (s : ScriptNo) (txn : TxnNo) (single : Bool) (reply : Reply)
      → (refused_within c s txn single reply).dev ≡ c.dev
  within_dev c s txn true reply = refl
  within_dev c s txn false reply = refl

  refused_dev : (c : CoreSeen D) (s : ScriptNo) (o : Option Open) (reply : Reply) → (refused_by c s o reply).dev ≡ c.dev
  refused_dev c s None reply = refl
  refused_dev c s (Some o) reply = within_dev c s o.txn o.single reply

  refusal_dev : (old new : CoreSeen D) (s : ScriptNo) (reply : Reply) → IsRefused old new s reply → new.dev ≡ old.dev
  refusal_dev old new s reply is =
      ap (λ (x : CoreSeen D). x.dev) is.same ∙ refused_dev is.roomy s (turn_at is.roomy.turns s.0).transaction reply
      ∙ ap (λ (x : CoreSeen D). x.dev) is.room.same

  answer_dev : (old new : CoreSeen D) (s : ScriptNo) (told : Asked) (a : Served) → IsAnswered old new s told a
      → new.dev ≡ old.dev
  answer_dev old new s (asked.Refused reply) a is = refusal_dev old new s reply is.1
  answer_dev old new s (asked.Tall height) a is = refusal_dev old new s _ is.1
  answer_dev old new s (asked.Sealed atom) a is = ap (λ (x : CoreSeen D). x.dev) is.1
  answer_dev old new s (asked.Busy node holder) a is = ap (λ (x : CoreSeen D). x.dev) is.1
  answer_dev old new s (asked.Ready ready) a is = absurd is

  served_by : (mid new : CoreSeen D) (s : ScriptNo) (named : Command) (draws : Draws) (told : Asked) (a : Served)
      → IsAnswered mid new s told a → IsServedBy mid new s named draws told a
  served_by mid new s named draws (asked.Refused reply) a is = is
  served_by mid new s named draws (asked.Tall height) a is = is
  served_by mid new s named draws (asked.Sealed atom) a is = is
  served_by mid new s named draws (asked.Busy node holder) a is = is
  served_by mid new s named draws (asked.Ready ready) a is = absurd is

  -- ---- without memory

  module _ (state : D → State) (c mid : CoreSeen D) (device : LeavesDevice (state c.dev) (state mid.dev))
      (same : mid ≡ record c { dev = mid.dev }) where
    abbrev read_is : IsRead (state c.dev) (state mid.dev) c mid
    read_is = record { device = device; same = same }

    pub left_there : (new : CoreSeen D) → HasRoomier mid new → IsLeft (state c.dev) (state new.dev) c new
    left_there new room = record {
      mid = mid;
      read = subst (λ v. IsRead (state c.dev) (state v) c mid) (sym (dev_same mid new room)) read_is;
      room = room;
    }

    pub left_read : IsLeft (state c.dev) (state mid.dev) c mid
    left_read = left_there mid (roomier_same mid)

  pub left_itself : (state : D → State) (c : CoreSeen D) → IsLeft (state c.dev) (state c.dev) c c
  left_itself state c = left_read state c c (leaves_itself (state c.dev)) refl

  -- ---- what was served

  module _ (state : D → State) (c mid : CoreSeen D) (s : ScriptNo) (x : Command) (draws : Draws) (named : Command)
      (servable : IsServable c s.0 x) (name : IsNamed c s.0 x draws named) (told : Asked)
      (device : LeavesDevice (state c.dev) (state mid.dev)) (same : mid ≡ record c { dev = mid.dev })
      (asks : Asks (state c.dev) (state mid.dev) (parts_of c) named told) (new : CoreSeen D) where
    pub served_so : (a : Served) → new.dev ≡ mid.dev → IsServedBy mid new s named draws told a
        → IsServed (state c.dev) (state new.dev) c new s a
    served_so a stays is = record {
      command = x;
      servable = servable;
      draws = draws;
      named = named;
      name = name;
      told = told;
      asks = subst (λ v. Asks (state c.dev) (state v) (parts_of c) named told) (sym stays) asks;
      mid = mid;
      read = subst (λ v. IsRead (state c.dev) (state v) c mid) (sym stays) (record { device = device; same = same });
      device = stays;
      served = is;
    }

    pub served_answer : (result : Result Served AllocError) → IfOk result (IsAnswered mid new s told)
        → IfOk result (IsServed (state c.dev) (state new.dev) c new s)
    served_answer (Ok a) is =
        served_so a (answer_dev mid new s told a is) (served_by mid new s named draws told a is)
    served_answer (Err e) is = tt

    pub left_answer : (result : Result Served AllocError) → OnErr result (HasMoreRoom mid new)
        → OnErr result (IsLeft (state c.dev) (state new.dev) c new)
    left_answer (Ok a) more = tt
    left_answer (Err e) more = left_there state c mid device same new
        (record { mid = mid; holds = record { holds = λ task. refl; same = refl }; more = more })
