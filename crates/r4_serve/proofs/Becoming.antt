-- From what was found of a command to what becomes of it.
use Rattle.std.proofs.Common.{◌≡◌, inl, inr, Option, Some, None, true, false, refl, subst, sym}
use Rattle.std.specs.Prelude.{IfOk, IsSome, Result, Ok, Err, is_some}
use Rattle.r4_extent_reach.specs.r4_gather.Asking.{StaysOver}
use Rattle.r4_content.specs.declared.command.Command.{Command}
use Rattle.r4_outside.specs.Device.{State}
use Rattle.r4_extent_reach.specs.r4_extent_reaching.Answers.{IsReach}
use Rattle.r4_extent_reach.specs.r4_extent_reaching.declared.reached.Reach.{Reach}
use Rattle.r4_search.specs.Pool.{LeavesDevice, PoolState}
use Rattle.r4_search.specs.declared.pool.FetchFault.{FetchFault}
use Rattle.r4_serve.specs.Serving.{Asks, IsAnswerTo, IsAskedOf, IsDecided, PartsSeen, Reaches}
use Rattle.r4_serve.specs.declared.asked.Asked.{Asked}
use Rattle.r4_serve.specs.declared.asked.Asked.TheVariants as asked
use Rattle.r4_search.specs.Keeping.{keeping_state}

decided : (q : PoolState) (p : PartsSeen) (c : Command) (r : Reach) (a : Asked) → IsReach q p.root c r
    → IsDecided p r a → IsAskedOf q p c a
decided q p c r (asked.Refused reply) reach h = inr (r, reach, h)
decided q p c r (asked.Sealed atom) reach h = (r, reach, h)
decided q p c r (asked.Busy node holder) reach h = (r, reach, h)
decided q p c r (asked.Tall height) reach h = (r, reach, h)
decided q p c r (asked.Ready ready) reach h = (r, reach, h)

pub asks : (d e : State) (p : PartsSeen) (c : Command) (r : Result Reach FetchFault) (a : Asked)
    → Reaches d e p c r → IsAnswerTo p r a → Asks d e p c a
asks d e p c (Ok r) a h answer = record {
  after = h.after;
  met = h.met;
  same = h.same;
  is = decided (keeping_state h.after true h.met) p c r a h.is answer;
}
asks d e p c (Err f) a h answer = record {
  after = h.after;
  met = h.met;
  same = h.same;
  is = subst (IsAskedOf (keeping_state h.after true h.met) p c) (sym answer.1) (inl (f, h.is, answer.2));
}

pub asks_ok : {F : Type 0} (d e : State) (p : PartsSeen) (c : Command) (r : Result Reach FetchFault)
    (a : Result Asked F) → Reaches d e p c r → IfOk a (IsAnswerTo p r) → IfOk a (Asks d e p c)
asks_ok {F} d e p c r (Ok a) h answer = asks d e p c r a h answer
asks_ok {F} d e p c r (Err f) h answer = tt

pub leaves : (d e : State) (p : PartsSeen) (c : Command) (r : Result Reach FetchFault) → Reaches d e p c r
    → LeavesDevice d e
unfolding StaysOver
leaves d e p c r h = h.same.stays.device

-- whether there is something
pub some_there : {A : Type 0} (o : Option A) → true ≡ is_some o → IsSome o
some_there {A} None e = absurd cc
some_there {A} (Some x) e = refl

pub none_there : {A : Type 0} (o : Option A) → false ≡ is_some o → IsSome o → ⊥
none_there {A} None e some = absurd cc
none_there {A} (Some x) e some = cc
