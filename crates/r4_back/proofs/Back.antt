-- A task that is given back, and what its command may be refused with then.
use Rattle.std.proofs.Common.{Bool, true, false, not, suc, ◌≡◌, inl, inr, ◌∙◌, ◌+◌, ◌≤◌, ◌-◌, ℕ, Err, None, Ok, Option, Result, Some, ap, arith, length, refl, subst, sym}
use Rattle.std.specs.Prelude.{IsSome, MatchBool, MatchResult, slice_get}
use Rattle.std.proofs.lemmas.List.{length-set}
use Rattle.r4_base.specs.declared.things.ScriptNo.{ScriptNo}
use Rattle.r4_base.specs.declared.things.TxnNo.{TxnNo}
use Rattle.r4_matching.specs.r4_build.declared.task.Task.{Task}
use Rattle.r4_content.specs.declared.command.Command.{Command}
use Rattle.r4_next.proofs.r4_history.Places.{is_script_with, turn_now}
use Rattle.r4_next.specs.r4_history.Held.{IsOut, IsServed}
use Rattle.r4_next.specs.r4_history.Tables.{inside, next_at}
use Rattle.r4_next.proofs.r4_kept.Turning.{owed_answered}
use Rattle.r4_next.specs.r4_kept.History.{owed, owed_for_commit}
use Rattle.r4_next.specs.r4_kept.Kept.{IsKept}
use Rattle.r4_next.specs.r4_kept.Naming.{Naming}
use Rattle.r4_next.specs.r4_kept.Steps.{IsRefusable, IsTakenBack}
use Rattle.r4_next.specs.r4_kept.View.{CoreSeen, tables_of}
use Rattle.r4_matching.specs.Matching.{IsMismatch, IsSameTask}
use Rattle.r4_matching.specs.declared.matching.Mismatch.{Mismatch}
use Rattle.r4_matching.specs.declared.matching.Mismatch.TheVariants.{Gone}
use Rattle.r4_outside.specs.Device.{State}
use Rattle.r4_next.proofs.r4_taking.RefusedSingle.{room_back}
use Rattle.r4_turns.specs.Turns.{IsScript, answered_one, commands_at, given_back, turn_at}
use Rattle.r4_turns.specs.declared.out.Out.{Out}
use Rattle.r4_turns.specs.declared.turn.Turn.{Turn}
use Rattle.r4_back.specs.Backing.{IsAnswer, IsGone, IsMatched, IsThere, Recalls, RecallsOf}

-- ---- what its script is then

module _ {D : Type 0} (r : Naming) (d : State) (c : CoreSeen D) (k : IsKept r d c) (s : ℕ) (out : Out)
    (is : IsOut c.turns s out) (mid : CoreSeen D) (back : IsTakenBack c mid s out) where
  abbrev turn : Turn
  turn = record (turn_at c.turns s) { out = None; numbers = Some out.numbers }

  turns_are : mid.turns ≡ given_back c.turns s out.numbers
  turns_are = ap (λ (x : CoreSeen D). x.turns) back.same

  now : turn_at (given_back c.turns s out.numbers) s ≡ turn
  now = turn_now c.turns s turn is.is_script

  here : turn_at mid.turns s ≡ turn
  here = ap (λ t. turn_at t s) turns_are ∙ now

  pub script_then : IsScript mid.turns s
  script_then = subst (λ t. IsScript t s) (sym turns_are) (is_script_with c.turns s turn s is.is_script)

  pub free_then : (turn_at mid.turns s).out ≡ None
  free_then = ap (λ (x : Turn). x.out) here

  pub own_then : (turn_at mid.turns s).transaction ≡ (turn_at c.turns s).transaction
  own_then = ap (λ (x : Turn). x.transaction) here

  pub next_then : next_at mid.turns s ≡ next_at c.turns s
  next_then = ap (λ t. next_at t s) turns_are ∙ ap (λ (x : Turn). slice_get (commands_at c.turns s) x.answered) now

  pub broken_then : mid.broken ≡ c.broken
  broken_then = ap (λ (x : CoreSeen D). x.broken) back.same

  pub served : IsServed (tables_of c) s out
  served = k.tables.tasks.served s out is

  pub some_then : IsSome (next_at mid.turns s)
  some_then = subst IsSome (sym (next_then ∙ served.next)) refl

  pub room_then : owed (answered_one mid.turns s) + owed_for_commit mid.commit + 1 ≤ mid.trace.spare
  room_then =
      let enough = room_back r d c k s out is in
      let turns = ap (λ (x : CoreSeen D). owed x.turns) back.same in
      let commit = ap (λ (x : CoreSeen D). owed_for_commit x.commit) back.same in
      let spare = ap (λ (x : CoreSeen D). x.trace.spare) back.same in
      let less = owed_answered mid.turns s script_then in
      omega (arith, enough, turns, commit, spare, less)

  pub refusable_then : (txn : TxnNo) → (turn_at c.turns s).transaction ≡ Some (inside txn) → IsRefusable mid.turns s txn
  refusable_then txn own = record {
    within = Some (inside txn);
    command = served.command;
    stands = record {
      is_script = script_then;
      transaction = own_then ∙ own;
      next = next_then ∙ served.next;
    };
    names = refl;
    may = served.work;
    free = free_then;
  }

-- ---- which task it is

pub answer_of : (out : Out) (s : ScriptNo) (index : ℕ) (x : Command) (task : Task) (r : Result (Unit {0}) Mismatch)
    → MatchResult r (λ u. IsSameTask out s index x task) (IsMismatch out s index x task) → IsAnswer out s index x task r
answer_of out s index x task (Ok u) h = h
answer_of out s index x task (Err e) h = h

module _ {D : Type 0} (c : CoreSeen D) (task : Task) where
  pub there_of : (r : Result (Unit {0}) Mismatch) → IsMatched c task r → (r ≡ Err Gone → ⊥)
      → (out : Out) × IsThere c task out
  there_of r (inl m) not = (m.out, (r, m, refl, not))
  there_of r (inr n) not = absurd (not n.gone)

  pub out_there : (out : Out) → IsThere c task out → IsOut c.turns task.script.0 out
  out_there out there = subst (IsOut c.turns task.script.0) there.2 there.1.out_is.is

  pub by_gone : (b : Bool) (r : Result (Unit {0}) Mismatch) → IsMatched c task r
      → MatchBool b (r ≡ Err Gone) (r ≡ Err Gone → ⊥)
      → MatchBool (not b) ((out : Out) × IsThere c task out) (IsGone c task)
  by_gone true r m is = subst (IsMatched c task) is m
  by_gone false r m not = there_of r m not

-- ---- all of them

module _ {D : Type 0} (c mid new : CoreSeen D) (n : ℕ) (before : Recalls c n mid)
    (one : RecallsOf mid new (n + 1) (turn_at mid.turns (n + 1)).out) where
  pub one_more : Recalls c (n + 1) new
  one_more =
      let e : suc n ≡ n + 1 = omega arith in
      subst (λ k. Recalls c k new) e (mid, before, one)

module _ {D : Type 0} (c mid : CoreSeen D) (s : ℕ) where
  pub as_many : (o : Option Out) → RecallsOf c mid s o → length mid.turns.turns ≡ length c.turns.turns
  as_many None same = ap (λ (x : CoreSeen D). length x.turns.turns) same
  as_many (Some out) back =
      ap (λ (x : CoreSeen D). length x.turns.turns) back.same
      ∙ length-set c.turns.turns (s - 1) (record (turn_at c.turns s) { out = None; numbers = Some out.numbers })
