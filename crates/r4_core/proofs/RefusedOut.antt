-- A single command whose task is given back may be refused.
use Rattle.std.proofs.Common.{◌≡◌, ℕ, ◌+◌, ◌≤◌, Option, Some, None, refl, sym, ◌∙◌, ap, subst, arith}
use Rattle.std.specs.Prelude.{IsSome, slice_get}
use Rattle.r4_base.specs.declared.things.TxnNo.{TxnNo}
use Rattle.r4_others.specs.r4_history.Held.{IsServed}
use Rattle.r4_others.specs.r4_history.Tables.{single}
use Rattle.r4_others.proofs.r4_history.Places.{is_script_with, turn_now}
use Rattle.r4_ready.specs.r4_kept.History.{owed, owed_for_commit}
use Rattle.r4_ready.specs.r4_kept.Kept.{IsKept}
use Rattle.r4_ready.specs.r4_kept.Naming.{Naming}
use Rattle.r4_ready.specs.r4_kept.Steps.{IsTakenBack}
use Rattle.r4_ready.specs.r4_kept.View.{CoreSeen, tables_of}
use Rattle.r4_outside.specs.Device.{State}
use Rattle.r4_ready.specs.r4_taking.Refusing.{StandsSingle}
use Rattle.r4_ready.proofs.r4_taking.RefusedSingle.{room_back}
use Rattle.r4_turns.specs.Turns.{IsScript, commands_at, given_back, turn_at}
use Rattle.r4_turns.specs.declared.out.Out.{Out}
use Rattle.r4_turns.specs.declared.turn.Turn.{Turn}

-- what refusing it asks for then
pub record IsRefusableThen {D : Type 0} (c : CoreSeen D) (s : ℕ) (u : TxnNo) : Type 0 where
  pub sound : c.broken ≡ None
  pub stands : StandsSingle c.turns s u
  pub room : owed c.turns + owed_for_commit c.commit + 2 ≤ c.trace.spare

module _ {D : Type 0} (r : Naming) (d : State) (c : CoreSeen D) (k : IsKept r d c) (s : ℕ) (u : TxnNo)
    (sound : c.broken ≡ None) (is : IsScript c.turns s) (own : (turn_at c.turns s).transaction ≡ Some (single u))
    (mid : CoreSeen D) where
  module _ (out : Out) (is_out : (turn_at c.turns s).out ≡ Some out) (back : IsTakenBack c mid s out) where
    abbrev turn : Turn
    turn = record (turn_at c.turns s) { out = None; numbers = Some out.numbers }

    now : turn_at (given_back c.turns s out.numbers) s ≡ turn
    now = turn_now c.turns s turn is

    served : IsServed (tables_of c) s out
    served = k.tables.tasks.served s out (record { is_script = is; is_out = is_out })

    stands_then : StandsSingle (given_back c.turns s out.numbers) s u
    stands_then = record {
      command = served.command;
      stands = record {
        is_script = is_script_with c.turns s turn s is;
        transaction = ap (λ (x : Turn). x.transaction) now ∙ own;
        next = ap (λ (x : Turn). slice_get (commands_at c.turns s) x.answered) now ∙ served.next;
      };
      work = served.work;
      free = ap (λ (x : Turn). x.out) now;
    }

    refusable_with : IsRefusableThen mid s u
    refusable_with = record {
      sound = ap (λ (x : CoreSeen D). x.broken) back.same ∙ sound;
      stands = subst (λ (x : CoreSeen D). StandsSingle x.turns s u) (sym back.same) stands_then;
      room =
          let enough = room_back r d c k s out (record { is_script = is; is_out = is_out }) in
          let turns = ap (λ (x : CoreSeen D). owed x.turns) back.same in
          let commit = ap (λ (x : CoreSeen D). owed_for_commit x.commit) back.same in
          let spare = ap (λ (x : CoreSeen D). x.trace.spare) back.same in
          omega (arith, enough, turns, commit, spare);
    }

  pub refusable_then : IsSome (turn_at c.turns s).out
      → ((out : Out) → (turn_at c.turns s).out ≡ Some out → IsTakenBack c mid s out) → IsRefusableThen mid s u
  refusable_then some back = by (turn_at c.turns s).out refl some
    where
      by : (o : Option Out) → (turn_at c.turns s).out ≡ o → IsSome o → IsRefusableThen mid s u
      by None at none = absurd (cc none)
      by (Some out) at there = refusable_with out at (back out at)
