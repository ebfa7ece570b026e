-- What was built of the task that is out may be done, and is right for the volume that the run names.
use Rattle.std.proofs.Common.{◌≡◌, ◌∙◌, ◌+◌, ◌≤◌, Bool, false, None, Ok, Some, true, true≢false, ap, length, refl, subst, sym}
use Rattle.std.proofs.lemmas.Bool.{false_from_ne_true}
use Rattle.std.specs.Arc.{arc_value}
use Rattle.std.specs.Prelude.{flat_map}
use Rattle.r4_right.specs.r4_accounting.Accounting.{HasDeferred}
use Rattle.r4_atoms.specs.Atoms.{IsBegun, IsOpenAtom, account_of, atom_of, is_sealed, txn_of}
use Rattle.r4_atoms.specs.declared.things.Account.{Account}
use Rattle.r4_back.specs.Backing.{IsCompared}
use Rattle.r4_base.specs.declared.things.AtomNo.{AtomNo}
use Rattle.r4_base.specs.declared.things.ScriptNo.{ScriptNo}
use Rattle.r4_back.specs.r4_buffer.Seen.{IsLawful, cells_of}
use Rattle.r4_back.specs.r4_build.Built.{BuiltSeen, IsBuilt}
use Rattle.r4_back.specs.r4_build.declared.counting.ObjectCounts.{ObjectCounts}
use Rattle.r4_content.specs.Fields.{HasBytePaths}
use Rattle.r4_content.specs.Held.{pairs_of, part_pairs}
use Rattle.r4_content.specs.Locality.{commands}
use Rattle.r4_content.specs.Meaning.{greatest_size}
use Rattle.r4_content.specs.declared.command.Command.{Command}
use Rattle.r4_back.specs.r4_core.Doing.{CanDo, HasPaid, change_of}
use Rattle.r4_back.specs.r4_core.declared.doing.Made.{Made}
use Rattle.r4_right.proofs.r4_done.FromBuilt.{built_is_change, one_gone, one_made}
use Rattle.r4_right.specs.r4_done.Done.{CanBeDone, IsChangeOf}
use Rattle.r4_right.specs.r4_done.Right.{IsRight}
use Rattle.r4_right.specs.r4_durable.Meaning.{Beginning, IsNamed}
use Rattle.r4_right.proofs.r4_flushed.FlushedCells.{FitsOnDisk}
use Rattle.r4_right.specs.r4_freed.Freed.{HasFreed}
use Rattle.r4_back.proofs.r4_history.RunSteps.{open_in_both}
use Rattle.r4_back.proofs.r4_history.Told.{atom_named}
use Rattle.r4_back.specs.r4_history.Held.{IsServed}
use Rattle.r4_back.specs.r4_history.Told.{IsTold}
use Rattle.r4_right.specs.r4_kept.Kept.{IsKept}
use Rattle.r4_right.specs.r4_kept.Naming.{Naming, names_in}
use Rattle.r4_right.specs.r4_kept.TasksOut.{IsGiven}
use Rattle.r4_right.specs.r4_kept.View.{CoreSeen, tables_of}
use Rattle.r4_right.specs.r4_suited.Suited.{AreLawfulSeen}
use Rattle.r4_locks.specs.Locks.{AreHolds}
use Rattle.r4_back.specs.r4_matching.Matching.{IsSameTask}
use Rattle.r4_outside.specs.Device.{State}
use Rattle.r4_right.proofs.Right.{right}
use Rattle.r4_space.specs.Space.{charged}
use Rattle.r4_trace.proofs.FirstOnes.{open_unsealed}
use Rattle.r4_trace.specs.Job.{IsWork}
use Rattle.r4_trace.specs.Traced.{IsOpen, IsSealed}
use Rattle.r4_turns.specs.Turns.{answered_at, turn_at}
use Rattle.r4_turns.specs.declared.out.Out.{Out}
use Rattle.r4_turns.specs.declared.turn.Open.{Open}
use Rattle.r4_apply.specs.Applying.{IsCountable, IsMadeOf, IsRightIn}

-- ---- its transaction

module _ {D : Type 0} (r : Naming) (d : State) (c : CoreSeen D) (k : IsKept r d c) (y : BuiltSeen)
    (m : IsCompared c y.task (Ok tt)) (within : Open)
    (at : (turn_at c.turns y.task.script.0).transaction ≡ Some within) where
  abbrev told : IsTold (commands greatest_size) None d.clock (tables_of c) c.trace.entries
  told = k.history.told None tt

  abbrev s : ScriptNo
  s = y.task.script

  both : IsBegun c.atoms within.txn.0 × ((txn_of c.atoms within.txn.0).is_open ≡ true)
      × ((txn_of c.atoms within.txn.0).script ≡ s.0)
  both = open_in_both (commands greatest_size) None d.clock (tables_of c) c.trace.entries told s.0 within
      m.out_is.is.is_script at

  pub begun : IsBegun c.atoms within.txn.0
  begun = both.0

  open_atom : IsOpenAtom c.atoms (atom_of c.atoms within.txn.0)
  open_atom =
      let n = within.txn.0 in
      let script = (txn_of c.atoms n).script in
      let begins = told.atoms.script n both.0 in
      let same = told.atoms.atom n both.0 in
      let opn : IsOpen c.trace.entries n script =
      (begins, λ ends. true≢false (sym both.1 ∙ (told.atoms.ended n both.0).1 ends)) in
      let atom = atom_named (commands greatest_size) None d.clock (tables_of c) c.trace.entries told n both.0 in
      record {
        atom = atom;
        unsealed = false_from_ne_true (is_sealed c.atoms (atom_of c.atoms n))
            (λ sealed.
            open_unsealed c.trace.entries n script told.legal.order opn
            (subst (IsSealed c.trace.entries) same ((told.atoms.sealed (atom_of c.atoms n) atom.begun).0 sealed)));
      }

  module _ (sound : c.broken ≡ None) (a : AtomNo) (own : a.0 ≡ atom_of c.atoms within.txn.0)
      (holds : AreHolds c.locks) (lawful : IsLawful c.buffer) where
    abbrev out : Out
    out = m.out

    abbrev x : Command
    x = y.task.command

    abbrev same : IsSameTask out s (answered_at c.turns s.0) m.command y.task
    same = m.answer

    served : IsServed (tables_of c) s.0 out
    served = k.tables.tasks.served s.0 out m.out_is.is

    can : CanBeDone c s within out x a
    can = record {
      out_is = m.out_is.is;
      sound = sound;
      command = m.command;
      work =
          let one : served.command ≡ m.command = cc (sym served.next ∙ m.out_is.next) in
          subst IsWork one served.work;
      made = same.is_out.command_is;
      stands = record { is_script = m.out_is.is.is_script; transaction = at; next = m.out_is.next };
      own = sym own;
      opened = subst (IsOpenAtom c.atoms) (sym own) open_atom;
      holds = holds;
      lawful = lawful;
    }

    seen : pairs_of (arc_value y.task.seen) ≡ pairs_of (arc_value out.seen)
    seen = ap (flat_map part_pairs) same.is_out.seen

    module _ (made : Made) (built : IsBuilt y) (of_it : IsMadeOf y made)
        (count : IsCountable (length c.trace.entries)) (paths : HasBytePaths x) where
      given : IsGiven c.tree x out
      given = subst (λ z. IsGiven c.tree z out) (sym same.is_out.command_is)
          (k.tasks.given s.0 out m.command m.out_is.is m.out_is.next)

      lawful_seen : AreLawfulSeen x (pairs_of (arc_value y.task.seen))
      lawful_seen = subst (AreLawfulSeen x) (given.seen ∙ sym seen) given.lawful

      change_is : y.change ≡ change_of made
      change_is =
          let new = y.change.new in
          let root = y.change.root in
          ap (λ l. record { old = l; new = new; root = root }) (sym of_it.old)
          ∙ ap (λ l. record { old = made.old; new = l; root = root }) (sym of_it.new)
          ∙ ap (λ z. record { old = made.old; new = cells_of made.new.items; root = z }) (sym of_it.root)

      pub doable : CanDo c s within out made a
      doable = record {
        can = subst (λ z. CanBeDone c s within out z a) (sym of_it.command) can;
        change = subst (λ z. IsChangeOf c out z (change_of made)) (sym of_it.command)
            (subst (IsChangeOf c out x) change_is
            (built_is_change out x y built refl same.writes same.is_out.fresh same.is_out.scope seen c));
        one_born = subst (λ (o : ObjectCounts). o.born ≤ 1) (sym of_it.objects) (one_made y built);
        one_gone = subst (λ (o : ObjectCounts). o.gone ≤ 1) (sym of_it.objects) (one_gone y built paths lawful_seen);
      }

      module _ (disk : FitsOnDisk) (new : CoreSeen D) (account : Account)
          (paid : HasPaid c new made a account) (b : Beginning) (named : IsNamed (names_in r) d.blocks b) where
        freed : HasFreed c.space new.space a account.cells account.fresh y.change.old y.change.new
        freed = record {
          lawful = paid.lawful;
          deferred =
              let later = charged c.space a account.cells account.fresh in
              subst (λ l. HasDeferred later new.space a y.change.old l) of_it.new
              (subst (λ l. HasDeferred later new.space a l (cells_of made.new.items)) of_it.old paid.deferred);
        }

        pub is_right : IsRight r d c new k s within.txn made.command made.reply (change_of made) a account b named
        is_right =
            subst (λ q. IsRight r d c new k s within.txn q made.reply (change_of made) a account b named)
            (sym of_it.command)
            (subst (λ q. IsRight r d c new k s within.txn x q (change_of made) a account b named) (sym of_it.reply)
            (subst (λ q. IsRight r d c new k s within.txn x y.reply q a account b named) change_is
            (right r d c k s within out x a can y (record {
              built = built;
              command = refl;
              reads = same.reads;
              writes = same.writes;
              seen = seen;
              fresh = same.is_out.fresh;
              scope = same.is_out.scope;
            }) disk b named paths count new account freed
            (paid.becomes.born ∙ ap (λ (o : ObjectCounts). (account_of c.atoms a.0).born + o.born) of_it.objects)
            (paid.becomes.gone ∙ ap (λ (o : ObjectCounts). (account_of c.atoms a.0).gone + o.gone) of_it.objects))))

-- however it is done
pub right_in : {D : Type 0} (r : Naming) (d : State) (c : CoreSeen D) (y : BuiltSeen) (m : IsCompared c y.task (Ok tt))
    (within : Open) → (turn_at c.turns y.task.script.0).transaction ≡ Some within → c.broken ≡ None → (a : AtomNo)
    → a.0 ≡ atom_of c.atoms within.txn.0 → AreHolds c.locks → IsLawful c.buffer → (made : Made) → IsBuilt y
    → IsMadeOf y made → IsCountable (length c.trace.entries) → HasBytePaths y.task.command → FitsOnDisk
    → (single : Bool) → IsRightIn r d c y.task.script single within.txn made a
right_in r d c y m within at sound a own holds lawful made built of_it count paths disk true =
    λ k new out done b named. is_right r d c k y m within at sound a own holds lawful made built of_it count paths disk
    new done.account done.paid b named
right_in r d c y m within at sound a own holds lawful made built of_it count paths disk false =
    λ k new out done b named. is_right r d c k y m within at sound a own holds lawful made built of_it count paths disk
    new done.account done.paid b named
