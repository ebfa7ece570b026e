-- What a command is done by whose task is out, and what that leaves.
use Rattle.std.specs.Prelude.{◌≡◌, ◌+◌, ◌<◌, ◌≤◌, ℕ, List, Option}
use Rattle.std.specs.Borrow.{GName}
use Rattle.r4_flushing.specs.r4_accounting.Accounting.{HasDeferred}
use Rattle.r4_flushing.specs.r4_accounting.Putting.{IsPriceable}
use Rattle.r4_atoms.specs.Atoms.{account_of}
use Rattle.r4_atoms.specs.declared.things.Account.{Account}
use Rattle.r4_base.specs.Image.{Image}
use Rattle.r4_base.specs.declared.things.AtomNo.{AtomNo}
use Rattle.r4_base.specs.declared.things.ScriptNo.{ScriptNo}
use Rattle.r4_base.specs.declared.things.TxnNo.{TxnNo}
use Rattle.r4_buffer.specs.Seen.{cells_of}
use Rattle.r4_cell.specs.declared.change.Change.{Change}
use Rattle.r4_core.specs.declared.doing.Made.{Made}
use Rattle.r4_flushing.specs.r4_done.Doing.{IsCount}
use Rattle.r4_flushing.specs.r4_done.Done.{CanBeDone, HasDone, HasDoneSingle, IsChangeOf}
use Rattle.r4_flushing.specs.r4_done.Right.{IsRight}
use Rattle.r4_ready.specs.r4_durable.Meaning.{Beginning, IsNamed}
use Rattle.r4_ready.specs.r4_kept.Kept.{IsKept}
use Rattle.r4_ready.specs.r4_kept.Naming.{Naming, names_in}
use Rattle.r4_ready.specs.r4_kept.View.{CoreSeen}
use Rattle.r4_outside.specs.Device.{State}
use Rattle.r4_space.specs.Lawful.{IsLawful}
use Rattle.r4_space.specs.Space.{charged, free_of, need_at}
use Rattle.r4_space.specs.declared.things.Short.{Short}
use Rattle.r4_turns.specs.declared.out.Out.{Out}
use Rattle.r4_turns.specs.declared.turn.Open.{Open}

abbrev pub change_of : Made → Change
change_of made = record { old = made.old; new = cells_of made.new.items; root = made.root }

-- The task is that of a script's next command, in its transaction of this atom; what was made is a
-- change of it, and counts at most one object that comes and one that goes.
pub record CanDo
    {D : Type 0} (c : CoreSeen D) (s : ScriptNo) (within : Open) (out : Out) (made : Made)
    (a : AtomNo) : Type 0
  where
    pub can : CanBeDone c s within out made.command a
    pub change : IsChangeOf c out made.command (change_of made)
    pub one_born : made.objects.born ≤ 1
    pub one_gone : made.objects.gone ≤ 1

abbrev pub IsDoable : {D : Type 0} → CoreSeen D → ScriptNo → Open → Made → AtomNo → Type 0
IsDoable c s within made a = (out : Out) × CanDo c s within out made a

-- ---- the account

-- what the account of the atom is then
pub record Becomes {D : Type 0} (c : CoreSeen D) (made : Made) (a : AtomNo) (account : Account)
    : Type 0 where
  pub counts : IsCount c.buffer made.old (cells_of made.new.items) (account_of c.atoms a.0) account
  pub born : account.born ≡ (account_of c.atoms a.0).born + made.objects.born
  pub gone : account.gone ≡ (account_of c.atoms a.0).gone + made.objects.gone

-- and the space has as much free as that takes
pub record CanPay {D : Type 0} (c : CoreSeen D) (made : Made) (a : AtomNo) (account : Account)
    : Type 0 where
  pub becomes : Becomes c made a account
  pub small : IsPriceable account
  pub enough : need_at c.space a account.cells account.fresh ≤ free_of c.space

-- Less is free than the account takes.
pub record IsShort {D : Type 0} (c : CoreSeen D) (made : Made) (a : AtomNo) (e : Short) : Type 0
  where
    pub account : Account
    pub becomes : Becomes c made a account
    pub need : e.need ≡ need_at c.space a account.cells account.fresh
    pub free : e.free ≡ free_of c.space
    pub less : e.free < e.need

-- ---- the step

-- The atom has this account, and the blocks of used cells that go are deferred for it; the space is
-- a lawful one still.
pub record HasPaid
    {D : Type 0} (old new : CoreSeen D) (made : Made) (a : AtomNo) (account : Account) : Type 0
  where
    pub becomes : Becomes old made a account
    pub deferred : HasDeferred (charged old.space a account.cells account.fresh) new.space a
        made.old (cells_of made.new.items)
    pub lawful : IsLawful new.space

-- the command is done inside of a transaction
pub record IsDone
    {D : Type 0} (old new : CoreSeen D) (s : ScriptNo) (u : TxnNo) (made : Made) (a : AtomNo)
    (out : Out) : Type 0
  where
    pub account : Account
    pub done : HasDone old new s u out made.command made.reply (change_of made) a account
    pub paid : HasPaid old new made a account

-- and as a single command
pub record IsDoneSingle
    {D : Type 0} (old new : CoreSeen D) (s : ScriptNo) (u : TxnNo) (made : Made) (a : AtomNo)
    (out : Out) : Type 0
  where
    pub account : Account
    pub done : HasDoneSingle old new s u out made.command made.reply (change_of made) a account
    pub paid : HasPaid old new made a account

-- with what the run began
abbrev pub naming : Option Image → Option ℕ → Option (List ℕ) → Option (List GName) → Naming
naming start clock scripts lender = record {
  start = start;
  clock = clock;
  scripts = scripts;
  lender = lender;
}

-- However it is done, it is right for the volume that the run names.
abbrev pub IsRightDone :
    {D : Type 0} → Naming → State → CoreSeen D → ScriptNo → TxnNo → Made → AtomNo → Type 0
IsRightDone {D} r d c s u made a =
    (k : IsKept r d c) (new : CoreSeen D) (out : Out) (y : IsDone c new s u made a out)
    (b : Beginning) (named : IsNamed (names_in r) d.blocks b)
    → IsRight r d c new k s u made.command made.reply (change_of made) a y.account b named

abbrev pub IsRightSingle :
    {D : Type 0} → Naming → State → CoreSeen D → ScriptNo → TxnNo → Made → AtomNo → Type 0
IsRightSingle {D} r d c s u made a =
    (k : IsKept r d c) (new : CoreSeen D) (out : Out) (y : IsDoneSingle c new s u made a out)
    (b : Beginning) (named : IsNamed (names_in r) d.blocks b)
    → IsRight r d c new k s u made.command made.reply (change_of made) a y.account b named
