-- What is to be shown of a change in a run that names its beginning (docs/core.md, "Little steps").
use Rattle.std.specs.Prelude.{Option, ℕ, ◌+◌, ◌≡◌}
use Rattle.r4_atoms.specs.Atoms.{account_of}
use Rattle.r4_atoms.specs.declared.things.Account.{Account}
use Rattle.r4_base.specs.Value.{Value}
use Rattle.r4_base.specs.declared.things.AtomNo.{AtomNo}
use Rattle.r4_base.specs.declared.things.ScriptNo.{ScriptNo}
use Rattle.r4_base.specs.declared.things.TxnNo.{TxnNo}
use Rattle.r4_taking.specs.r4_cell.Patch.{Patch}
use Rattle.r4_taking.specs.r4_cell.declared.change.Change.{Change}
use Rattle.r4_content.specs.Counts.{born, gone}
use Rattle.r4_content.specs.Locality.{commands}
use Rattle.r4_content.specs.Meaning.{greatest_size}
use Rattle.r4_content.specs.declared.command.Command.{Command}
use Rattle.r4_content.specs.declared.reply.Reply.{Reply}
use Rattle.r4_taking.specs.r4_durable.Meaning.{Beginning, IsNamed, first_id}
use Rattle.r4_taking.specs.r4_durable.Sealing.{start_in}
use Rattle.r4_taking.specs.r4_flushed.Flushed.{OwnsBlocks}
use Rattle.r4_outside.specs.Device.{State}
use Rattle.r4_counted.specs.r4_patch.Joining.{patch_of_change}
use Rattle.r4_taking.specs.r4_sets.Change.{Applies, applied}
use Rattle.r4_taking.specs.r4_sets.Session.{Session, all_done}
use Rattle.r4_taking.specs.r4_sets_told.Runs.{IsLawfulRun}
use Rattle.r4_taking.specs.r4_space.Space.{Space}
use Rattle.r4_taking.specs.r4_trace.Folds.{content_of, everything}
use Rattle.r4_taking.specs.r4_trace.Job.{Asked}
use Rattle.r4_taking.specs.r4_turns.Turns.{answered_at}
use Rattle.r4_taking.specs.r4_kept.Kept.{IsKept}
use Rattle.r4_taking.specs.r4_kept.Naming.{Naming, job_named, names_in}
use Rattle.r4_taking.specs.r4_kept.View.{CoreSeen}
use Rattle.r4_taking.specs.r4_kept.declared.parts.Commit.{Commit}
use Rattle.r4_taking.specs.Following.{Follows}

-- the session once a command is done by this change
abbrev pub session_done :
    Session → TxnNo → ScriptNo → (index : ℕ) → Command → Patch Value → Session
session_done was u s index x p = applied (commands greatest_size) was u s index x p

-- What is to be shown of the command in a run that names its beginning: its change does in the tree
-- of all atoms what the command means, and the reply is the command's there; the run stays lawful;
-- blocks that come to an atom are those of cells under the open atoms; and the space defers what
-- goes.
pub record IsBuiltFor
    (b : Beginning) (job : Option Asked) (commit : Option Commit) (was : Session) (u : TxnNo)
    (s : ScriptNo) (index : ℕ) (x : Command) (reply : Reply) (p : Patch Value)
    (space later : Space) : Type 0
  where
    pub applies : Applies (commands greatest_size) was u.0 x p
    pub reply_is : reply ≡ (commands greatest_size).reply x (all_done (commands greatest_size) was)
    pub run : IsLawfulRun greatest_size (start_in (session_done was u s index x p) (first_id b)) job
        (session_done was u s index x p).trace
    pub owns : OwnsBlocks (session_done was u s index x p)
    pub follows : Follows commit was (session_done was u s index x p) space later

-- In a run that names its beginning the change does what the command means, and the account has
-- what it makes and takes away.
pub record IsRight
    {D : Type 0} (r : Naming) (d : State) (c new : CoreSeen D) (k : IsKept r d c) (s : ScriptNo)
    (u : TxnNo) (x : Command) (reply : Reply) (change : Change) (a : AtomNo) (account : Account)
    (b : Beginning) (named : IsNamed (names_in r) d.blocks b) : Type 0
  where
    pub built : IsBuiltFor b (job_named r.scripts) c.commit (k.story b named).story.session u s
        (answered_at c.turns s.0 + 1) x reply (patch_of_change change) c.space new.space
    pub made : account.born ≡ (account_of c.atoms a.0).born
        + born greatest_size x
        (content_of (commands greatest_size) b.content everything c.trace.entries)
    pub took : account.gone ≡ (account_of c.atoms a.0).gone
        + gone greatest_size x
        (content_of (commands greatest_size) b.content everything c.trace.entries)
