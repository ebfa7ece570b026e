-- Legal traces, the newest entry first (docs/traces.md).
use Rattle.std.specs.Prelude.{◌≡◌, ℕ, List, length, Option, Some, None}
use Rattle.r4_content.specs.Locality.{Meaning}
use Rattle.r4_content.specs.declared.command.Command.{Command}
use Rattle.r4_content.specs.declared.reply.Reply.{Reply}
use Rattle.r4_trace.specs.declared.entry.Entry.{Entry}
use Rattle.r4_trace.specs.Traced.{IsBegun, IsEnded, IsSealed, IsCommitted, atom_in, broken_at, committed_in, sealed_in}
use Rattle.r4_trace.specs.Folds.{HasItsReplies, everything}
use Rattle.r4_trace.specs.Order.{IsOrdered}
use Rattle.r4_trace.specs.Job.{Asked, IsAnswered, AllClosed, Outside, commands_of, place}
use Rattle.r4_trace.specs.Ids.{Start, HasNewIds}

abbrev pub RepliesFrom : Meaning Command Reply → Option Start → List Entry → Type 0
RepliesFrom w None trace = Unit {0}
RepliesFrom w (Some b) trace = HasItsReplies w b.content everything trace

abbrev pub AnswersOf : Option Asked → List Entry → Type 0
AnswersOf None trace = Unit {0}
AnswersOf (Some job) trace = IsAnswered job trace

abbrev pub ClosesOf : Option Asked → List Entry → Type 0
ClosesOf None trace = Unit {0}
ClosesOf (Some job) trace = AllClosed job trace

-- Legal up to here, also between the entries of one step: the entries follow one another as they
-- may; each Done has the reply of its command after all earlier ones; ids are new; and each entry
-- answers its script's next command. Where no start or no job is named, what speaks of it is left
-- out.
pub record IsLegalSoFar
    (w : Meaning Command Reply) (start : Option Start) (job : Option Asked) (trace : List Entry)
    : Type 0 where
  pub order : IsOrdered trace
  pub replies : RepliesFrom w start trace
  pub ids : HasNewIds start job trace
  pub answers : AnswersOf job trace

-- and each transaction of a single command that is answered has ended
pub record IsLegal
    (w : Meaning Command Reply) (start : Option Start) (job : Option Asked) (trace : List Entry)
    : Type 0 where
  pub so_far : IsLegalSoFar w start job trace
  pub closed : ClosesOf job trace

-- Every command is answered, every transaction has ended and is in a committed atom, and no call of
-- the device failed.
pub record IsWhole (job : Asked) (trace : List Entry) : Type 0 where
  pub answered : (s : ℕ) →
      (place (commands_of job s) trace s).answered ≡ length (commands_of job s)
  pub ended : (t s : ℕ) → IsBegun trace t s → IsEnded trace t
  pub durable : (t s : ℕ) → IsBegun trace t s → IsCommitted trace (atom_in trace t)
  pub sound : broken_at trace ≡ None

-- Each script is at its end, outside of transactions; each atom is sealed, and each that is sealed
-- is committed; and no call of the device failed.
pub record IsFinished (job : Asked) (trace : List Entry) : Type 0 where
  pub answered : (s : ℕ) →
      (place (commands_of job s) trace s).answered ≡ length (commands_of job s)
  pub outside : (s : ℕ) → (place (commands_of job s) trace s).within ≡ Outside
  pub sealed : (t s : ℕ) → IsBegun trace t s → IsSealed trace (atom_in trace t)
  pub committed : sealed_in trace ≡ committed_in trace
  pub sound : broken_at trace ≡ None
