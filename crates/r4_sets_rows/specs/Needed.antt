-- What is asked where a command is done by a change, each with a name, so that one can be left out (docs/sets.md, "Why
-- each
-- is asked").
use Rattle.std.specs.Prelude.{◌≡◌, ℕ, ◌==◌, Bool, true, false}
use Rattle.r4_base.specs.Value.{Content, Value}
use Rattle.r4_base.specs.Volume.{HasFiles, HasUnits, IsVisible}
use Rattle.r4_base.specs.declared.things.ScriptNo.{ScriptNo}
use Rattle.r4_base.specs.declared.things.TxnNo.{TxnNo}
use Rattle.r4_cell.specs.Patch.{IsPatch, Meets, Patch, place}
use Rattle.r4_content.specs.Edited.{Intervals, is_in}
use Rattle.r4_content.specs.Locality.{IsLocal, Meaning}
use Rattle.r4_content.specs.declared.command.Command.{Command}
use Rattle.r4_content.specs.declared.reply.Reply.{Reply}
use Rattle.r4_trace.specs.Traced.{IsSealed, atom_in}
use Rattle.r4_sets.specs.Change.{HasStats, IsFree, IsReached, ShowsUnits, applied, touches}
use Rattle.r4_sets.specs.Session.{Session, Sets, all_done}
use Rattle.r4_sets.specs.Units.{SameUnit}

-- Each is a field of `Applies` or of its `Does`; the first stands for none of them.
pub data Premise : Type 0 where
  Nothing : Premise
  Unsealed : Premise
  IsItsPatch : Premise
  MeetsIt : Premise
  HasItsUnits : Premise
  HasItsFiles : Premise
  IsSeen : Premise
  Reads : Premise
  Changes : Premise
  Within : Premise
  Stays : Premise
  Stats : Premise
  Bodies : Premise
  Own : Premise
  Reach : Premise

abbrev pub number : Premise → ℕ
number Nothing = 0
number Unsealed = 1
number IsItsPatch = 2
number MeetsIt = 3
number HasItsUnits = 4
number HasItsFiles = 5
number IsSeen = 6
number Reads = 7
number Changes = 8
number Within = 9
number Stays = 10
number Stats = 11
number Bodies = 12
number Own = 13
number Reach = 14

abbrev pub Unless : Bool → Type 0 → Type 0
Unless true P = Unit {0}
Unless false P = P

-- it holds, unless it is the one that is left out
abbrev pub But : (out p : Premise) → Type 0 → Type 0
But out p P = Unless (number out == number p) P

-- all that `Applies` asks but for one thing
pub record AppliesBut
    (out : Premise) (w : Meaning Command Reply) (c : Session) (txn : ℕ) (x : Command) (d : Patch Value) : Type 0 where
  pub unsealed : But out Unsealed (IsSealed c.trace (atom_in c.trace txn) → ⊥)
  pub touched : Intervals
  pub changed : Intervals
  pub patch : But out IsItsPatch (IsPatch d)
  pub meets : But out MeetsIt (Meets d c.memory c.root)
  pub after : Content
  pub units : But out HasItsUnits (HasUnits (place d c.memory) after)
  pub files : But out HasItsFiles (HasFiles (place d c.memory) after)
  pub visible : But out IsSeen (IsVisible after (w.after x (all_done w c)))
  pub reads : But out Reads ((k : ℕ) → is_in (w.reads x (all_done w c)) k ≡ true → is_in touched k ≡ true)
  pub changes : But out Changes ((k : ℕ) → is_in (w.changes x (all_done w c)) k ≡ true → is_in changed k ≡ true)
  pub within : But out Within ((k : ℕ) → is_in changed k ≡ true → is_in touched k ≡ true)
  pub stays : But out Stays ((k : ℕ) → is_in changed k ≡ false → SameUnit c.memory (place d c.memory) k)
  pub stats : But out Stats (HasStats touched)
  pub bodies : But out Bodies (ShowsUnits touched changed c.memory (all_done w c) (w.after x (all_done w c)))
  pub own : But out Own ((i : ℕ) → touches d i ≡ true → IsFree c (atom_in c.trace txn) i)
  pub reach : But out Reach (IsReached c (atom_in c.trace txn) touched)

-- A session in which each set means what it should, and a command with a change of which all else holds, after which
-- some
-- set does not.
pub record IsNeeded (p : Premise) : Type 0 where
  pub meaning : Meaning Command Reply
  pub local : IsLocal meaning
  pub session : Session
  pub sets : Sets meaning session
  pub txn : TxnNo
  pub script : ScriptNo
  pub index : ℕ
  pub command : Command
  pub change : Patch Value
  pub all_else : AppliesBut p meaning session txn.0 command change
  pub fails : Sets meaning (applied meaning session txn script index command change) → ⊥
