-- What is to be done next (docs/core.md, "Taking").
use Rattle.std.specs.Prelude.{◌≡◌, ◌+◌, ℕ, List, Option, None, Some, true}
use Rattle.r4_atoms.specs.Atoms.{AllCommitted}
use Rattle.r4_base.specs.declared.things.ScriptNo.{ScriptNo}
use Rattle.r4_base.specs.declared.things.TxnNo.{TxnNo}
use Rattle.r4_content.specs.declared.command.Command.{Command}
use Rattle.r4_content.specs.declared.command.Command.TheVariants as asks
use Rattle.r4_content.specs.declared.reply.Reply.TheVariants.{Reopen}
use Rattle.r4_history.specs.Held.{Need}
use Rattle.r4_history.specs.Serving.{AsksForFlush, IsReason, IsServedNext, IsWaiting, WaitsFor}
use Rattle.r4_history.specs.Tables.{IsFinished, IsLastOf, inside, next_at}
use Rattle.r4_history.specs.declared.why.Why.{Why}
use Rattle.r4_served.specs.r4_kept.Steps.{HasBegun, answered, ended, ended_last}
use Rattle.r4_served.specs.r4_kept.View.{CoreSeen, tables_of}
use Rattle.r4_outside.specs.Device.{State}
use Rattle.r4_served.specs.r4_extent_reaching.Answers.{IsReach}
use Rattle.r4_served.specs.r4_reaching.Answers.{IsSamePool}
use Rattle.r4_served.specs.r4_extent_reaching.declared.reached.Reach.{Reach}
use Rattle.r4_served.specs.r4_ready.Readiness.{parts_of}
use Rattle.r4_served.specs.r4_ready.Rooms.{HasMoreRoom}
use Rattle.r4_served.specs.r4_search.Keeping.{Shared, keeping_state}
use Rattle.r4_served.specs.r4_search.Pool.{LeavesDevice, PoolState}
use Rattle.r4_served.specs.r4_serve.Serving.{need_in, read_over}
use Rattle.r4_served.specs.Serving.{IsRead, IsServed}
use Rattle.r4_served.specs.declared.serving.Served.TheVariants as served
use Rattle.r4_served.specs.r4_take.Sending.{CanBeBuilt, IsNamed, IsServable}
use Rattle.r4_served.specs.r4_take.declared.drawing.Draws.{Draws}
use Rattle.r4_history.specs.r4_trace.declared.entry.Entry.TheVariants.{Acked, Refused}
use Rattle.r4_turns.specs.Turns.{IsScript, answered_at, turn_at}
use Rattle.r4_next.specs.declared.taken.Looked.{Looked}
use Rattle.r4_next.specs.declared.taken.Looked.TheVariants as looked
use Rattle.r4_next.specs.declared.taken.Taken.{Taken}
use Rattle.r4_next.specs.declared.taken.Taken.TheVariants as taken

-- ---- what was read

-- It was read what the next command of a script reaches, under its id, at some moment between these
-- two of the device.
pub record WasRead
    {D : Type 0} (state : D → State) (d e : State) (c : CoreSeen D) (s : ℕ) (x : Command)
    (need : Need) : Type 0
  where
    pub draws : Draws
    pub named : Command
    pub name : IsNamed c s x draws named
    pub from : D
    pub to : D
    pub before : LeavesDevice d (state from)
    pub behind : LeavesDevice (state to) e
    pub after : PoolState
    pub met : List (ℕ × Shared)
    pub same : IsSamePool (state from) (state to) (read_over (parts_of c) (state from))
        after c.tree met
    pub reach : Reach
    pub is : IsReach (keeping_state after true met) c.tree named reach
    pub need_is : need ≡ need_in reach

-- what the next command of a script reaches, if it was read
abbrev pub IsReadAs :
    {D : Type 0} → (D → State) → (d e : State) → CoreSeen D → (s : ℕ) → Option Need → Type 0
IsReadAs state d e c s need =
    (x : Command) (n : Need) → IsServable c s x → need ≡ Some n → WasRead state d e c s x n

abbrev pub AreRead :
    {D : Type 0} → (D → State) → (d e : State) → CoreSeen D → (ℕ → Option Need) → Type 0
AreRead state d e c needs = (s : ℕ) → IsReadAs state d e c s (needs s)

-- ---- what is answered

-- Room was made, and what comes next in a script was answered.
abbrev pub InRoom : {D : Type 0} → (old : CoreSeen D) → (CoreSeen D → Type 0) → Type 0
InRoom {D} old P = (roomy : CoreSeen D) × HasMoreRoom old roomy × P roomy

-- By what comes next in the script: after a call of the device failed, its refusal; the end of the
-- script inside of a transaction, `begin`, `end`, a `commit` that is acknowledged, and work that is
-- refused.
abbrev pub RepliesTo :
    {D : Type 0} → (d e : State) → (old new : CoreSeen D) → ScriptNo → (broken : Option ℕ)
    → Option Command → Type 0
RepliesTo d e old new s (Some clock) next = InRoom old (λ roomy. new ≡ answered roomy s.0
    (Refused (record { 0 = 0 }) s (answered_at roomy.turns s.0 + 1) (Reopen clock)))
RepliesTo d e old new s None None = (txn : TxnNo)
    × ((turn_at old.turns s.0).transaction ≡ Some (inside txn))
    × InRoom old (λ roomy. new ≡ ended_last roomy s.0 txn)
RepliesTo d e old new s None (Some asks.Begin) = (txn : TxnNo)
    × InRoom old (λ roomy. HasBegun roomy new s txn)
RepliesTo d e old new s None (Some asks.End) = (txn : TxnNo)
    × ((turn_at old.turns s.0).transaction ≡ Some (inside txn))
    × InRoom old (λ roomy. new ≡ ended roomy s.0 txn)
RepliesTo d e old new s None (Some asks.Commit) = (txn : TxnNo)
    × IsLastOf old.atoms s.0 txn.0 × AllCommitted old.atoms s.0
    × (new ≡ answered old s.0 (Acked s txn d.clock))
RepliesTo d e old new s None (Some x) = IsServed d e old new s served.Refused

abbrev pub IsReplied :
    {D : Type 0} → (d e : State) → (old new : CoreSeen D) → ScriptNo → Type 0
IsReplied d e old new s = RepliesTo d e old new s old.broken (next_at old.turns s.0)

-- what was done for a script that was served; after a call of the device failed, nothing goes out
abbrev pub IsDoneFor :
    {D : Type 0} → (d e : State) → (old new : CoreSeen D) → ScriptNo → Taken → Type 0
IsDoneFor d e old new s (taken.Work task) =
    (old.broken ≡ None) × IsServed d e old new s (served.Out task)
IsDoneFor d e old new s (taken.Replied script) = (script ≡ s) × IsReplied d e old new s
IsDoneFor d e old new s (taken.Flush atom) = AsksForFlush (tables_of old) s.0 atom × (new ≡ old)
IsDoneFor d e old new s t = ⊥

-- ---- one script

-- it is neither finished nor out, and does not wait
pub record CanBeTaken {D : Type 0} (c : CoreSeen D) (s : ℕ) : Type 0 where
  pub unfinished : IsFinished (tables_of c) s → ⊥
  pub free : (turn_at c.turns s).out ≡ None
  pub goes_on : (why : Why) → WaitsFor (tables_of c) c.locks None s why → ⊥

-- it is not finished, and cannot be taken, for this reason
pub record CannotBeTaken
    {D : Type 0} (state : D → State) (d e : State) (c : CoreSeen D) (s : ℕ) (why : Why) : Type 0
  where
    pub unfinished : IsFinished (tables_of c) s → ⊥
    pub need : Option Need
    pub read : IsReadAs state d e c s need
    pub reason : IsReason (tables_of c) c.locks need s (turn_at c.turns s).out why

-- What is found of a script that is looked at: it is finished; it cannot be taken, and the device
-- may have been read; or it is served.
abbrev pub IsLooked :
    {D : Type 0} → (D → State) → (old new : CoreSeen D) → ScriptNo → Looked → Type 0
IsLooked state old new s looked.Finished =
    IsFinished (tables_of old) s.0 × ((turn_at old.turns s.0).out ≡ None) × (new ≡ old)
IsLooked state old new s (looked.Waits why) =
    CannotBeTaken state (state old.dev) (state new.dev) old s.0 why
    × IsRead (state old.dev) (state new.dev) old new
IsLooked state old new s (looked.Takes t) =
    CanBeTaken old s.0 × IsDoneFor (state old.dev) (state new.dev) old new s t

-- ---- all scripts

-- The first script in the order that is neither finished nor out and does not wait is served; of
-- each before it, it was read what its next command reaches, where it is work.
pub record Serves {D : Type 0} (state : D → State) (old new : CoreSeen D) (t : Taken) : Type 0
  where
    pub needs : ℕ → Option Need
    pub script : ScriptNo
    pub mid : CoreSeen D
    pub read : IsRead (state old.dev) (state mid.dev) old mid
    pub known : AreRead state (state old.dev) (state mid.dev) old needs
    pub next : IsServedNext (tables_of old) old.locks needs script.0
    pub done : IsDoneFor (state mid.dev) (state new.dev) mid new script t

-- None can be served though one is not finished: why the first such one in the order waits.
pub record Waits {D : Type 0} (state : D → State) (old new : CoreSeen D) (why : Why) : Type 0 where
  pub needs : ℕ → Option Need
  pub read : IsRead (state old.dev) (state new.dev) old new
  pub known : AreRead state (state old.dev) (state new.dev) old needs
  pub waits : IsWaiting (tables_of old) old.locks needs why

abbrev pub Takes : {D : Type 0} → (D → State) → (old new : CoreSeen D) → Taken → Type 0
Takes state old new (taken.Wait why) = Waits state old new why
Takes state old new taken.Finished =
    ((s : ℕ) → IsScript old.turns s → IsFinished (tables_of old) s) × (new ≡ old)
Takes state old new t = Serves state old new t

-- a task that is to be worked at can be built
abbrev pub BuildsIfWork : Taken → Type 0
BuildsIfWork (taken.Work task) = CanBeBuilt task
BuildsIfWork t = Unit {0}
