-- How the commands of a job are answered in a trace, the newest entry first (docs/traces.md).
--     Place       how far a script is, and in which transaction
--     Answers     what an entry may answer
--     IsAnswered  each entry of a trace does
use Rattle.std.specs.Prelude.{◌≡◌, ◌⊎◌, ℕ, zero, suc, ◌+◌, ◌==◌, if◌then◌else◌, List, [], ◌∷◌, ◌++◌, slice_get, Option, Some, None}
use Rattle.r4_content.specs.Meaning.{without_id}
use Rattle.r4_content.specs.declared.command.Command.{Command}
use Rattle.r4_content.specs.declared.command.Command.TheVariants as commands
use Rattle.r4_trace.specs.declared.entry.Entry.{Entry}
use Rattle.r4_trace.specs.declared.entry.Entry.TheVariants.{Begin, Done, Refused, Ended, Acked}
use Rattle.r4_trace.specs.Traced.{broken_at}

-- ---- jobs

-- the commands of each script
abbrev pub Asked : Type 0
Asked = List (List Command)

abbrev pub commands_at : Asked → ℕ → List Command
commands_at [] n = []
commands_at (cs ∷ job) zero = cs
commands_at (cs ∷ job) (suc n) = commands_at job n

-- those of a script, which are counted from 1
abbrev pub commands_of : Asked → (script : ℕ) → List Command
commands_of job zero = []
commands_of job (suc n) = commands_at job n

-- the job with a command more, which stands last in a script
abbrev pub pushed_at : Asked → ℕ → Command → Asked
pushed_at [] n c = []
pushed_at (cs ∷ job) zero c = (cs ++ c ∷ []) ∷ job
pushed_at (cs ∷ job) (suc n) c = cs ∷ pushed_at job n c

abbrev pub pushed : Asked → (script : ℕ) → Command → Asked
pushed job zero c = job
pushed job (suc n) c = pushed_at job n c

-- a command that reads or changes the volume
abbrev pub IsWork : Command → Type 0
IsWork commands.Begin = ⊥
IsWork commands.End = ⊥
IsWork commands.Commit = ⊥
IsWork c = Unit {0}

-- ---- how far a script is

-- Outside of its transactions; inside of one that `begin` began; in that of a single command, which
-- is not answered yet, or is.
pub data Within : Type 0 where
  Outside : Within
  Inside : (txn : ℕ) → Within
  Single : (txn : ℕ) → Within
  Answered : (txn : ℕ) → Within

pub record Place : Type 0 where
  pub answered : ℕ
  pub within : Within

abbrev pub at_start : Place
at_start = record { answered = 0; within = Outside }

-- the transaction, where there is one
abbrev pub txn_in : Within → Option ℕ
txn_in Outside = None
txn_in (Inside t) = Some t
txn_in (Single t) = Some t
txn_in (Answered t) = Some t

-- a transaction begins by `begin`, which it answers, or for a single command
abbrev pub begun_for : Option Command → (txn answered : ℕ) → Place
begun_for (Some commands.Begin) t n = record { answered = n + 1; within = Inside t }
begun_for c t n = record { answered = n; within = Single t }

abbrev pub begun_at : List Command → (txn : ℕ) → Place → Place
begun_at cs t p = begun_for (slice_get cs p.answered) t p.answered

abbrev pub answered_in : Within → Within
answered_in (Single t) = Answered t
answered_in within = within

abbrev pub answered_at : Place → Place
answered_at p = record { answered = p.answered + 1; within = answered_in p.within }

-- after a Broken entry a transaction that is open stays so, whatever is refused
abbrev pub refused_at : Option ℕ → Place → Place
refused_at None p = answered_at p
refused_at (Some clock) p = record { answered = p.answered + 1; within = p.within }

-- a transaction ends by `end`, which it answers, or because nothing else follows in its script
abbrev pub end_of : Option Command → ℕ → ℕ
end_of (Some commands.End) n = n + 1
end_of c n = n

abbrev pub ended_in : Within → List Command → (txn answered : ℕ) → Place
ended_in (Inside u) cs t n =
    if t == u then record { answered = end_of (slice_get cs n) n; within = Outside }
    else record { answered = n; within = Inside u }
ended_in (Single u) cs t n =
    if t == u then record { answered = n; within = Outside }
    else record { answered = n; within = Single u }
ended_in (Answered u) cs t n =
    if t == u then record { answered = n; within = Outside }
    else record { answered = n; within = Answered u }
ended_in Outside cs t n = record { answered = n; within = Outside }

abbrev pub ended_at : List Command → (txn : ℕ) → Place → Place
ended_at cs t p = ended_in p.within cs t p.answered

-- the place of a script with these commands
abbrev pub place : List Command → List Entry → (script : ℕ) → Place
place cs [] s = at_start
place cs (Begin txn script ∷ older) s =
    if s == script.0 then begun_at cs txn.0 (place cs older s) else place cs older s
place cs (Done txn script index command reply ∷ older) s =
    if s == script.0 then answered_at (place cs older s) else place cs older s
place cs (Refused txn script index reply ∷ older) s =
    if s == script.0 then refused_at (broken_at older) (place cs older s) else place cs older s
place cs (Acked script txn clock ∷ older) s =
    if s == script.0 then answered_at (place cs older s) else place cs older s
place cs (Ended txn ∷ older) s = ended_at cs txn.0 (place cs older s)
place cs (e ∷ older) s = place cs older s

-- ---- what an entry may answer there

abbrev pub next_of : List Command → Place → Option Command
next_of cs p = slice_get cs p.answered

-- `begin`, or a single command
abbrev pub MayBegin : Option Command → Type 0
MayBegin (Some commands.End) = ⊥
MayBegin (Some commands.Commit) = ⊥
MayBegin (Some c) = Unit {0}
MayBegin None = ⊥

abbrev pub MayBeDone : Option Command → Command → Type 0
MayBeDone None command = ⊥
MayBeDone (Some c) command = IsWork c × (without_id command ≡ without_id c)

-- the transaction that a refusal names, and that of what is done
abbrev pub RefusedIn : Within → (txn : ℕ) → Type 0
RefusedIn Outside t = t ≡ 0
RefusedIn (Inside u) t = t ≡ u
RefusedIn (Single u) t = t ≡ u
RefusedIn (Answered u) t = ⊥

abbrev pub DoneIn : Within → (txn : ℕ) → Type 0
DoneIn Outside t = ⊥
DoneIn within t = RefusedIn within t

-- `commit` is refused outside of transactions; after a Broken entry every command is
abbrev pub MayBeRefused : Option ℕ → Option Command → Within → (txn : ℕ) → Type 0
MayBeRefused broken None within t = ⊥
MayBeRefused (Some clock) (Some c) within t = t ≡ 0
MayBeRefused None (Some commands.Begin) within t = ⊥
MayBeRefused None (Some commands.End) within t = ⊥
MayBeRefused None (Some commands.Commit) within t = (within ≡ Outside) × (t ≡ 0)
MayBeRefused None (Some c) within t = RefusedIn within t

-- The transaction ends by `end`, where its script has no further command, or because its single
-- command is answered.
abbrev pub MayEnd : Option Command → Within → (txn : ℕ) → Type 0
MayEnd next Outside t = ⊥
MayEnd next (Single u) t = ⊥
MayEnd next (Answered u) t = t ≡ u
MayEnd next (Inside u) t = (t ≡ u) × ((next ≡ Some commands.End) ⊎ (next ≡ None))

-- a script may end its transaction
abbrev pub EndsOf : List Command → List Entry → (script txn : ℕ) → Type 0
EndsOf cs older s t = let p = place cs older s in MayEnd (next_of cs p) p.within t

abbrev pub Answers : Asked → List Entry → Entry → Type 0
Answers job older (Begin txn script) =
    let cs = commands_of job script.0 in
    let p = place cs older script.0 in
    (p.within ≡ Outside) × MayBegin (next_of cs p)
Answers job older (Done txn script index command reply) =
    let cs = commands_of job script.0 in
    let p = place cs older script.0 in
    (index ≡ p.answered + 1) × MayBeDone (next_of cs p) command × DoneIn p.within txn.0
Answers job older (Refused txn script index reply) =
    let cs = commands_of job script.0 in
    let p = place cs older script.0 in
    (index ≡ p.answered + 1) × MayBeRefused (broken_at older) (next_of cs p) p.within txn.0
Answers job older (Ended txn) = (s : ℕ) × EndsOf (commands_of job s) older s txn.0
Answers job older (Acked script txn clock) =
    let cs = commands_of job script.0 in
    let p = place cs older script.0 in
    (p.within ≡ Outside) × (next_of cs p ≡ Some commands.Commit)
Answers job older e = Unit {0}

abbrev pub IsAnswered : Asked → List Entry → Type 0
IsAnswered job [] = Unit {0}
IsAnswered job (e ∷ older) = Answers job older e × IsAnswered job older

-- No transaction of a single command that was answered before a Broken entry is still open.
abbrev pub AllClosed : Asked → List Entry → Type 0
AllClosed job trace =
    (s t : ℕ) → (place (commands_of job s) trace s).within ≡ Answered t → ⊥

-- ---- a job that grows

abbrev pub HasNoBegin : List Command → Type 0
HasNoBegin [] = Unit {0}
HasNoBegin (commands.Begin ∷ cs) = ⊥
HasNoBegin (c ∷ cs) = HasNoBegin cs
