-- The ids of the objects that the commands of a trace make, the newest entry first
-- (docs/traces.md).
use Rattle.std.specs.Prelude.{◌≡◌, ◌⊎◌, ℕ, ◌+◌, ◌-◌, ◌^◌, ◌<◌, ◌≤◌, List, [], ◌∷◌, Option, Some, None}
use Rattle.r4_base.specs.Value.{Content}
use Rattle.r4_content.specs.Fields.{IsUnused}
use Rattle.r4_content.specs.declared.command.Command.{Command}
use Rattle.r4_content.specs.declared.command.Command.TheVariants.{Create, Mkdir}
use Rattle.r4_trace.specs.declared.entry.Entry.{Entry}
use Rattle.r4_trace.specs.declared.entry.Entry.TheVariants.{Done}
use Rattle.r4_trace.specs.Job.{Asked}

-- with what a run began: the content, and the least id that no object had yet
pub record Start : Type 0 where
  pub content : Content
  pub next_id : ℕ

-- the id of the object that a command makes
abbrev pub id_of : Command → Option ℕ
id_of (Create path oid) = Some oid.0
id_of (Mkdir path oid) = Some oid.0
id_of c = None

-- the number that stands for every id that could not be drawn
abbrev pub no_id : ℕ
no_id = 2 ^ 60 - 1

-- how many commands of a job make an object
abbrev pub one_for : Option ℕ → ℕ
one_for None = 0
one_for (Some x) = 1

abbrev pub makers_in : List Command → ℕ
makers_in [] = 0
makers_in (c ∷ cs) = one_for (id_of c) + makers_in cs

abbrev pub makers : Asked → ℕ
makers [] = 0
makers (cs ∷ job) = makers_in cs + makers job

-- a Done entry has a command of this id
abbrev pub IsDrawn : List Entry → (id : ℕ) → Type 0
IsDrawn [] x = ⊥
IsDrawn (Done txn script index command reply ∷ older) x =
    (id_of command ≡ Some x) ⊎ IsDrawn older x
IsDrawn (e ∷ older) x = IsDrawn older x

-- no object of the start has it
abbrev pub IsFree : Option Start → (id : ℕ) → Type 0
IsFree None x = Unit {0}
IsFree (Some b) x = IsUnused b.content (record { 0 = x })

-- at least the next one, and one of as many as the job may draw; or it stands for those that could
-- not be drawn, where so many are not left
abbrev pub IsWithin : (next_id count x : ℕ) → Type 0
IsWithin o n x = ((o ≤ x) × (x < o + n)) ⊎ ((x ≡ no_id) × (no_id < o + n))

abbrev pub IsInBounds : Option Start → Option Asked → (id : ℕ) → Type 0
IsInBounds (Some b) (Some job) x = IsWithin b.next_id (makers job) x
IsInBounds start job x = Unit {0}

pub record IsNewId
    (start : Option Start) (job : Option Asked) (older : List Entry) (x : ℕ) : Type 0 where
  pub once : x < no_id → IsDrawn older x → ⊥
  pub free : IsFree start x
  pub bounds : IsInBounds start job x

abbrev pub HasNewIds : Option Start → Option Asked → List Entry → Type 0
HasNewIds start job [] = Unit {0}
HasNewIds start job (Done txn script index command reply ∷ older) =
    ((x : ℕ) → id_of command ≡ Some x → IsNewId start job older x) × HasNewIds start job older
HasNewIds start job (e ∷ older) = HasNewIds start job older
