-- What the calls leave under a name (docs/buffer.md).
use Rattle.std.specs.Prelude.{ℕ, ◌+◌, ◌-◌, ◌==◌, min, List, [], ◌∷◌, Bool, true, false, Option, Some, None, if◌then◌else◌}
use Rattle.std.specs.List.{list_any}
use Rattle.std.specs.Option.{option_map}
use Rattle.r4_base.specs.declared.things.NodeId.{NodeId}
use Rattle.r4_search.specs.r4_cell.Seen.{CellSeen}
use Rattle.r4_buffer.specs.Seen.{BufferSeen, EntrySeen, buffered, is_captured_by, is_idle, is_loose}

-- what stands under a name, and what a step leaves there
abbrev pub Standing : Type 0
Standing = Option EntrySeen

-- what stands under the name i after a step for each of these
abbrev pub in_turn : {A : Type 0} → (A → ℕ → Standing → Standing) → List A → ℕ → Standing → Standing
in_turn step [] i o = o
in_turn step (x ∷ xs) i o = in_turn step xs i (step x i o)

-- more uses: the count stands still at 2^32 - 1
abbrev pub more_uses : ℕ → ℕ → ℕ
more_uses a b = min (a + b) 4294967295

-- one more task uses the cell: one that nobody uses and that is clean is replaced
abbrev pub used_entry : CellSeen → Standing → EntrySeen
used_entry c None = record { cell = c; uses = 1; dirty = false }
used_entry c (Some e) =
    if is_idle e then record { cell = c; uses = 1; dirty = false } else
    record e { uses = more_uses e.uses 1 }

abbrev pub used : CellSeen → ℕ → Standing → Standing
used c i o = if c.id == i then Some (used_entry c o) else o

-- an entry that one task less uses, and one that is dirty no more
abbrev pub one_less : EntrySeen → EntrySeen
one_less e = record e { uses = e.uses - 1 }

abbrev pub not_dirty : EntrySeen → EntrySeen
not_dirty e = record e { dirty = false }

-- one task less uses the name
abbrev pub unused : NodeId → ℕ → Standing → Standing
unused id i o = if id.0 == i then option_map one_less o else o

-- the name is dirty no more
abbrev pub cleaned : NodeId → ℕ → Standing → Standing
cleaned id i o = if id.0 == i then option_map not_dirty o else o

abbrev pub uses_of : Standing → ℕ
uses_of None = 0
uses_of (Some e) = e.uses

-- the cell stands dirty, with the uses of its name
abbrev pub placed : CellSeen → ℕ → Standing → Standing
placed c i o = if c.id == i then Some (record { cell = c; uses = uses_of o; dirty = true }) else o

abbrev pub has_name : List CellSeen → ℕ → Bool
has_name cells i = list_any (λ c. c.id == i) cells

-- new cells stand in place of old ones: an old name that is not among the new ones goes
abbrev pub replaced : (old new : List CellSeen) → ℕ → Standing → Standing
replaced old new i o =
    if has_name new i then in_turn placed new i o else (if has_name old i then None else o)

-- A cell comes under its name, with the uses of its old one and dirty as that; a cell that is there
-- stays, and has the uses of both.
abbrev pub joined : CellSeen → (was : EntrySeen) → (there : Standing) → EntrySeen
joined c was None = record was { cell = c }
joined c was (Some there) = record there { uses = more_uses there.uses was.uses }

abbrev pub renamed_by : (from : ℕ) → CellSeen → Standing → ℕ → Standing → Standing
renamed_by from c None i o = o
renamed_by from c (Some was) i o =
    if c.id == i then Some (joined c was o) else (if from == i then None else o)

abbrev pub renamed : BufferSeen → (from : ℕ) → CellSeen → ℕ → Standing
renamed b from c i = renamed_by from c (buffered b from) i (buffered b i)

-- another cell stands in place of the one that has its name
abbrev pub with_cell : CellSeen → EntrySeen → EntrySeen
with_cell c e = record e { cell = c }

abbrev pub renewed : CellSeen → ℕ → Standing → Standing
renewed c i o = if c.id == i then option_map (with_cell c) o else o

-- an entry that is not captured goes
abbrev pub forgotten : BufferSeen → Standing → Standing
forgotten b None = None
forgotten b (Some e) = if is_captured_by b (Some e) then Some e else None

-- an entry goes that is neither used nor captured
abbrev pub swept : BufferSeen → Standing → Standing
swept b None = None
swept b (Some e) = if is_loose b e then None else Some e

-- ---- the steps of a replacement

abbrev pub laid_aside : CellSeen → ℕ → Standing → Standing
laid_aside c i o = if c.id == i then option_map not_dirty o else o

abbrev pub if_dirty : Standing → Standing
if_dirty None = None
if_dirty (Some e) = if e.dirty then Some e else None

abbrev pub taken : CellSeen → ℕ → Standing → Standing
taken c i o = if c.id == i then if_dirty o else o

-- an entry goes from under a name
abbrev pub dropped : ℕ → ℕ → Standing → Standing
dropped id i o = if id == i then None else o

-- other marks of an entry
abbrev pub marked : (uses : ℕ) → (dirty : Bool) → EntrySeen → EntrySeen
marked uses dirty e = record e { uses = uses; dirty = dirty }
