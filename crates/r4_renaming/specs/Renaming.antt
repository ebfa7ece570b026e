-- New names of an atom's cells, those of their blocks, wherever an atom, the cells in memory and the
-- tasks that are out have the old ones (docs/core.md, "Sealing").
use Rattle.std.specs.Prelude.{◌≡◌, ◌^◌, ◌==◌, nat_le, ℕ, Bool, List, [], ◌∷◌, map, Contains}
use Rattle.std.specs.Prelude.{Option, Some, None, true, false, if◌then◌else◌}
use Rattle.std.specs.Arc.{arc_value}
use Rattle.std.specs.List.{list_any}
use Rattle.std.specs.Option.{option_map}
use Rattle.r4_atoms.specs.Atoms.{without_owner}
use Rattle.r4_base.specs.declared.things.NodeId.{NodeId}
use Rattle.r4_buffer.specs.Changed.{has_name}
use Rattle.r4_buffer.specs.Seen.{BufferSeen, EntrySeen, buffered}
use Rattle.r4_flush.specs.Prepared.{cells_of}
use Rattle.r4_flush.specs.declared.cells.RenamedCell.{RenamedCell}
use Rattle.r4_turns.specs.Turns.{TurnsSeen}
use Rattle.r4_turns.specs.declared.out.Out.{Out}
use Rattle.r4_turns.specs.declared.turn.Turn.{Turn}

-- a cell had this name
abbrev pub was_named : List RenamedCell → ℕ → Bool
was_named renamed i = list_any (λ (r : RenamedCell). r.was.0 == i) renamed

-- what becomes of a name: that of the cell which had it, and all others stay
abbrev pub name_then : List RenamedCell → ℕ → ℕ
name_then [] i = i
name_then (r ∷ rest) i = if r.was.0 == i then (arc_value r.cell).id else name_then rest i

-- whose a node is then: the atom's, where a cell of it has that name; and no number of a new cell
-- is the atom's any more
abbrev pub owner_then : (atom : ℕ) → List RenamedCell → (node : ℕ) → Option ℕ → Option ℕ
owner_then a renamed i was =
    if has_name (cells_of renamed) i then Some a
    else (if nat_le (2 ^ 63) i then without_owner a was else was)

-- Each cell stands under its new name, with the uses of its old one and dirty as that was. A name
-- that a cell had, and none has then, has nothing; and under each other name stands what stood
-- there.
pub record HaveNewNames (old new : BufferSeen) (renamed : List RenamedCell) : Type 0 where
  pub there : (r : RenamedCell) (e : EntrySeen) → Contains renamed r
      → buffered old r.was.0 ≡ Some e
      → buffered new (arc_value r.cell).id ≡ Some (record e { cell = arc_value r.cell })
  pub gone : (i : ℕ) → was_named renamed i ≡ true → has_name (cells_of renamed) i ≡ false
      → buffered new i ≡ None
  pub others : (i : ℕ) → was_named renamed i ≡ false → has_name (cells_of renamed) i ≡ false
      → buffered new i ≡ buffered old i

-- the nodes that are kept for tasks have their new names
abbrev pub with_pins : (ℕ → ℕ) → Out → Out
with_pins f out =
    record out { pins = map (λ (n : NodeId). record { 0 = f n.0 }) out.pins }

abbrev pub turn_with_pins : (ℕ → ℕ) → Turn → Turn
turn_with_pins f turn = record turn { out = option_map (with_pins f) turn.out }

abbrev pub turns_with_pins : (ℕ → ℕ) → TurnsSeen → TurnsSeen
turns_with_pins f t = record t { turns = map (turn_with_pins f) t.turns }
