-- What the parts of a renaming read and leave.
use Rattle.std.specs.Prelude.{◌≡◌, ◌⊎◌, ◌-◌, ◌^◌, ◌<◌, ◌≤◌, ◌==◌, nat_le, not, ℕ, Bool, List, []}
use Rattle.std.specs.Prelude.{◌∷◌, map, filter, length, slice_index_or, IsSome}
use Rattle.std.specs.Prelude.{Option, Some, None, if◌then◌else◌}
use Rattle.std.specs.Arc.{arc_value}
use Rattle.std.specs.BTreeMap.{BTreeMap, get}
use Rattle.std.specs.List.{list_any}
use Rattle.std.specs.Option.{option_map, unwrap_or}
use Rattle.std.specs.Ordering.{nat_cmp}
use Rattle.r4_atoms.specs.Atoms.{AtomsSeen, owner_of}
use Rattle.r4_base.specs.declared.things.NodeId.{NodeId}
use Rattle.r4_buffer.specs.Changed.{Standing, has_name, renamed, renewed}
use Rattle.r4_buffer.specs.Seen.{BufferSeen, buffered}
use Rattle.r4_flush.specs.Prepared.{cells_of}
use Rattle.r4_flush.specs.declared.cells.RenamedCell.{RenamedCell}
use Rattle.r4_turns.specs.Turns.{HasNext, IsScript, TurnsSeen, turn_at}
use Rattle.r4_turns.specs.declared.out.Out.{Out}
use Rattle.r4_turns.specs.declared.turn.Turn.{Turn}
use Rattle.r4_renaming.specs.Renaming.{was_named}

-- ---- names

-- what becomes of a name by a table: it stays where the table has no other
abbrev pub name_in : BTreeMap ℕ ℕ → ℕ → ℕ
name_in names i = unwrap_or (get nat_cmp names i) i

-- ---- nodes that are kept for tasks

abbrev pub nodes_under : (ℕ → ℕ) → List NodeId → List NodeId
nodes_under f nodes = map (λ (n : NodeId). record { 0 = f n.0 }) nodes

abbrev pub pins_then : (ℕ → ℕ) → Option Out → Option (List NodeId)
pins_then f out = option_map (λ (o : Out). nodes_under f o.pins) out

-- these nodes are kept for the task of a turn, where there are some
abbrev pub turn_keeping : Option (List NodeId) → Turn → Turn
turn_keeping None turn = turn
turn_keeping (Some pins) turn =
    record turn { out = option_map (λ (o : Out). record o { pins = pins }) turn.out }

-- and so for each turn, in their order
abbrev pub turns_keeping : List (Option (List NodeId)) → List Turn → List Turn
turns_keeping [] turns = turns
turns_keeping (pins ∷ rest) [] = []
turns_keeping (pins ∷ rest) (turn ∷ turns) = turn_keeping pins turn ∷ turns_keeping rest turns

-- Each script has its place in the list; where there are nodes, a task of it is out, and it has a
-- next command.
pub record CanKeep (t : TurnsSeen) (pins : List (Option (List NodeId))) : Type 0 where
  pub each : length pins ≡ length t.turns
  pub is_out : (s : ℕ) → IsScript t s → IsSome (slice_index_or pins (s - 1) None)
      → IsSome (turn_at t s).out
  pub next : (s : ℕ) → IsScript t s → IsSome (slice_index_or pins (s - 1) None) → HasNext t s

-- ---- owners

-- the node has a block
abbrev pub is_placed : NodeId → Bool
is_placed n = not (nat_le (2 ^ 63) n.0)

-- the new names of the cells that had no block
abbrev pub new_nodes : List RenamedCell → List NodeId
new_nodes renamed = map (λ (r : RenamedCell). record { 0 = (arc_value r.cell).id })
    (filter (λ (r : RenamedCell). nat_le (2 ^ 63) r.was.0) renamed)

abbrev pub has_node : List NodeId → ℕ → Bool
has_node nodes i = list_any (λ (n : NodeId). n.0 == i) nodes

-- The cell keeps its name, that of a block; or it had none, and gets one that nobody owns.
abbrev pub IsFreeNode : AtomsSeen → RenamedCell → Type 0
IsFreeNode s r = ((r.was.0 ≡ (arc_value r.cell).id) × (r.was.0 < 2 ^ 63))
    ⊎ ((2 ^ 63 ≤ r.was.0) × ((arc_value r.cell).id < 2 ^ 63)
    × (owner_of s (arc_value r.cell).id ≡ None))

-- whose a node is once these cells of the atom have their new names
abbrev pub owner_moved : (atom : ℕ) → List RenamedCell → (node : ℕ) → Option ℕ → Option ℕ
owner_moved a renamed i was =
    if has_name (cells_of renamed) i then Some a else (if was_named renamed i then None else was)

-- all but the owners is as it was
pub record OnlyOwnersChange (old new : AtomsSeen) : Type 0 where
  pub txns : new.txns ≡ old.txns
  pub states : new.atoms ≡ old.atoms
  pub captures : new.spare ≡ old.spare
  pub begins : new.txn_spare ≡ old.txn_spare

-- ---- cells in memory

-- The cell keeps its name, that of a block; or it had none, and gets one that no cell in memory has.
abbrev pub IsFreeName : BufferSeen → RenamedCell → Type 0
IsFreeName b r = ((r.was.0 ≡ (arc_value r.cell).id) × (r.was.0 < 2 ^ 63))
    ⊎ ((2 ^ 63 ≤ r.was.0) × ((arc_value r.cell).id < 2 ^ 63)
    × (buffered b (arc_value r.cell).id ≡ None))

-- what stands under a name once this cell has its new one
abbrev pub cell_moved : BufferSeen → RenamedCell → ℕ → Standing
cell_moved b r i =
    if nat_le (2 ^ 63) r.was.0 then renamed b r.was.0 (arc_value r.cell) i
    else renewed (arc_value r.cell) i (buffered b i)
