-- When the cells of an atom may get their new names, and what is then (docs/core.md, "Sealing").
use Rattle.std.specs.Prelude.{◌≡◌, ◌⊎◌, ◌↔◌, ◌^◌, ◌<◌, ◌≤◌, nat_eq, ℕ, List, map, Contains, IsSome}
use Rattle.std.specs.Prelude.{Some, None}
use Rattle.std.specs.Arc.{arc_value}
use Rattle.std.specs.List.{IsDistinct}
use Rattle.r4_atoms.specs.Atoms.{AtomsSeen, IsAtom, numbers, owner_of}
use Rattle.r4_base.specs.declared.things.NodeId.{NodeId}
use Rattle.r4_buffer.specs.Seen.{BufferSeen, buffered}
use Rattle.r4_flush.specs.declared.cells.RenamedCell.{RenamedCell}
use Rattle.r4_turns.specs.Turns.{HasNext, IsScript, TurnsSeen, turn_at}
use Rattle.r4_renaming.specs.Renaming.{HaveNewNames, name_then, owner_then, turns_with_pins}

-- the cells in memory, the atoms, and the turns of the scripts
pub record Parts : Type 0 where
  pub buffer : BufferSeen
  pub atoms : AtomsSeen
  pub turns : TurnsSeen

-- A cell keeps its name, which is that of a block; or it had the number of a new cell, and gets the
-- name of a block under which no cell stands in memory, and which no atom owns.
abbrev pub MayGet : BufferSeen → AtomsSeen → RenamedCell → Type 0
MayGet b s r = ((r.was.0 ≡ (arc_value r.cell).id) × (r.was.0 < 2 ^ 63))
    ⊎ ((2 ^ 63 ≤ r.was.0) × ((arc_value r.cell).id < 2 ^ 63)
    × (buffered b (arc_value r.cell).id ≡ None) × (owner_of s (arc_value r.cell).id ≡ None))

-- The atom has at least one cell. Each of its cells stands in memory and is the atom's; no two have
-- one name, before or then; and each may get its new name. Where a task is out, its script has a
-- next command.
pub record CanRename (p : Parts) (atom : ℕ) (renamed : List RenamedCell) : Type 0 where
  pub is_atom : IsAtom p.atoms atom
  pub some : (r : RenamedCell) × Contains renamed r
  pub before : IsDistinct nat_eq (map (λ (r : RenamedCell). r.was.0) renamed)
  pub then : IsDistinct nat_eq (map (λ (r : RenamedCell). (arc_value r.cell).id) renamed)
  pub own : (r : RenamedCell) → Contains renamed r → owner_of p.atoms r.was.0 ≡ Some atom
  pub there : (r : RenamedCell) → Contains renamed r → IsSome (buffered p.buffer r.was.0)
  pub may : (r : RenamedCell) → Contains renamed r → MayGet p.buffer p.atoms r
  pub next : (s : ℕ) → IsScript p.turns s → IsSome (turn_at p.turns s).out → HasNext p.turns s

-- All of it has the new names: the cells in memory, with room for as many more as before at least;
-- the owners, of which these nodes are the atom's then; and what is kept for tasks. All else of the
-- atoms and the turns is as it was.
pub record HasNewNames
    (old new : Parts) (atom : ℕ) (renamed : List RenamedCell) (nodes : List NodeId) : Type 0
  where
    pub cells : HaveNewNames old.buffer new.buffer renamed
    pub places : old.buffer.spare ≤ new.buffer.spare
    pub txns : new.atoms.txns ≡ old.atoms.txns
    pub states : new.atoms.atoms ≡ old.atoms.atoms
    pub owners : (i : ℕ) → owner_of new.atoms i
        ≡ owner_then atom renamed i (owner_of old.atoms i)
    pub captures : new.atoms.spare ≡ old.atoms.spare
    pub begins : new.atoms.txn_spare ≡ old.atoms.txn_spare
    pub turns : new.turns ≡ turns_with_pins (name_then renamed) old.turns
    pub owned : (i : ℕ) → Contains (numbers nodes) i ↔ (owner_of new.atoms i ≡ Some atom)

-- All of it is as it was; but there may be more room in memory.
pub record StaysNamed (old new : Parts) : Type 0 where
  pub cells : (i : ℕ) → buffered new.buffer i ≡ buffered old.buffer i
  pub places : old.buffer.spare ≤ new.buffer.spare
  pub atoms : new.atoms ≡ old.atoms
  pub turns : new.turns ≡ old.turns
