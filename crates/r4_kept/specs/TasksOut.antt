-- Group E, the tasks that are out, on every image: what they were given, and the numbers that they
-- have (docs/volume.md, "Reach" and "Building").
use Rattle.std.specs.Prelude.{◌≡◌, ◌≢◌, ◌⊎◌, ◌++◌, ℕ, ◌+◌, ◌^◌, ◌<◌, ◌≤◌, ◌==◌, Contains, List}
use Rattle.std.specs.Prelude.{Option, Some, None, count_by, length, sum_by}
use Rattle.std.specs.Arc.{arc_value}
use Rattle.r4_history.specs.r4_atoms.Atoms.{owner_of}
use Rattle.r4_base.specs.Tree.{Name}
use Rattle.r4_base.specs.declared.things.NodeId.{NodeId}
use Rattle.r4_buffer.specs.Changed.{uses_of}
use Rattle.r4_buffer.specs.Seen.{EntrySeen, buffered}
use Rattle.r4_build.specs.Built.{IsBuildable}
use Rattle.r4_history.specs.r4_cell.Patch.{by_name, root_of_pair}
use Rattle.r4_history.specs.r4_cell.Seen.{CellSeen}
use Rattle.r4_history.specs.r4_cell.declared.change.Root.{Root}
use Rattle.r4_content.specs.Held.{pairs_of}
use Rattle.r4_content.specs.Meaning.{with_id}
use Rattle.r4_content.specs.declared.command.Command.{Command}
use Rattle.r4_history.specs.Drawn.{numbers_of}
use Rattle.r4_history.specs.Held.{IsOut}
use Rattle.r4_history.specs.Tables.{next_at}
use Rattle.r4_build.specs.r4_reach.Answer.{IsReachOf}
use Rattle.r4_suited.specs.Suited.{AreLawfulSeen}
use Rattle.r4_history.specs.r4_turns.Turns.{IsScript, turn_at}
use Rattle.r4_history.specs.r4_turns.declared.out.Numbers.{Numbers}
use Rattle.r4_history.specs.r4_turns.declared.out.Out.{Out}
use Rattle.r4_history.specs.r4_turns.declared.out.TheConstants.{MOST_NEW}
use Rattle.r4_history.specs.r4_turns.declared.turn.Turn.{Turn}
use Rattle.r4_kept.specs.Cells.{NamesAt}
use Rattle.r4_kept.specs.View.{CoreSeen}

-- ---- what a task was given

-- The cells that a reading met were a part of a tree with this root pair. There the command reaches
-- what the task reads and writes, and what was seen for it is lawful and goes out with the task. It may be
-- built there with the task's numbers, none of which stands or is named there. Where it reaches the root,
-- that is the root of the tree of all atoms now, which is given first. There is room for the cells
-- that it captures and that may come, and for a charge and its claims.
pub record IsGiven (tree : Root) (c : Command) (out : Out) : Type 0 where
  pub root : Root
  pub met : List CellSeen
  pub rises : Option Root
  pub reach : IsReachOf root c met out.reads out.writes rises
  pub seen : reach.seen ≡ pairs_of (arc_value out.seen)
  pub lawful : AreLawfulSeen c reach.seen
  pub kind : reach.in_extents ≡ out.scope.in_extents
  pub can : IsBuildable c reach.seen out.scope (by_name met) (root_of_pair root)
      out.numbers.fresh out.writes
  pub top : (x : CellSeen) → Contains (out.reads ++ out.writes) x → x.id ≡ root.id.0
      → root ≡ tree
  pub small : out.scope.most ≤ MOST_NEW
  pub cells : length out.writes + out.scope.most ≤ out.cells
  pub claims : length out.writes + 1 ≤ out.claims

-- ---- pins

-- how often a task keeps a node
abbrev pub pins_in : Option Out → (node : ℕ) → ℕ
pins_in None node = 0
pins_in (Some out) node = count_by (λ (n : NodeId). n.0 == node) out.pins

-- and how often all tasks that are out do
abbrev pub pins_on : List Turn → (node : ℕ) → ℕ
pins_on turns node = sum_by (λ (t : Turn). pins_in t.out node) turns

-- ---- numbers for new cells

-- they were drawn, from 2^63 on
pub record WereDrawn (next : ℕ) (n : Numbers) : Type 0 where
  pub least : 2 ^ 63 ≤ n.fresh.next
  pub rise : n.fresh.next ≤ n.fresh.end
  pub most : n.fresh.end ≤ next

-- no number is in both
abbrev pub AreApart : (n m : Numbers) → Type 0
AreApart n m = (n.fresh.end ≤ m.fresh.next) ⊎ (m.fresh.end ≤ n.fresh.next)

-- ---- the group

pub record AreOut {D : Type 0} (c : CoreSeen D) : Type 0 where
  -- a cell in memory is used no more often than tasks that are out keep it
  pub uses : (i : ℕ) → uses_of (buffered c.buffer i) ≤ pins_on c.turns.turns i
  -- the numbers of next commands were drawn, each for one command
  pub drawn : (s : ℕ) (n : Numbers) → IsScript c.turns s
      → numbers_of (turn_at c.turns s) ≡ Some n → WereDrawn c.numbers.next_name n
  pub apart : (s q : ℕ) (n m : Numbers) → IsScript c.turns s → IsScript c.turns q → s ≢ q
      → numbers_of (turn_at c.turns s) ≡ Some n → numbers_of (turn_at c.turns q) ≡ Some m
      → AreApart n m
  -- and no cell in memory has one of them
  pub unused : (s i : ℕ) (n : Numbers) (e : EntrySeen) → IsScript c.turns s
      → numbers_of (turn_at c.turns s) ≡ Some n → buffered c.buffer i ≡ Some e
      → n.fresh.next ≤ i → i < n.fresh.end → ⊥
  -- nor does one name such a number
  pub unnamed : (s i : ℕ) (n : Numbers) (m : Name) → IsScript c.turns s
      → numbers_of (turn_at c.turns s) ≡ Some n → NamesAt c.buffer i m
      → n.fresh.next ≤ m.id → m.id < n.fresh.end → ⊥
  -- nor has a cell that a task was given one
  pub unreached : (s q : ℕ) (n : Numbers) (out : Out) (x : CellSeen) → IsScript c.turns s
      → numbers_of (turn_at c.turns s) ≡ Some n → IsOut c.turns q out
      → Contains (out.reads ++ out.writes) x → n.fresh.next ≤ x.id → x.id < n.fresh.end → ⊥
  -- nor does an atom own one
  pub unowned : (s i : ℕ) (n : Numbers) → IsScript c.turns s
      → numbers_of (turn_at c.turns s) ≡ Some n → n.fresh.next ≤ i → i < n.fresh.end
      → owner_of c.atoms i ≡ None
  -- each task was given what its script's next command reaches, with the id that was drawn for it
  pub given : (s : ℕ) (out : Out) (x : Command) → IsOut c.turns s out
      → next_at c.turns s ≡ Some x → IsGiven c.tree (with_id out.numbers.oid x) out
