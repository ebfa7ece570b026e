-- A command goes out as the task that is given this.
use Rattle.std.proofs.Common.{◌≡◌, ℕ, ◌+◌, List, None, length, ◌∙◌, ap}
use Rattle.std.proofs.lemmas.List.{length-map}
use Rattle.std.specs.Arc.{arc_value}
use Rattle.std.specs.declared.sync.Arc as arc_declared
use Rattle.std.specs.Global.{Global}
use Rattle.r4_base.specs.declared.things.NodeId.{NodeId}
use Rattle.r4_base.specs.declared.things.TaskId.{TaskId}
use Rattle.r4_buffer.specs.Changed.{in_turn, used}
use Rattle.r4_buffer.specs.Seen.{BufferSeen, buffered, cells_of}
use Rattle.r4_cell.specs.Seen.{CellSeen}
use Rattle.r4_core.specs.Handing.{as_task}
use Rattle.r4_core.specs.declared.handing.Given.{Given}
use Rattle.r4_others.specs.r4_history.Held.{HoldsNew, names_of}
use Rattle.r4_locks.specs.Locks.{LocksSeen, TakesNew, mode_with}
use Rattle.r4_locks.specs.declared.things.Mode.TheVariants.{Reads, Writes}
use Rattle.r4_turns.specs.Turns.{TurnsSeen, gone_out}
use Rattle.r4_turns.specs.declared.out.Out.{Out}
use Rattle.r4_ready.specs.r4_kept.View.{CoreSeen}
use Rattle.r4_ready.specs.r4_kept.declared.parts.Numbers.{Numbers as Next}
use Rattle.r4_ready.specs.r4_taking.GoingOut.{HasGoneOut}

pub as_many : (items : List (arc_declared.Arc CellSeen Global)) → length (cells_of items) ≡ length items
as_many items = length-map items (λ c. arc_value c)

pub holds_new : (old new : LocksSeen) (given : Given) (task : TaskId) (reads writes : List NodeId)
    → reads ≡ names_of given.reads → writes ≡ names_of given.writes → TakesNew old new task.0 reads writes
    → HoldsNew old new (as_task given task)
holds_new old new given task reads writes are_reads are_writes h = record {
  unused = h.unused;
  holds = record {
    stands = h.stands;
    modes = λ node. h.modes node
        ∙ ap (λ (l : List NodeId). mode_with Reads l node (mode_with Writes writes node None)) are_reads
        ∙ ap (λ (l : List NodeId). mode_with Reads (names_of given.reads) node (mode_with Writes l node None))
        are_writes;
  };
  others = h.others;
}

pub has_gone_out : {D : Type 0} (c : CoreSeen D) (s : ℕ) (out : Out) (met : List CellSeen) (turns : TurnsSeen)
    (locks : LocksSeen) (buffer : BufferSeen) (next : Next) → turns ≡ gone_out c.turns s out
    → HoldsNew c.locks locks out → ((i : ℕ) → buffered buffer i ≡ in_turn used met i (buffered c.buffer i))
    → buffer.spare + length met ≡ c.buffer.spare
    → HasGoneOut c (record c { turns = turns; locks = locks; buffer = buffer; numbers = next }) s out met
has_gone_out c s out met turns locks buffer next are_turns holds cells room = record {
  holds = holds;
  cells = cells;
  room = room;
  same = ap (λ (t : TurnsSeen). record c { turns = t; locks = locks; buffer = buffer; numbers = next }) are_turns;
}
