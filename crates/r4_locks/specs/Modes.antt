-- Modes of holds, and how a hold that comes or goes changes who holds a node.
use Rattle.std.specs.Prelude.{◌+◌, ◌-◌, ◌<◌, nat_lt, Option, Some, None, Bool, true, false, if◌then◌else◌}
use Rattle.r4_base.specs.declared.things.TaskId.{TaskId}
use Rattle.r4_locks.specs.declared.things.Mode.{Mode}
use Rattle.r4_locks.specs.declared.things.Mode.TheVariants.{Reads, Writes}
use Rattle.r4_locks.specs.declared.things.Held.{Held}
use Rattle.r4_locks.specs.declared.things.Held.TheVariants.{Free, Read, Write}

-- whether a hold in this mode stands in the way of another task: any where writing is wanted, writing where reading is
abbrev pub conflicts : (wanted : Mode) → Option Mode → Bool
conflicts wanted None = false
conflicts Writes (Some mode) = true
conflicts Reads (Some Reads) = false
conflicts Reads (Some Writes) = true

-- a task that reads a node and writes it writes it
abbrev pub joined : Option Mode → (wanted : Mode) → Mode
joined None wanted = wanted
joined (Some Reads) wanted = wanted
joined (Some Writes) wanted = Writes

-- whether it is reading, and whether it is writing
abbrev pub is_reading : Option Mode → Bool
is_reading None = false
is_reading (Some Reads) = true
is_reading (Some Writes) = false

abbrev pub is_writing : Option Mode → Bool
is_writing None = false
is_writing (Some Reads) = false
is_writing (Some Writes) = true

-- a task that held the node in this mode takes it
abbrev pub held_with : TaskId → Option Mode → (wanted : Mode) → Held → Held
held_with who mode Writes held = Write who
held_with who (Some mode) Reads held = held
held_with who None Reads Free = Read 1
held_with who None Reads (Read tasks) = Read (tasks + 1)
held_with who None Reads (Write by) = Write by

-- one reader more can be counted
abbrev pub IsCountable : Held → Option Mode → Type 0
IsCountable Free mode = Unit {0}
IsCountable (Read tasks) None = tasks < 4294967295
IsCountable (Read tasks) (Some mode) = Unit {0}
IsCountable (Write by) mode = Unit {0}

-- a task that held the node in this mode lets it go
abbrev pub left_of : Mode → Held → Held
left_of Writes held = Free
left_of Reads Free = Free
left_of Reads (Read tasks) = if nat_lt 1 tasks then Read (tasks - 1) else Free
left_of Reads (Write by) = Free

-- a task that held the node in this mode, or did not hold it, is gone
abbrev pub freed : Option Mode → Held → Held
freed None held = held
freed (Some mode) held = left_of mode held
