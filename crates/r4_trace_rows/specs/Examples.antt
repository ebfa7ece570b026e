-- Small traces and their jobs, each the oldest entry first (docs/traces.md).
use Rattle.std.specs.Prelude.{ℕ, List, [], ◌∷◌, codes, reverse, Some}
use Rattle.std.specs.FinMap.{from_sorted}
use Rattle.r4_base.specs.Value.{Stat, Entry as NameEntry, Byte}
use Rattle.r4_base.specs.Volume.{byte_rank, empty_volume, root_object, stat_rank}
use Rattle.r4_content.specs.Edited.{Pairs}
use Rattle.r4_content.specs.Examples.{made}
use Rattle.r4_content.specs.Locality.{commands as commands_mean}
use Rattle.r4_content.specs.Meaning.{greatest_size}
use Rattle.r4_content.specs.Objects.{entry_rank, new_directory, new_file, sized}
use Rattle.r4_content.specs.declared.command.Command.{Command}
use Rattle.r4_content.specs.declared.command.Command.TheVariants as commands
use Rattle.r4_content.specs.declared.reply.Reply.{Reply}
use Rattle.r4_content.specs.declared.reply.Reply.TheVariants.{Okay, Attr as Has, Reopen}
use Rattle.r4_trace.specs.declared.entry.Entry.{Entry}
use Rattle.r4_trace.specs.declared.entry.Entry.TheVariants.{Begin, Fuse, Done, Refused, Ended, Sealed, Committed, Acked, Broken}
use Rattle.r4_trace.specs.Traced.{broken_at}
use Rattle.r4_trace.specs.Order.{IsOrdered, MayComeNow, MayFollow}
use Rattle.r4_trace.specs.Job.{Asked}
use Rattle.r4_trace.specs.Ids.{Start}
use Rattle.r4_trace.specs.Legal.{IsLegal, IsLegalSoFar}

-- ---- entries by their numbers

abbrev pub begins : (txn script : ℕ) → Entry
begins t s = Begin (record { 0 = t }) (record { 0 = s })

abbrev pub fuses : (kept gone node : ℕ) → Entry
fuses a b n = Fuse (record { 0 = a }) (record { 0 = b }) (record { 0 = n })

abbrev pub done : (txn script index : ℕ) → Command → Reply → Entry
done t s i c r = Done (record { 0 = t }) (record { 0 = s }) i c r

abbrev pub refused : (txn script index : ℕ) → Reply → Entry
refused t s i r = Refused (record { 0 = t }) (record { 0 = s }) i r

abbrev pub ends : (txn : ℕ) → Entry
ends t = Ended (record { 0 = t })

abbrev pub seals : (atom : ℕ) → Entry
seals a = Sealed (record { 0 = a })

abbrev pub commits : (atom clock : ℕ) → Entry
commits a c = Committed (record { 0 = a }) c

abbrev pub acks : (script txn clock : ℕ) → Entry
acks s t c = Acked (record { 0 = s }) (record { 0 = t }) c

-- ---- commands

abbrev pub at : List ℕ → List (List ℕ)
at n = n ∷ []

abbrev pub a : List (List ℕ)
a = at (codes "a")

abbrev pub create : List (List ℕ) → ℕ → Command
create p n = commands.Create p (record { 0 = n })

abbrev pub mkdir : List (List ℕ) → ℕ → Command
mkdir p n = commands.Mkdir p (record { 0 = n })

abbrev pub write : List (List ℕ) → ℕ → List ℕ → Command
write p n text = commands.Write p n text

-- The trace, the oldest entry first, is legal for the start and the job.
abbrev pub IsLegalFor : Start → Asked → List Entry → Type 0
IsLegalFor start job trace =
    IsLegal (commands_mean greatest_size) (Some start) (Some job) (reverse trace)

abbrev pub IsLegalSoFarFor : Start → Asked → List Entry → Type 0
IsLegalSoFarFor start job trace =
    IsLegalSoFar (commands_mean greatest_size) (Some start) (Some job) (reverse trace)

-- a fresh volume, which has no object of an id from 65536 on
abbrev pub fresh : Start
fresh = record { content = empty_volume; next_id = 65536 }

-- ---- two scripts, whose atoms become one, and one of which waits for the other

abbrev pub making : List Command
making =
    commands.Begin ∷ create a 0 ∷ write a 0 (codes "x") ∷ write a 1 (codes "y") ∷ commands.End ∷ []

abbrev pub asking : List Command
asking = commands.Begin ∷ commands.Stat a ∷ commands.End ∷ commands.Commit ∷ []

abbrev pub waiting_job : Asked
waiting_job = making ∷ asking ∷ []

abbrev pub waiting : List Entry
waiting =
    begins 1 1
    ∷ begins 2 2
    ∷ done 1 1 2 (create a 65536) Okay
    ∷ fuses 1 2 23
    ∷ done 2 2 2 (commands.Stat a) (Has new_file)
    ∷ done 1 1 3 (write a 0 (codes "x")) Okay
    ∷ ends 2
    ∷ done 1 1 4 (write a 1 (codes "y")) Okay
    ∷ ends 1
    ∷ seals 1
    ∷ commits 1 12
    ∷ acks 2 2 16
    ∷ []

-- ---- two scripts that need nothing of each other: two files of two bytes

abbrev pub b : List (List ℕ)
b = at (codes "b")

abbrev pub c : List (List ℕ)
c = at (codes "c")

abbrev pub two_files : Pairs
two_files =
    (stat_rank root_object, Stat (sized new_directory 2))
    ∷ (entry_rank root_object (codes "a"), NameEntry (codes "a") (made (codes "a") 65536))
    ∷ (entry_rank root_object (codes "b"), NameEntry (codes "b") (made (codes "b") 65537))
    ∷ (stat_rank (made (codes "a") 65536), Stat (sized new_file 2))
    ∷ (stat_rank (made (codes "b") 65537), Stat (sized new_file 2))
    ∷ (byte_rank (made (codes "a") 65536) 0, Byte 49)
    ∷ (byte_rank (made (codes "a") 65536) 1, Byte 50)
    ∷ (byte_rank (made (codes "b") 65537) 0, Byte 51)
    ∷ (byte_rank (made (codes "b") 65537) 1, Byte 52)
    ∷ []

abbrev pub with_files : Start
with_files = record { content = from_sorted two_files; next_id = 65538 }

abbrev pub apart_job : Asked
apart_job =
    (write a 0 (codes "XY") ∷ commands.Commit ∷ [])
    ∷ (write b 0 (codes "XY") ∷ commands.Commit ∷ [])
    ∷ []

abbrev pub apart : List Entry
apart =
    begins 1 1
    ∷ done 1 1 1 (write a 0 (codes "XY")) Okay
    ∷ ends 1
    ∷ begins 2 2
    ∷ done 2 2 1 (write b 0 (codes "XY")) Okay
    ∷ ends 2
    ∷ seals 1
    ∷ commits 1 12
    ∷ acks 1 1 16
    ∷ seals 2
    ∷ commits 2 28
    ∷ acks 2 2 32
    ∷ []

-- ---- work goes on while an atom is committed

abbrev pub captured_job : Asked
captured_job = (create a 0 ∷ commands.Commit ∷ []) ∷ (commands.Stat [] ∷ create b 0 ∷ []) ∷ []

abbrev pub captured : List Entry
captured =
    begins 1 1
    ∷ done 1 1 1 (create a 65536) Okay
    ∷ ends 1
    ∷ begins 2 2
    ∷ fuses 1 2 23
    ∷ done 2 2 1 (commands.Stat []) (Has (sized new_directory 1))
    ∷ ends 2
    ∷ seals 1
    ∷ begins 3 2
    ∷ done 3 2 2 (create b 65537) Okay
    ∷ ends 3
    ∷ commits 1 12
    ∷ acks 1 1 16
    ∷ seals 3
    ∷ commits 3 28
    ∷ []

-- ---- a sync fails

abbrev pub failing_job : Asked
failing_job = (create a 0 ∷ commands.Commit ∷ commands.Stat [] ∷ []) ∷ []

abbrev pub failing : List Entry
failing =
    begins 1 1
    ∷ done 1 1 1 (create a 65536) Okay
    ∷ ends 1
    ∷ seals 1
    ∷ Broken 8 1
    ∷ refused 0 1 2 (Reopen 8)
    ∷ refused 0 1 3 (Reopen 8)
    ∷ []

-- ---- a sync fails while the commands of two other scripts are at work

abbrev pub failing_work_job : Asked
failing_work_job =
    (create c 0 ∷ [])
    ∷ (write a 0 (codes "XY") ∷ [])
    ∷ (write b 0 (codes "XY") ∷ [])
    ∷ []

abbrev pub failing_work : List Entry
failing_work =
    begins 1 1
    ∷ done 1 1 1 (create c 65536) Okay
    ∷ ends 1
    ∷ seals 1
    ∷ begins 2 2
    ∷ begins 3 3
    ∷ Broken 7 1
    ∷ refused 0 2 1 (Reopen 7)
    ∷ refused 0 3 1 (Reopen 7)
    ∷ []

-- ---- single commands of one script

abbrev pub etc : List (List ℕ)
etc = at (codes "etc")

abbrev pub hosts : List (List ℕ)
hosts = codes "etc" ∷ codes "hosts" ∷ []

abbrev pub local : List ℕ
local = codes "127.0.0.1 localhost"

abbrev pub usual_job : Asked
usual_job =
    (mkdir etc 0 ∷ create hosts 0 ∷ write hosts 0 local ∷ commands.Commit ∷ []) ∷ []

abbrev pub usual : List Entry
usual =
    begins 1 1
    ∷ done 1 1 1 (mkdir etc 65536) Okay
    ∷ ends 1
    ∷ begins 2 1
    ∷ fuses 1 2 23
    ∷ done 2 1 2 (create hosts 65537) Okay
    ∷ ends 2
    ∷ begins 3 1
    ∷ fuses 1 3 23
    ∷ done 3 1 3 (write hosts 0 local) Okay
    ∷ ends 3
    ∷ seals 1
    ∷ commits 1 12
    ∷ acks 1 3 16
    ∷ []

-- ---- a script ends inside of its transaction, which ends later

abbrev pub inside_job : Asked
inside_job = (commands.Begin ∷ create a 0 ∷ []) ∷ (commands.Stat [] ∷ []) ∷ []

abbrev pub inside : List Entry
inside =
    begins 1 1
    ∷ begins 2 2
    ∷ done 2 2 1 (commands.Stat []) (Has new_directory)
    ∷ ends 2
    ∷ fuses 1 2 23
    ∷ done 1 1 2 (create a 65536) Okay
    ∷ ends 1
    ∷ seals 1
    ∷ commits 1 12
    ∷ []

-- ---- traces whose last entry may not follow

-- All but the newest entry is in order, and this one may not follow.
abbrev pub MayNotFollow : List Entry → Type 0
MayNotFollow [] = ⊥
MayNotFollow (e ∷ older) = IsOrdered older × (MayFollow older e → ⊥)

-- It might follow, did not a call of the device fail before.
abbrev pub ComesTooLate : List Entry → Type 0
ComesTooLate [] = ⊥
ComesTooLate (e ∷ older) =
    IsOrdered older × MayFollow older e × (MayComeNow (broken_at older) e → ⊥)

-- one command is done and its atom sealed
abbrev pub one_sealed : List Entry → List Entry
one_sealed more =
    begins 1 1 ∷ done 1 1 1 (create a 65536) Okay ∷ ends 1 ∷ seals 1 ∷ more

-- an atom is sealed while its transaction is open
abbrev pub seals_open : List Entry
seals_open = begins 1 1 ∷ done 1 1 2 (create a 65536) Okay ∷ seals 1 ∷ []

-- an atom is sealed that has no transaction
abbrev pub seals_none : List Entry
seals_none = seals 0 ∷ []

-- an atom is sealed before an earlier one is committed
abbrev pub seals_two : List Entry
seals_two = begins 1 1 ∷ ends 1 ∷ begins 2 2 ∷ ends 2 ∷ seals 1 ∷ seals 2 ∷ []

-- of two atoms that become one the larger is kept
abbrev pub keeps_the_larger : List Entry
keeps_the_larger = begins 1 1 ∷ begins 2 2 ∷ fuses 2 1 23 ∷ []

-- an atom that became one with another still stands for itself
abbrev pub keeps_the_gone : List Entry
keeps_the_gone =
    begins 1 1 ∷ begins 2 2 ∷ begins 3 3 ∷ fuses 1 2 23 ∷ fuses 2 3 23 ∷ []

-- a command is done in the transaction of another script
abbrev pub does_for_another : List Entry
does_for_another =
    begins 1 1 ∷ begins 2 2 ∷ done 2 1 1 (commands.Stat []) (Has new_directory) ∷ []

-- a script begins while a transaction of it is open
abbrev pub begins_twice : List Entry
begins_twice = begins 1 1 ∷ begins 2 1 ∷ []

-- a number is left out
abbrev pub begins_the_third : List Entry
begins_the_third = begins 1 1 ∷ begins 3 2 ∷ []

-- a transaction ends twice
abbrev pub ends_twice : List Entry
ends_twice = begins 1 1 ∷ ends 1 ∷ ends 1 ∷ []

-- acknowledged before it is committed
abbrev pub acks_early : List Entry
acks_early = one_sealed (acks 1 1 12 ∷ [])

-- another atom than the sealed one is committed
abbrev pub commits_another : List Entry
commits_another = begins 1 1 ∷ ends 1 ∷ begins 2 2 ∷ ends 2 ∷ seals 1 ∷ commits 2 12 ∷ []

-- a clock falls
abbrev pub clock_falls : List Entry
clock_falls = one_sealed (commits 1 12 ∷ acks 1 1 11 ∷ [])

-- an atom is committed after a call failed
abbrev pub commits_broken : List Entry
commits_broken = one_sealed (Broken 8 1 ∷ commits 1 12 ∷ [])

-- ---- traces in order that are not legal for their job or their start

abbrev pub stat_job : Asked
stat_job = (commands.Stat [] ∷ []) ∷ []

abbrev pub two_stats_job : Asked
two_stats_job = (commands.Stat [] ∷ commands.Stat [] ∷ []) ∷ []

-- the second command of a script is answered first
abbrev pub skips : List Entry
skips = begins 1 1 ∷ done 1 1 2 (commands.Stat []) (Has new_directory) ∷ ends 1 ∷ []

-- the transaction of a single command does not end
abbrev pub stays_open : List Entry
stays_open = begins 1 1 ∷ done 1 1 1 (mkdir etc 65536) Okay ∷ []

-- one id is drawn twice
abbrev pub draws_twice : List Entry
draws_twice =
    begins 1 1
    ∷ done 1 1 1 (mkdir etc 65536) Okay
    ∷ ends 1
    ∷ begins 2 1
    ∷ done 2 1 2 (create hosts 65536) Okay
    ∷ ends 2
    ∷ []

-- the reply is another one
abbrev pub other_reply : List Entry
other_reply = begins 1 1 ∷ done 1 1 1 (commands.Stat []) Okay ∷ ends 1 ∷ []
