-- Commands after which something else is found than the laws say (r4_content, src/laws.rt).
use Rattle.std.specs.Prelude.{◌≡◌, ℕ, ◌+◌, ◌*◌, ◌^◌, List, [], ◌∷◌}
use Rattle.std.specs.FinMap.{from_sorted}
use Rattle.r4_base.specs.Value.{Content, Entry, Stat}
use Rattle.r4_base.specs.Volume.{root_object, stat_rank}
use Rattle.r4_base.specs.declared.items.Target.{Target}
use Rattle.r4_content.specs.Edited.{Pairs}
use Rattle.r4_content.specs.Examples.{at, below, d, e, f, id, made, x}
use Rattle.r4_content.specs.Meaning.{after, reply}
use Rattle.r4_content.specs.Objects.{entry_rank, new_directory, new_file, sized}
use Rattle.r4_content.specs.declared.command.Command.{Command}
use Rattle.r4_content.specs.declared.command.Command.TheVariants.{Create, Fill, Link, Mkdir, Read}
use Rattle.r4_content.specs.declared.command.Command.TheVariants.{Rename, Rmdir}
use Rattle.r4_content.specs.declared.command.Command.TheVariants.{Stat as Ask, Truncate, Unlink}
use Rattle.r4_content.specs.declared.command.Command.TheVariants.{Write}
use Rattle.r4_content.specs.declared.reply.Reply.{Reply}
use Rattle.r4_content.specs.declared.reply.Reply.TheVariants.{Okay, Absent, Attr as Has, Notdir}

-- bytes are written, and the file is not found
abbrev pub lost_by_write : List (List ℕ) → List (Command × Reply)
lost_by_write path = (Write path 0 x, Okay) ∷ (Read path 0 1, Absent) ∷ []

abbrev pub lost_by_fill : List (List ℕ) → List (Command × Reply)
lost_by_fill path = (Fill path 0 1 7, Okay) ∷ (Read path 0 1, Absent) ∷ []

abbrev pub lost_by_truncate : List (List ℕ) → (size : ℕ) → List (Command × Reply)
lost_by_truncate path size = (Truncate path size, Okay) ∷ (Ask path, Absent) ∷ []

abbrev pub lost_by_create : List (List ℕ) → List (Command × Reply)
lost_by_create path = (Create path (id 65537), Okay) ∷ (Ask path, Absent) ∷ []

abbrev pub lost_by_mkdir : List (List ℕ) → List (Command × Reply)
lost_by_mkdir path = (Mkdir path (id 65537), Okay) ∷ (Ask path, Absent) ∷ []

-- a file goes, and with it the root
abbrev pub root_lost : List (Command × Reply)
root_lost = (Unlink (below d f), Okay) ∷ (Ask (below d f), Notdir) ∷ []

-- ---- numbers past their fields

-- a file f whose first byte has the key of its entry, since its ordering has more than 64 bits
abbrev pub over_entry : Target
over_entry = record { locality = 41; ordering = 12 * 2 ^ 64 + 102 * 2 ^ 48; oid = id 0 }

abbrev pub byte_over_entry : Pairs
byte_over_entry =
    (stat_rank root_object, Stat (sized new_directory 1))
    ∷ (stat_rank over_entry, Stat new_file)
    ∷ (entry_rank root_object f, Entry f over_entry)
    ∷ []

-- a file f in a directory d, of 2^196 bytes: among their keys is that of its entry
abbrev pub deep : (size : ℕ) → Pairs
deep size =
    (stat_rank root_object, Stat (record (sized new_directory 1) { nlink = 3 }))
    ∷ (entry_rank root_object d, Entry d (made d 43))
    ∷ (stat_rank (made d 43), Stat (sized new_directory 1))
    ∷ (stat_rank (made f 65536), Stat (sized new_file size))
    ∷ (entry_rank (made d 43) f, Entry f (made f 65536))
    ∷ []

-- a file that stands before the root, with this size
abbrev pub before_root : Target → (size : ℕ) → Pairs
before_root o size =
    (stat_rank o, Stat (sized new_file size))
    ∷ (stat_rank root_object, Stat (record (sized new_directory 1) { nlink = 3 }))
    ∷ (entry_rank root_object d, Entry d (made d 43))
    ∷ (stat_rank (made d 43), Stat (sized new_directory 1))
    ∷ (entry_rank (made d 43) f, Entry f o)
    ∷ []

-- among the keys of many bytes is that of the root's stat data
abbrev pub low_file : Target
low_file = record { locality = 40; ordering = 0; oid = id 65536 }

-- the key of its first byte is that of the root's stat data, since its ordering has more than 64
-- bits
abbrev pub over_root : Target
over_root = record { locality = 40; ordering = 13 * 2 ^ 64; oid = id 42 }

-- a directory d whose stat data have the key of the name x in the directory e below it, since its
-- ordering has more than 64 bits
abbrev pub over_name : Target
over_name = record { locality = 42; ordering = 15 * 2 ^ 64 + 120 * 2 ^ 48; oid = id 0 }

abbrev pub low_directory : Target
low_directory = record { locality = 0; ordering = 101 * 2 ^ 48; oid = id 43 }

abbrev pub stat_over_name : Pairs
stat_over_name =
    (entry_rank over_name e, Entry e low_directory)
    ∷ (stat_rank low_directory, Stat new_directory)
    ∷ (stat_rank root_object, Stat (record (sized new_directory 1) { nlink = 3 }))
    ∷ (entry_rank root_object d, Entry d over_name)
    ∷ (stat_rank over_name, Stat (record (sized new_directory 1) { nlink = 3 }))
    ∷ []

abbrev pub far_below : List (List ℕ)
far_below = d ∷ e ∷ x ∷ []

-- ---- names that are no lists of bytes

-- a name whose key in the root is that of the first byte of the file that it names
abbrev pub name_of_byte : List ℕ
name_of_byte = (4 * 65536 + 102) ∷ []

abbrev pub named_as_byte : Pairs
named_as_byte =
    (stat_rank root_object, Stat (sized new_directory 1))
    ∷ (stat_rank (made f 0), Stat new_file)
    ∷ (entry_rank root_object name_of_byte, Entry name_of_byte (made f 0))
    ∷ []

-- a name whose key in the directory d of id 0 is that of the stat data of d
abbrev pub name_of_stat : List ℕ
name_of_stat = (673 * 65536 + 100) ∷ []

abbrev pub first_directory : Pairs
first_directory =
    (stat_rank root_object, Stat (record (sized new_directory 1) { nlink = 3 }))
    ∷ (entry_rank root_object d, Entry d (made d 0))
    ∷ (stat_rank (made d 0), Stat new_directory)
    ∷ []

-- ---- ids in use

-- the new file takes the stat data of a directory on its way, which was made where it is made
abbrev pub used_id_run : List (Command × Reply)
used_id_run =
    (Mkdir (at d) (id 65536), Okay)
    ∷ (Mkdir (below d x) (id 65537), Okay)
    ∷ (Rename (below d x) (at e), Okay)
    ∷ (Rename (at d) (below e d), Okay)
    ∷ (Create (e ∷ d ∷ x ∷ []) (id 65537), Okay)
    ∷ (Ask (e ∷ d ∷ x ∷ []), Notdir)
    ∷ []

-- a directory whose locality is its own id: what is made in it of this id is itself
abbrev pub own_locality : Target
own_locality = record { locality = 65536; ordering = 120 * 2 ^ 48; oid = id 65536 }

abbrev pub in_itself : Pairs
in_itself =
    (stat_rank root_object, Stat (record (sized new_directory 1) { nlink = 3 }))
    ∷ (entry_rank root_object d, Entry d own_locality)
    ∷ (stat_rank own_locality, Stat new_directory)
    ∷ []

abbrev pub own_id_run : List (Command × Reply)
own_id_run =
    (Mkdir (below d x) (id 65536), Okay)
    ∷ (Ask (below d x), Has (record (sized new_directory 1) { nlink = 3 }))
    ∷ []

-- ---- sizes past 64 bits

-- the command is done, and what is asked then is absent
abbrev pub LosesFile : (limit : ℕ) → (done asked : Command) → Content → Type 0
LosesFile limit done asked m = (reply limit done m ≡ Okay)
    × (reply limit asked (after limit done m) ≡ Absent)

abbrev pub far : ℕ
far = 2 ^ 196

abbrev pub deep_file : Content
deep_file = from_sorted (deep 0)

-- ---- further names, and directories that go

-- a directory d of id 0, and a file f beside it
abbrev pub named_beside : Pairs
named_beside =
    (stat_rank root_object, Stat (record (sized new_directory 2) { nlink = 3 }))
    ∷ (entry_rank root_object d, Entry d (made d 0))
    ∷ (entry_rank root_object f, Entry f (made f 65536))
    ∷ (stat_rank (made d 0), Stat new_directory)
    ∷ (stat_rank (made f 65536), Stat new_file)
    ∷ []

abbrev pub lost_by_link : List (Command × Reply)
lost_by_link = (Ask (at f), Has new_file) ∷ (Link (at f) (d ∷ name_of_stat ∷ []), Okay)
    ∷ (Ask (d ∷ name_of_stat ∷ []), Absent) ∷ []

-- a name whose key is none of the root's names of bytes
abbrev pub name_beside : List ℕ
name_beside = (2 * 65536 + 100) ∷ []

-- a root whose one entry has this name, and names a directory with an entry x that names the root
abbrev pub hidden_root : Pairs
hidden_root =
    (stat_rank root_object, Stat (record (sized new_directory 1) { nlink = 3 }))
    ∷ (stat_rank (made d 43), Stat (record (sized new_directory 1) { nlink = 3 }))
    ∷ (entry_rank root_object name_beside, Entry name_beside (made d 43))
    ∷ (entry_rank (made d 43) x, Entry x root_object)
    ∷ []

abbrev pub lost_by_rmdir : List (Command × Reply)
lost_by_rmdir =
    (Rmdir (name_beside ∷ x ∷ []), Okay) ∷ (Ask (name_beside ∷ x ∷ []), Notdir) ∷ []
