-- Small contents, and commands that are done to them one after another, each with its reply
-- (docs/commands.md, "Examples").
use Rattle.std.specs.Prelude.{◌≡◌, ℕ, ◌+◌, ◌-◌, ◌^◌, List, [], ◌∷◌, codes, map, slice_index}
use Rattle.r4_base.specs.Name.{key_of_name}
use Rattle.r4_base.specs.Value.{Content, Stat, Entry, Byte}
use Rattle.r4_base.specs.Volume.{byte_rank, objects_in, root_object, stat_rank}
use Rattle.r4_base.specs.declared.items.Attr.{Attr}
use Rattle.r4_base.specs.declared.items.Target.{Target}
use Rattle.r4_base.specs.declared.things.Oid.{Oid}
use Rattle.r4_content.specs.Counts.{born, counts, gone}
use Rattle.r4_content.specs.Edited.{Intervals, Pairs}
use Rattle.r4_content.specs.Meaning.{after, greatest_size, replies}
use Rattle.r4_content.specs.Objects.{entry_rank, new_directory, new_file, sized}
use Rattle.r4_content.specs.declared.command.Command.{Command}
use Rattle.r4_content.specs.declared.command.Command.TheVariants.{Create, Mkdir, Write, Fill}
use Rattle.r4_content.specs.declared.command.Command.TheVariants.{Truncate, Read, Stat as Ask}
use Rattle.r4_content.specs.declared.command.Command.TheVariants.{Names, Link, Unlink, Rmdir}
use Rattle.r4_content.specs.declared.command.Command.TheVariants.{Rename, Chmod, Chown, Times}
use Rattle.r4_content.specs.declared.command.Command.TheVariants.{Begin, End, Commit}
use Rattle.r4_content.specs.declared.reply.Reply.{Reply}
use Rattle.r4_content.specs.declared.reply.Reply.TheVariants.{Okay, Data, Attr as Has}
use Rattle.r4_content.specs.declared.reply.Reply.TheVariants.{Names as Lists, Name as NoName}
use Rattle.r4_content.specs.declared.reply.Reply.TheVariants.{Notdir, Absent, Exists, Clash, Oids}
use Rattle.r4_content.specs.declared.reply.Reply.TheVariants.{Links, Isdir, Toobig, Loop, Notempty}

-- the commands, one after another, get these replies
abbrev pub GetReplies : (limit : ℕ) → Content → List (Command × Reply) → Type 0
GetReplies limit m run = replies limit (map (λ d. d.0) run) m ≡ map (λ d. d.1) run

-- the commands, one after another, make and take away so many objects
abbrev pub GetCounts : (limit : ℕ) → Content → List (Command × (ℕ × ℕ)) → Type 0
GetCounts limit m run = counts limit (map (λ d. d.0) run) m ≡ map (λ d. d.1) run

abbrev pub id : ℕ → Oid
id n = record { 0 = n }

abbrev pub root : List (List ℕ)
root = []

-- a name in the root, and one in a directory of it
abbrev pub at : List ℕ → List (List ℕ)
at n = n ∷ []

abbrev pub below : (dir name : List ℕ) → List (List ℕ)
below dir n = dir ∷ n ∷ []

abbrev pub a : List ℕ
a = codes "a"

abbrev pub d : List ℕ
d = codes "d"

abbrev pub e : List ℕ
e = codes "e"

abbrev pub f : List ℕ
f = codes "f"

abbrev pub x : List ℕ
x = codes "x"

-- ---- on the empty volume

-- two names of one key
abbrev pub clash_run : List (Command × Reply)
clash_run =
    (Create (at (codes "aaaaaaaaaaaaaaaxxxxxxxca")) (id 65536), Okay)
    ∷ (
      Create (at (codes "aaaaaaaaaaaaaaaxxxxxxxbl")) (id 65537),
      Clash
          (codes "aaaaaaaaaaaaaaaxxxxxxxca"),
    )
    ∷ (Ask (at (codes "aaaaaaaaaaaaaaaxxxxxxxbl")), Absent)
    ∷ []

-- where several refusals are due, and where nothing changes
abbrev pub ties_run : List (Command × Reply)
ties_run =
    (Mkdir (at d) (id 65536), Okay)
    ∷ (Create (below d f) (id 65537), Okay)
    ∷ (Rename (below d f) (below d f), Okay)
    ∷ (Rename (at d) (below d x), Loop)
    ∷ (Rename (at d) (at d), Okay)
    ∷ (Mkdir (at e) (id 65538), Okay)
    ∷ (Rename (at e) (at d), Notempty)
    ∷ (Rename (at d) root, Loop)
    ∷ (Rmdir root, Loop)
    ∷ (Unlink root, Isdir)
    ∷ (Mkdir root (id 65539), Exists)
    ∷ (Unlink (at d), Isdir)
    ∷ (Rmdir (at d), Notempty)
    ∷ (Rmdir (below d f), Notdir)
    ∷ (Names (below d f), Notdir)
    ∷ (Create (d ∷ f ∷ x ∷ []) (id 65539), Notdir)
    ∷ (Ask (at (codes "q")), Absent)
    ∷ (Mkdir (at d) (id 65539), Exists)
    ∷ (Create (at (codes "..")) (id 65539), NoName)
    ∷ (Link (at d) (at (codes "a/b")), NoName)
    ∷ (Link (at d) (at a), Isdir)
    ∷ (Create (at a) (id (2 ^ 60 - 1)), Oids)
    ∷ (Create (at d) (id (2 ^ 60 - 1)), Exists)
    ∷ []

-- bytes, gaps, links and names
abbrev pub bytes_run : List (Command × Reply)
bytes_run =
    (Create (at f) (id 65536), Okay)
    ∷ (Write (at f) 2 (codes "xy"), Okay)
    ∷ (Read (at f) 0 9, Data (0 ∷ 0 ∷ 120 ∷ 121 ∷ []))
    ∷ (Truncate (at f) 3, Okay)
    ∷ (Truncate (at f) 5, Okay)
    ∷ (Read (at f) 1 9, Data (0 ∷ 120 ∷ 0 ∷ 0 ∷ []))
    ∷ (Fill (at f) 1 2 7, Okay)
    ∷ (Read (at f) 0 9, Data (0 ∷ 7 ∷ 7 ∷ 0 ∷ 0 ∷ []))
    ∷ (Write (at f) 99 [], Okay)
    ∷ (Read (at f) 5 1, Data [])
    ∷ (Link (at f) (at a), Okay)
    ∷ (Rename (at a) (at f), Okay)
    ∷ (Names root, Lists (a ∷ f ∷ []))
    ∷ (Chmod (at f) 0o7777, Okay)
    ∷ (Chown (at f) 1 2, Okay)
    ∷ (Times (at f) 3 4 5, Okay)
    ∷ (Unlink (at f), Okay)
    ∷ (
      Ask (at a),
      Has
          (record {
            mode = 0o107777;
            nlink = 1;
            size = 5;
            uid = 1;
            gid = 2;
            atime = 3;
            mtime = 4;
            ctime = 5;
            bytes = 5;
          }),
    )
    ∷ (Unlink (at a), Okay)
    ∷ (Names root, Lists [])
    ∷ (Ask root, Has new_directory)
    ∷ []

-- directories and files that move onto others
abbrev pub moves_run : List (Command × Reply)
moves_run =
    (Mkdir (at d) (id 65536), Okay)
    ∷ (Mkdir (at e) (id 65537), Okay)
    ∷ (Mkdir (below d x) (id 65538), Okay)
    ∷ (Create (below e f) (id 65539), Okay)
    ∷ (Rename (below d x) (below e x), Okay)
    ∷ (Ask (at d), Has new_directory)
    ∷ (Ask (at e), Has (record (sized new_directory 2) { nlink = 3 }))
    ∷ (Create (at a) (id 65540), Okay)
    ∷ (Rename (below e f) (at a), Okay)
    ∷ (Names (at e), Lists (x ∷ []))
    ∷ (Rename (at a) (at d), Isdir)
    ∷ (Rename (at d) (at a), Notdir)
    ∷ (Rename (at d) (below e x), Okay)
    ∷ (Ask root, Has (record (sized new_directory 2) { nlink = 3 }))
    ∷ []

-- sizes, where a file may have 8 bytes
abbrev pub sizes_run : List (Command × Reply)
sizes_run =
    (Create (at f) (id 65536), Okay)
    ∷ (Write (at f) 7 x, Okay)
    ∷ (Write (at f) 8 x, Toobig)
    ∷ (Fill (at f) 4 5 0, Toobig)
    ∷ (Read (at f) 6 5, Data (0 ∷ 120 ∷ []))
    ∷ (Ask (at f), Has (sized new_file 8))
    ∷ (Truncate (at f) 9, Toobig)
    ∷ (Write root 9 x, Isdir)
    ∷ (Truncate (at f) 0, Okay)
    ∷ (Truncate (at f) 8, Okay)
    ∷ (Read (at f) 6 5, Data (0 ∷ 0 ∷ []))
    ∷ []

-- objects born and gone, by each command
abbrev pub counts_run : List (Command × (ℕ × ℕ))
counts_run =
    (Begin, (0, 0))
    ∷ (Create (at f) (id 65536), (1, 0))
    ∷ (Create (at f) (id 65537), (0, 0))
    ∷ (Mkdir (at d) (id 65537), (1, 0))
    ∷ (Write (at f) 2 (codes "xy"), (0, 0))
    ∷ (Fill (at f) 1 2 7, (0, 0))
    ∷ (Truncate (at f) 3, (0, 0))
    ∷ (Read (at f) 0 9, (0, 0))
    ∷ (Ask (at f), (0, 0))
    ∷ (Names root, (0, 0))
    ∷ (Link (at f) (at a), (0, 0))
    ∷ (Chmod (at f) 0, (0, 0))
    ∷ (Chown (at f) 1 2, (0, 0))
    ∷ (Times (at f) 3 4 5, (0, 0))
    ∷ (Unlink (at f), (0, 0))
    ∷ (Rename (at a) (below d x), (0, 0))
    ∷ (Create (at f) (id 65538), (1, 0))
    ∷ (Rmdir (at d), (0, 0))
    ∷ (Rename (below d x) (at f), (0, 1))
    ∷ (Unlink (at f), (0, 1))
    ∷ (Rmdir (at d), (0, 1))
    ∷ (End, (0, 0))
    ∷ (Commit, (0, 0))
    ∷ []

-- ---- on other contents

abbrev pub made : (name : List ℕ) → (oid : ℕ) → Target
made n oid = record { locality = 42; ordering = slice_index (key_of_name 42 n).el 1; oid = id oid }

-- the root with one entry, that of an object with these attributes
abbrev pub one_entry : (name : List ℕ) → Attr → Pairs
one_entry n b = (stat_rank root_object, Stat (sized new_directory 1))
    ∷ (entry_rank root_object n, Entry n (made n 65536)) ∷ (stat_rank (made n 65536), Stat b) ∷ []

-- a file and a directory that have all the links that they may have, or more
abbrev pub links_run : List (Command × Reply)
links_run = (Link (at f) (at a), Links) ∷ (Link (at f) (at f), Exists) ∷ (Ask (at a), Absent) ∷ []

abbrev pub full_directory_run : List (Command × Reply)
full_directory_run =
    (Mkdir (below d x) (id (2 ^ 60 - 1)), Links)
    ∷ (Create (below d x) (id 65537), Okay)
    ∷ (Mkdir (at e) (id 65538), Okay)
    ∷ (Rename (at e) (below d e), Links)
    ∷ (Rename (at e) (below d x), Notdir)
    ∷ []

-- a root whose one entry names no object, and which counts no entries
abbrev pub no_object : Pairs
no_object = (stat_rank root_object, Stat new_directory)
    ∷ (entry_rank root_object f, Entry f (made f 65536)) ∷ []

abbrev pub no_object_run : List (Command × Reply)
no_object_run =
    (Ask (at f), Absent)
    ∷ (Unlink (at f), Absent)
    ∷ (Create (at f) (id 65537), Exists)
    ∷ (Create (at a) (id 65537), Okay)
    ∷ (Rename (at a) (at f), Absent)
    ∷ (Unlink (at a), Okay)
    ∷ []

abbrev pub no_root_run : List (Command × Reply)
no_root_run = (Ask root, Notdir) ∷ (Create (at f) (id 65537), Notdir) ∷ (Rmdir root, Loop)
    ∷ (Begin, Okay) ∷ (End, Okay) ∷ (Commit, Okay) ∷ []

-- a root that counts fewer entries and links than it has, and a file that counts no links
abbrev pub miscounted : Pairs
miscounted = (stat_rank root_object, Stat (record new_directory { nlink = 0 }))
    ∷ (entry_rank root_object f, Entry f (made f 65536))
    ∷ (stat_rank (made f 65536), Stat (record new_file { nlink = 0 })) ∷ []

abbrev pub miscounted_run : List (Command × Reply)
miscounted_run = (Unlink (at f), Okay) ∷ (Ask root, Has (record new_directory { nlink = 0 }))
    ∷ (Names root, Lists []) ∷ []

-- a file of three bytes
abbrev pub three_bytes : Pairs
three_bytes =
    (stat_rank root_object, Stat (sized new_directory 1))
    ∷ (entry_rank root_object f, Entry f (made f 65536))
    ∷ (stat_rank (made f 65536), Stat (sized new_file 3))
    ∷ (byte_rank (made f 65536) 0, Byte 49)
    ∷ (byte_rank (made f 65536) 1, Byte 50)
    ∷ (byte_rank (made f 65536) 2, Byte 51)
    ∷ []

-- one key as an interval
abbrev pub at_key_of : ℕ → ℕ × ℕ
at_key_of k = (k, k + 1)

-- what each walk to the file asks for
abbrev pub way_to_f : Intervals
way_to_f = at_key_of (stat_rank root_object) ∷ at_key_of (entry_rank root_object f)
    ∷ at_key_of (stat_rank (made f 65536)) ∷ []

-- ---- where objects born and gone tell nothing

-- a file that was made as f, and is named a
abbrev pub renamed_file : Pairs
renamed_file =
    (stat_rank root_object, Stat (sized new_directory 1))
    ∷ (entry_rank root_object a, Entry a (made f 65536))
    ∷ (stat_rank (made f 65536), Stat new_file)
    ∷ []

-- stat data at the key of an entry
abbrev pub stat_for_entry : Pairs
stat_for_entry = (stat_rank root_object, Stat new_directory)
    ∷ (entry_rank root_object f, Stat new_file) ∷ []

-- a name that is no list of bytes, whose key is that of the file's stat data
abbrev pub no_bytes : List (List ℕ)
no_bytes = (65536 ∷ []) ∷ []

abbrev pub first_file : Target
first_file = record { locality = 42; ordering = 0; oid = id 0 }

abbrev pub under_no_bytes : Pairs
under_no_bytes =
    (stat_rank root_object, Stat (sized new_directory 1))
    ∷ (entry_rank root_object f, Entry f first_file)
    ∷ (stat_rank first_file, Stat new_file)
    ∷ []

-- one object is born and none goes, and yet there are as many as before
abbrev pub Miscounts : Command → Content → Type 0
Miscounts c m = (born greatest_size c m ≡ 1) × (gone greatest_size c m ≡ 0)
    × (objects_in (after greatest_size c m) ≡ objects_in m)
