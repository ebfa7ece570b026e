-- Commands that are refused, and what their edits would make of a content that is lawful.
use Rattle.std.specs.Prelude.{List, [], ◌∷◌, slice_index}
use Rattle.std.specs.FinMap.{from_sorted}
use Rattle.r4_base.specs.Name.{key_of_name}
use Rattle.r4_base.specs.Value.{Entry, Stat}
use Rattle.r4_base.specs.Volume.{HasObjects, root_object, stat_rank}
use Rattle.r4_base.specs.declared.items.Attr.{Attr}
use Rattle.r4_base.specs.declared.items.Target.{Target}
use Rattle.r4_content.specs.Edited.{Edits, Pairs, edited}
use Rattle.r4_content.specs.Examples.{a, at, below, d, e, f, id, made, root, x}
use Rattle.r4_content.specs.Objects.{Object, entry_rank, new_directory, new_file, sized}
use Rattle.r4_content.specs.declared.command.Command.{Command}
use Rattle.r4_content.specs.declared.command.Command.TheVariants.{Link, Mkdir, Rename, Rmdir}
use Rattle.r4_content.specs.declared.command.Command.TheVariants.{Stat as Ask}
use Rattle.r4_content.specs.declared.reply.Reply.{Reply}
use Rattle.r4_content.specs.declared.reply.Reply.TheVariants.{Okay, Absent, Attr as Has, Exists}
use Rattle.r4_content.specs.declared.reply.Reply.TheVariants.{Isdir, Links, Loop, Notdir, Notempty}

-- ---- a directory d with a file x, an empty directory e, and a file that is named f and a

abbrev pub inner_file : Target
inner_file = record {
  locality = 65536;
  ordering = slice_index (key_of_name 65536 x).el 1;
  oid = id 65537;
}

abbrev pub root_attr : Attr
root_attr = record (sized new_directory 4) { nlink = 4 }

abbrev pub file_attr : Attr
file_attr = record new_file { nlink = 2 }

abbrev pub small_tree : Pairs
small_tree =
    (stat_rank root_object, Stat root_attr)
    ∷ (entry_rank root_object a, Entry a (made f 65539))
    ∷ (entry_rank root_object d, Entry d (made d 65536))
    ∷ (entry_rank root_object e, Entry e (made e 65538))
    ∷ (entry_rank root_object f, Entry f (made f 65539))
    ∷ (stat_rank (made d 65536), Stat (sized new_directory 1))
    ∷ (stat_rank (made e 65538), Stat new_directory)
    ∷ (stat_rank (made f 65539), Stat file_attr)
    ∷ (entry_rank (made d 65536) x, Entry x inner_file)
    ∷ (stat_rank inner_file, Stat new_file)
    ∷ []

-- ---- what is found where a command was refused

-- a directory that is not empty, a file, and the root
abbrev pub refused_rmdir : List (Command × Reply)
refused_rmdir =
    (Rmdir (at d), Notempty)
    ∷ (Ask (at d), Has (sized new_directory 1))
    ∷ (Rmdir (at f), Notdir)
    ∷ (Ask (at f), Has file_attr)
    ∷ (Rmdir root, Loop)
    ∷ (Ask root, Has root_attr)
    ∷ []

-- a directory gets no further name, and a name that is there stays
abbrev pub refused_link : List (Command × Reply)
refused_link =
    (Link (at d) (at x), Isdir)
    ∷ (Ask (at x), Absent)
    ∷ (Link (at f) (at d), Exists)
    ∷ (Ask (at d), Has (sized new_directory 1))
    ∷ []

-- what is renamed onto what: a directory onto a file, a file onto a directory, onto a directory
-- that is not empty, into itself
abbrev pub refused_rename : List (Command × Reply)
refused_rename =
    (Rename (at e) (at f), Notdir)
    ∷ (Ask (at f), Has file_attr)
    ∷ (Rename (at f) (at e), Isdir)
    ∷ (Ask (at e), Has new_directory)
    ∷ (Rename (at e) (at d), Notempty)
    ∷ (Ask (at d), Has (sized new_directory 1))
    ∷ (Rename (at d) (below d e), Loop)
    ∷ (Ask (below d e), Absent)
    ∷ []

-- both paths name one object: it is done, nothing changes, and the old name stays
abbrev pub idle_rename : List (Command × Reply)
idle_rename = (Rename (at f) (at a), Okay) ∷ (Ask (at f), Has file_attr) ∷ []

-- a directory that has all the links that it may have gets no further directory
abbrev pub full_rename : List (Command × Reply)
full_rename =
    (Mkdir (at e) (id 65538), Okay)
    ∷ (Rename (at e) (below d e), Links)
    ∷ (Ask (below d e), Absent)
    ∷ (Ask (at e), Has new_directory)
    ∷ []

-- ---- what the edits would make

abbrev pub Unlawful : Edits → Type 0
Unlawful edits = HasObjects (edited edits (from_sorted small_tree)) → ⊥

abbrev pub root_there : Object
root_there = record { target = root_object; attr = root_attr }

abbrev pub d_there : Object
d_there = record { target = made d 65536; attr = sized new_directory 1 }

abbrev pub e_there : Object
e_there = record { target = made e 65538; attr = new_directory }

abbrev pub f_there : Object
f_there = record { target = made f 65539; attr = file_attr }
