-- Commands and contents at which laws of commands do not hold, since one of their conditions does
-- not (r4_content, src/laws.rt).
use Rattle.std.specs.Prelude.{◌≡◌, ℕ, ◌+◌, ◌*◌, ◌^◌, List, [], ◌∷◌, ◌++◌, false, true, slice_index}
use Rattle.std.specs.Prelude.{Some, None}
use Rattle.std.specs.FinMap.{from_sorted, insert}
use Rattle.r4_base.specs.Key.{key_of_rank, minor_of}
use Rattle.r4_base.specs.Name.{key_of_name}
use Rattle.r4_base.specs.Value.{Byte, Content, Entry, Stat, at_key}
use Rattle.r4_base.specs.Volume.{IsVisible, byte_rank, object_of, objects_in}
use Rattle.r4_base.specs.Volume.{root_object, stat_rank}
use Rattle.r4_base.specs.declared.items.Target.{Target}
use Rattle.r4_content.specs.Counts.{born, gone}
use Rattle.r4_content.specs.Course.{ending, of_content}
use Rattle.r4_content.specs.Edited.{Edits, Intervals, Pairs, changed, edited, is_in}
use Rattle.r4_content.specs.Examples.{a, at, below, d, e, f, id, made, one_entry, x}
use Rattle.r4_content.specs.Fields.{HasBytePaths, NamesUnused}
use Rattle.r4_content.specs.Lawful.{IsLawful}
use Rattle.r4_content.specs.Locality.{Touches, commands}
use Rattle.r4_content.specs.Meaning.{after, course, greatest_size, reads}
use Rattle.r4_content.specs.Objects.{entry_rank, link_more, new_directory, new_file, sized}
use Rattle.r4_content.specs.Units.{IsOfFile, IsOrPads}
use Rattle.r4_content.specs.declared.command.Command.{Command}
use Rattle.r4_content.specs.declared.command.Command.TheVariants.{Link, Rename, Unlink}
use Rattle.r4_content.specs.declared.command.Command.TheVariants.{Stat as Ask}
use Rattle.r4_content.specs.declared.reply.Reply.{Reply}
use Rattle.r4_content.specs.declared.reply.Reply.TheVariants.{Okay, Absent, Attr as Has}

-- what laws ask of a command and a content: all but of the limit
abbrev pub MayBeDone : (limit : ℕ) → Command → Content → Type 0
MayBeDone limit c m = IsLawful limit m × HasBytePaths c × NamesUnused m c

-- the root with a file without bytes
abbrev pub empty_file : Content
empty_file = from_sorted (one_entry f new_file)

-- ---- stat keys that are not read (`commands_ask_for_stats`)

-- the key is one of a body, the command reads or changes it, and does not read the stat key of the
-- body's object
abbrev pub SkipsStat : (limit : ℕ) → Command → Content → (key : ℕ) → Type 0
SkipsStat limit c m k = Touches (commands limit) c m k × (minor_of (key_of_rank k) ≡ 4)
    × (is_in (reads limit c m) (stat_rank (object_of (key_of_rank k))) ≡ false)

-- the root, without entries
abbrev pub root_alone : Pairs
root_alone = (stat_rank root_object, Stat new_directory) ∷ []

-- a name that is no list of bytes, and whose key in the root is that of a byte of a file
abbrev pub body_name : List ℕ
body_name = 4 * 65536 ∷ []

-- an object whose ordering has more than 64 bits: its stat key is that of a byte of another one
abbrev pub far_object : Target
far_object = record { locality = 42; ordering = 3 * 2 ^ 64; oid = id 65536 }

abbrev pub far_entry : Pairs
far_entry = (stat_rank root_object, Stat (sized new_directory 1))
    ∷ (entry_rank root_object f, Entry f far_object) ∷ []

-- ---- objects that are not found again (`what_is_changed_is_found`)

-- a file whose stat data stand at the key of a name in the root
abbrev pub hidden_file : Target
hidden_file = record { locality = 41; ordering = 15 * 2 ^ 64 + 97 * 2 ^ 48; oid = id 0 }

abbrev pub stat_at_name : Pairs
stat_at_name =
    (stat_rank root_object, Stat (sized new_directory 1))
    ∷ (entry_rank root_object a, Stat new_file)
    ∷ (entry_rank root_object f, Entry f hidden_file)
    ∷ []

-- the new name takes the key of the stat data, and they take it back
abbrev pub lost_link_run : List (Command × Reply)
lost_link_run =
    (Ask (at f), Has new_file)
    ∷ (Link (at f) (at a), Okay)
    ∷ (Ask (at a), Absent)
    ∷ (Ask (at f), Has (link_more new_file))
    ∷ []

-- a directory that has an entry which names the directory itself
abbrev pub own_entry : Pairs
own_entry = one_entry d (record (sized new_directory 1) { nlink = 3 })
    ++ (entry_rank (made d 65536) x, Entry x (made d 65536)) ∷ []

-- moved out of itself, the directory has an entry less
abbrev pub own_entry_run : List (Command × Reply)
own_entry_run =
    (Ask (below d x), Has (record (sized new_directory 1) { nlink = 3 }))
    ∷ (Rename (below d x) (at e), Okay)
    ∷ (Ask (at e), Has new_directory)
    ∷ []

-- ---- a byte that is left of a file that is gone (`moved_units_are_visible`)

-- units are changed as `MovesUnits` says, but for its `padding`
abbrev pub MovesButPadding : (e : Edits) (m raw after : Content) (moved : Intervals) → Type 0
MovesButPadding e m raw after moved = IsVisible raw m
    × ((k : ℕ) → is_in moved k ≡ false → at_key after k ≡ at_key raw k)
    × ((k : ℕ) → is_in moved k ≡ true → IsOrPads after (edited e m) k)
    × ((k : ℕ) → is_in moved k ≡ false → is_in (changed e) k ≡ true → IsOrPads raw (edited e m) k)

-- its `padding`: a byte past a file's size that is not moved is of a file that stays
abbrev pub KeepsPadding : (e : Edits) (m raw : Content) (moved : Intervals) → Type 0
KeepsPadding e m raw moved = (k x : ℕ) → is_in moved k ≡ false → is_in (changed e) k ≡ false
    → at_key raw k ≡ Some (Byte x) → at_key m k ≡ None → IsOfFile (edited e m) k

-- the same units, and a byte behind the file's end
abbrev pub with_padding : Content
with_padding = insert empty_file (byte_rank (made f 65536) 0) (Byte 0)

-- what the command that takes the file away changes
abbrev pub unlinking : Edits
unlinking = (ending (course greatest_size (Unlink (at f))) (of_content empty_file)).edits

-- ---- a file that grows over another one (`objects_are_counted`)

-- the file x in the directory d
abbrev pub lower_file : Target
lower_file = record {
  locality = 43;
  ordering = slice_index (key_of_name 43 x).el 1;
  oid = id 65537;
}

-- a directory with this file, and a file f beside it
abbrev pub two_files : Pairs
two_files =
    (stat_rank root_object, Stat (record (sized new_directory 2) { nlink = 3 }))
    ∷ (entry_rank root_object d, Entry d (made d 43))
    ∷ (entry_rank root_object f, Entry f (made f 65536))
    ∷ (stat_rank (made d 43), Stat (sized new_directory 1))
    ∷ (stat_rank (made f 65536), Stat new_file)
    ∷ (entry_rank (made d 43) x, Entry x lower_file)
    ∷ (stat_rank lower_file, Stat new_file)
    ∷ []

-- no object is born and none goes, and yet there is one less
abbrev pub LosesOne : (limit : ℕ) → Command → Content → Type 0
LosesOne limit c m = (born limit c m ≡ 0) × (gone limit c m ≡ 0)
    × (objects_in (after limit c m) + 1 ≡ objects_in m)
