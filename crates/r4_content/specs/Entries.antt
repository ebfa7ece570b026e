-- Commands on the entries of directories (docs/commands.md, "Entries").
use Rattle.std.specs.Prelude.{ℕ, ◌+◌, ◌-◌, ◌*◌, ◌^◌, List, [], ◌∷◌, Bool, not, ◌&&◌, ◌==◌, nat_le}
use Rattle.std.specs.Prelude.{length, bytes_eq, Option, Some, None, if◌then◌else◌}
use Rattle.r4_base.specs.Key.{rank}
use Rattle.r4_base.specs.Value.{Stat, Entry, Byte}
use Rattle.r4_base.specs.declared.things.Oid.{Oid}
use Rattle.r4_content.specs.Course.{Course, Ask, Scan, Answer, Change}
use Rattle.r4_content.specs.Edited.{Pairs, Edits, and_also}
use Rattle.r4_content.specs.Objects.{Object, cut_key, entry_less, entry_more, entry_rank, is_dir}
use Rattle.r4_content.specs.Objects.{is_full, is_same, is_same_target, link_more, made_in}
use Rattle.r4_content.specs.Objects.{new_directory, new_file, set_attr, set_entry, unnamed}
use Rattle.r4_content.specs.Ways.{Named, entry_in, object_at, to_ends, to_entry, to_free, to_object}
use Rattle.r4_content.specs.declared.reply.Reply.TheVariants.{Okay, Names, Notdir, Clash, Oids}
use Rattle.r4_content.specs.declared.reply.Reply.TheVariants.{Links, Isdir, Loop, Notempty}

-- ---- an entry comes

-- an object gets a name in a directory
abbrev pub name_in : (dir : Object) → (name : List ℕ) → Object → Edits
name_in dir n o = and_also (set_entry dir n o.target) (and_also (set_attr o o.attr) (set_attr dir
    (entry_more (is_dir o) dir.attr)))

-- no object gets such an id
abbrev pub is_no_id : Oid → Bool
is_no_id oid = nat_le (2 ^ 60 - 1) oid.0

abbrev pub create : List (List ℕ) → Oid → Course
create path oid = to_free path (λ dir n. if is_no_id oid then Answer Oids
    else Change (name_in dir n (made_in dir n oid new_file)))

abbrev pub mkdir : List (List ℕ) → Oid → Course
mkdir path oid = to_free path (λ dir n. if is_full dir then Answer Links else if is_no_id oid
    then Answer Oids else Change (name_in dir n (made_in dir n oid new_directory)))

abbrev pub linked : Object → Object
linked o = record o { attr = link_more o.attr }

abbrev pub link : (from to : List (List ℕ)) → Course
link from to = to_object from (λ p. if is_dir p.here then Answer Isdir else to_free to
    (λ dir n. if is_full p.here then Answer Links else Change (name_in dir n (linked p.here))))

-- ---- all entries of a directory

-- the key before those of a directory's names, and the first one behind them
abbrev pub entries_from : (dir : ℕ) → ℕ
entries_from dir = rank (record { el = dir * 16 ∷ 0 ∷ 0 ∷ 0 ∷ [] })

abbrev pub entries_to : (dir : ℕ) → ℕ
entries_to dir = rank (record { el = (dir * 16 + 1) ∷ 0 ∷ 0 ∷ 0 ∷ [] })

abbrev pub with_entries : Object → (Pairs → Course) → Course
with_entries o next = Scan (entries_from o.target.oid.0) (entries_to o.target.oid.0) next

abbrev pub names_in : Pairs → List (List ℕ)
names_in [] = []
names_in ((k, Stat a) ∷ es) = names_in es
names_in ((k, Entry n t) ∷ es) = n ∷ names_in es
names_in ((k, Byte x) ∷ es) = names_in es

abbrev pub names : List (List ℕ) → Course
names path = to_object path (λ p. if is_dir p.here then with_entries p.here
    (λ es. Answer (Names (names_in es))) else Answer Notdir)

-- a directory in which these names stand, and nothing else that counts
abbrev pub if_empty : Course → List (List ℕ) → Course
if_empty next [] = next
if_empty next (n ∷ ns) = Answer Notempty

-- ---- an entry goes

-- an object's name in a directory goes
abbrev pub unname_in : (dir : Object) → (name : List ℕ) → Object → Edits
unname_in dir n o = and_also (cut_key (entry_rank dir.target n)) (and_also (set_attr dir
    (entry_less (is_dir o) dir.attr)) (unnamed o))

abbrev pub unlink : List (List ℕ) → Course
unlink path = to_entry Isdir path (λ dir n p. if is_dir p.here then Answer Isdir
    else Change (unname_in dir n p.here))

abbrev pub rmdir : List (List ℕ) → Course
rmdir path = to_entry Loop path (λ dir n p. if is_dir p.here then with_entries p.here
    (λ es. if_empty (Change (unname_in dir n p.here)) (names_in es)) else Answer Notdir)

-- ---- an entry moves

-- an entry leaves the directory `from` and comes to the directory `to`
abbrev pub set_parents : (from to : Object) → (is_dir : Bool) → Edits
set_parents from to d =
    if is_same from to then set_attr to (entry_more d (entry_less d to.attr))
    else and_also (set_attr from (entry_less d from.attr)) (set_attr to (entry_more d to.attr))

abbrev pub moved : (dir : Object) → (name : List ℕ) → Object → (new_dir : Object)
    → (new_name : List ℕ) → Edits
moved dir n o new_dir new_name = and_also (cut_key (entry_rank dir.target n)) (and_also
    (set_entry new_dir new_name o.target) (set_parents dir new_dir (is_dir o)))

-- a directory from which an object's entry has gone
abbrev pub without : (dir : Object) → Object → Object
without dir o = record dir { attr = entry_less (is_dir o) dir.attr }

-- onto an object: first its entry goes, then the other moves
abbrev pub moved_onto : (dir : Object) → (name : List ℕ) → Object → (new_dir : Object)
    → (new_name : List ℕ) → (old : Object) → Edits
moved_onto dir n o new_dir new_name old = and_also (unnamed old) (moved dir n o
    (without new_dir old) new_name)

-- a directory takes the place of an empty directory, and a file that of a file
abbrev pub replace : (dir : Object) → (name : List ℕ) → Object → (new_dir : Object)
    → (new_name : List ℕ) → (old : Object) → Course
replace dir n o new_dir new_name old =
    if is_dir o then (if is_dir old then with_entries old
    (λ es. if_empty (Change (moved_onto dir n o new_dir new_name old)) (names_in es))
    else Answer Notdir)
    else (if is_dir old then Answer Isdir else Change (moved_onto dir n o new_dir new_name old))

-- what stands at the new name's key
abbrev pub move_to : (dir : Object) → (name : List ℕ) → Object → (new_dir : Object)
    → (new_name : List ℕ) → Option Named → Course
move_to dir n o new_dir new_name None = if is_dir o && not (is_same dir new_dir)
    && is_full new_dir then Answer Links else Change (moved dir n o new_dir new_name)
move_to dir n o new_dir new_name (Some e) =
    if not (bytes_eq e.name new_name) then Answer (Clash e.name)
    else if is_same_target e.target o.target then Answer Okay
    else object_at e.target (replace dir n o new_dir new_name)

abbrev pub move : (dir : Object) → (name : List ℕ) → Object → (new_dir : Object)
    → (new_name : List ℕ) → Course
move dir n o new_dir new_name = Ask (entry_rank new_dir.target new_name)
    (λ v. move_to dir n o new_dir new_name (entry_in v))

abbrev pub rename : (from to : List (List ℕ)) → Course
rename from to = if length to == 0 then Answer Loop else to_ends from to move
