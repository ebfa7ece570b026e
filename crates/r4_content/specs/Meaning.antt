-- What commands mean: what each asks a content for, the content after it, and its reply
-- (docs/commands.md).
use Rattle.std.specs.Prelude.{ℕ, ◌+◌, ◌*◌, ◌/◌, ◌%◌, ◌^◌, List, [], ◌∷◌, replicate, Bool, true}
use Rattle.std.specs.Prelude.{false, if◌then◌else◌}
use Rattle.std.specs.List.{list_all}
use Rattle.std.specs.Option.{is_none}
use Rattle.r4_base.specs.Name.{name_fault}
use Rattle.r4_base.specs.Value.{Content}
use Rattle.r4_base.specs.declared.items.Attr.{Attr}
use Rattle.r4_base.specs.declared.things.Oid.{Oid}
use Rattle.r4_content.specs.Bodies.{read, truncate, write}
use Rattle.r4_content.specs.Course.{Course, Answer, Change, asked, ending, of_content}
use Rattle.r4_content.specs.Edited.{Intervals, changed, edited}
use Rattle.r4_content.specs.Entries.{create, link, mkdir, names, rename, rmdir, unlink}
use Rattle.r4_content.specs.Objects.{set_attr}
use Rattle.r4_content.specs.Ways.{to_object}
use Rattle.r4_content.specs.declared.command.Command.{Command}
use Rattle.r4_content.specs.declared.command.Command.TheVariants.{Create, Mkdir, Write, Fill}
use Rattle.r4_content.specs.declared.command.Command.TheVariants.{Truncate, Read, Stat, Names, Link}
use Rattle.r4_content.specs.declared.command.Command.TheVariants.{Unlink, Rmdir, Rename, Chmod}
use Rattle.r4_content.specs.declared.command.Command.TheVariants.{Chown, Times, Begin, End, Commit}
use Rattle.r4_content.specs.declared.reply.Reply.{Reply}
use Rattle.r4_content.specs.declared.reply.Reply.TheVariants.{Okay, Attr as AttrReply}
use Rattle.r4_content.specs.declared.reply.Reply.TheVariants.{Name as NameReply}

-- the most bytes that a file may have
abbrev pub greatest_size : ℕ
greatest_size = 2 ^ 30

-- each component is a name
abbrev pub is_path : List (List ℕ) → Bool
is_path path = list_all (λ n. is_none (name_fault n)) path

abbrev pub named : (path : List (List ℕ)) → Course → Course
named path c = if is_path path then c else Answer NameReply

-- ---- commands on attributes

abbrev pub stat : List (List ℕ) → Course
stat path = to_object path (λ p. Answer (AttrReply p.here.attr))

abbrev pub set_attrs : List (List ℕ) → (Attr → Attr) → Course
set_attrs path f = to_object path (λ p. Change (set_attr p.here (f p.here.attr)))

-- the low 12 bits of the mode
abbrev pub chmod : List (List ℕ) → ℕ → Course
chmod path mode = set_attrs path (λ a. record a { mode = a.mode / 4096 * 4096 + mode % 4096 })

abbrev pub chown : List (List ℕ) → (uid gid : ℕ) → Course
chown path uid gid = set_attrs path (λ a. record a { uid = uid; gid = gid })

abbrev pub times : List (List ℕ) → (atime mtime ctime : ℕ) → Course
times path atime mtime ctime = set_attrs path
    (λ a. record a { atime = atime; mtime = mtime; ctime = ctime })

-- ---- every command, where a file may have `limit` bytes. `begin`, `end` and `commit` read and
-- change nothing

abbrev pub course : (limit : ℕ) → Command → Course
course limit (Create path oid) = named path (create path oid)
course limit (Mkdir path oid) = named path (mkdir path oid)
course limit (Write path offset text) = named path (write limit path offset text)
course limit (Fill path offset len byte) = named path (write limit path offset (replicate len byte))
course limit (Truncate path size) = named path (truncate limit path size)
course limit (Read path offset len) = named path (read path offset len)
course limit (Stat path) = named path (stat path)
course limit (Names path) = named path (names path)
course limit (Link from to) = named from (named to (link from to))
course limit (Unlink path) = named path (unlink path)
course limit (Rmdir path) = named path (rmdir path)
course limit (Rename from to) = named from (named to (rename from to))
course limit (Chmod path mode) = named path (chmod path mode)
course limit (Chown path uid gid) = named path (chown path uid gid)
course limit (Times path atime mtime ctime) = named path (times path atime mtime ctime)
course limit Begin = Answer Okay
course limit End = Answer Okay
course limit Commit = Answer Okay

-- the content after a command, its reply, and the keys that it reads and changes
abbrev pub after : (limit : ℕ) → Command → Content → Content
after limit c m = edited (ending (course limit c) (of_content m)).edits m

abbrev pub reply : (limit : ℕ) → Command → Content → Reply
reply limit c m = (ending (course limit c) (of_content m)).reply

abbrev pub reads : (limit : ℕ) → Command → Content → Intervals
reads limit c m = asked (course limit c) (of_content m)

abbrev pub changes : (limit : ℕ) → Command → Content → Intervals
changes limit c m = changed (ending (course limit c) (of_content m)).edits

-- ---- one command after another

abbrev pub after_all : (limit : ℕ) → List Command → Content → Content
after_all limit [] m = m
after_all limit (c ∷ cs) m = after_all limit cs (after limit c m)

abbrev pub replies : (limit : ℕ) → List Command → Content → List Reply
replies limit [] m = []
replies limit (c ∷ cs) m = reply limit c m ∷ replies limit cs (after limit c m)

-- ---- commands are compared without the ids of new objects, which a job does not name

abbrev pub with_id : Oid → Command → Command
with_id oid (Create path o) = Create path oid
with_id oid (Mkdir path o) = Mkdir path oid
with_id oid c = c

abbrev pub without_id : Command → Command
without_id c = with_id (record { 0 = 0 }) c

-- the command names a new object
abbrev pub makes_object : Command → Bool
makes_object (Create path oid) = true
makes_object (Mkdir path oid) = true
makes_object c = false
