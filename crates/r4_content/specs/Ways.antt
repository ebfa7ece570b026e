-- The ways of commands to the objects that they name: what is asked for, and what is answered
-- where there is no way (docs/commands.md, "Ways").
use Rattle.std.specs.Prelude.{ℕ, ◌-◌, List, [], ◌∷◌, ◌++◌, not, ◌&&◌, ◌||◌, ◌==◌, nat_lt, length}
use Rattle.std.specs.Prelude.{take, slice_index_or, bytes_eq, Option, Some, None, if◌then◌else◌}
use Rattle.r4_base.specs.Value.{Value, Stat, Entry, Byte}
use Rattle.r4_base.specs.Volume.{root_object, stat_rank}
use Rattle.r4_base.specs.declared.items.Attr.{Attr}
use Rattle.r4_base.specs.declared.items.Target.{Target}
use Rattle.r4_content.specs.Course.{Course, Ask, Answer}
use Rattle.r4_content.specs.Objects.{Object, entry_rank, is_among, is_dir, is_same}
use Rattle.r4_content.specs.Walk.{attr_in, may_be_object, target_in}
use Rattle.r4_content.specs.declared.reply.Reply.{Reply}
use Rattle.r4_content.specs.declared.reply.Reply.TheVariants.{Notdir, Absent, Exists, Clash, Isdir}
use Rattle.r4_content.specs.declared.reply.Reply.TheVariants.{Toobig, Loop}

-- an object, and those on the way to it, from the root on
pub record Place : Type 0 where
  pub here : Object
  pub above : List Object

abbrev pub with_attr : Reply → (Attr → Course) → Option Attr → Course
with_attr r next None = Answer r
with_attr r next (Some a) = next a

-- the object that an entry names: where it has no stat data, it is absent
abbrev pub object_at : Target → (Object → Course) → Course
object_at t next = if may_be_object t then Ask (stat_rank t) (λ v. with_attr Absent
    (λ a. next (record { target = t; attr = a })) (attr_in v)) else Answer Absent

abbrev pub with_target : (Target → Course) → Option Target → Course
with_target next None = Answer Absent
with_target next (Some t) = next t

-- one step down
abbrev pub step : (name : List ℕ) → (Place → Course) → Place → Course
step n next p =
    if is_dir p.here then Ask (entry_rank p.here.target n) (λ v. with_target (λ t. object_at t
    (λ o. next (record { here = o; above = p.above ++ p.here ∷ [] }))) (target_in n v))
    else Answer Notdir

abbrev pub steps : List (List ℕ) → (Place → Course) → Place → Course
steps [] next p = next p
steps (n ∷ path) next p = step n (steps path next) p

-- to the object of a path. A root without stat data is no directory
unfoldable pub to_object : List (List ℕ) → (Place → Course) → Course
to_object path next = Ask (stat_rank root_object) (λ v. with_attr Notdir
    (λ a. steps path next
    (record { here = record { target = root_object; attr = a }; above = [] })) (attr_in v))

-- to the object above, with the last name; the root has none, and is refused
unfoldable pub to_parent : Reply → List (List ℕ) → (Place → (name : List ℕ) → Course) → Course
to_parent r path next =
    let last = length path - 1 in
    if length path == 0 then Answer r else to_object (take last path)
    (λ p. next p (slice_index_or path last []))

-- to the object of a path, with its directory and its name there
unfoldable pub to_entry : Reply → List (List ℕ) → (dir : Object → (name : List ℕ) → Place
    → Course) → Course
to_entry r path next = to_parent r path (λ p n. step n (next p.here n) p)

-- an entry that stands at a key
pub record Named : Type 0 where
  pub name : List ℕ
  pub target : Target

abbrev pub entry_in : Option Value → Option Named
entry_in None = None
entry_in (Some (Stat a)) = None
entry_in (Some (Entry n t)) = Some (record { name = n; target = t })
entry_in (Some (Byte x)) = None

-- the name's key is not taken; where it is, the name is there, or one that has the same key
abbrev pub if_free : (name : List ℕ) → Course → Option Named → Course
if_free n next None = next
if_free n next (Some e) = if bytes_eq e.name n then Answer Exists else Answer (Clash e.name)

abbrev pub free_here : (Object → (name : List ℕ) → Course) → Place → (name : List ℕ) → Course
free_here next p n = if is_dir p.here then Ask (entry_rank p.here.target n)
    (λ v. if_free n (next p.here n) (entry_in v)) else Answer Notdir

-- to the directory in which the last name of a path is free; the root is there always
unfoldable pub to_free : List (List ℕ) → (dir : Object → (name : List ℕ) → Course) → Course
to_free path next = to_parent Exists path (free_here next)

-- to a file, for bytes that end at an offset
unfoldable pub to_file : (limit : ℕ) → List (List ℕ) → (end : ℕ) → (Object → Course) → Course
to_file limit path end next = to_object path (λ p. if is_dir p.here then Answer Isdir
    else if nat_lt limit end then Answer Toobig else next p.here)

-- to the object that moves, and to the directory that it moves to, which is neither itself nor
-- below it
unfoldable pub to_ends : (from to : List (List ℕ)) → (dir : Object → (name : List ℕ) → Object
    → (new_dir : Object) → (new_name : List ℕ) → Course) → Course
to_ends from to next = to_entry Loop from (λ dir n p. to_parent Loop to (λ q new_name.
    if not (is_dir q.here) then Answer Notdir
    else if is_dir p.here && (is_among p.here q.above || is_same p.here q.here) then Answer Loop
    else next dir n p.here q.here new_name))
