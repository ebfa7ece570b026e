-- Where the ways of a command lead on what was seen (docs/commands.md, "Ways").
use Rattle.std.specs.Prelude.{◌≡◌, ◌<◌, ◌^◌, ℕ, List, [], length, ◌-◌, map, slice_index_or, All}
use Rattle.std.specs.Prelude.{None}
use Rattle.r4_base.specs.Name.{name_fault}
use Rattle.r4_content.specs.Course.{Course, ending}
use Rattle.r4_content.specs.Edited.{Pairs, no_edits}
use Rattle.r4_content.specs.Objects.{Object}
use Rattle.r4_content.specs.Seen.{of_seen}
use Rattle.r4_content.specs.Ways.{Place, to_ends, to_entry, to_free, to_parent}
use Rattle.r4_content.specs.declared.reply.Reply.{Reply}
use Rattle.r4_dir.specs.declared.object.Object as held
use Rattle.r4_dir.specs.declared.object.Place as held_place

abbrev pub object_of : held.Object → Object
object_of o = record { target = o.target; attr = o.attr }

abbrev pub place_of : held_place.Place → Place
place_of p = record { here = object_of p.here; above = map object_of p.above.items }

-- its numbers are those of an object
abbrev pub IsSmall : held.Object → Type 0
IsSmall o = (o.target.oid.0 < 2 ^ 60) × (o.target.locality < 2 ^ 60)

-- the way comes to a, whatever follows
abbrev pub Comes : {A : Type 0} → ((A → Course) → Course) → Pairs → A → Type 0
Comes {A} way s a = (next : A → Course) → ending (way next) (of_seen s)
    ≡ ending (next a) (of_seen s)

-- the way ends, and the command is refused
abbrev pub Stops : {A : Type 0} → ((A → Course) → Course) → Pairs → Reply → Type 0
Stops {A} way s r = (next : A → Course) → ending (way next) (of_seen s)
    ≡ record { edits = no_edits; reply = r }

-- each is a name
abbrev pub AreNames : List (List ℕ) → Type 0
AreNames path = All (λ n. name_fault n ≡ None) path

-- the last name of a path
abbrev pub last_of : List (List ℕ) → List ℕ
last_of path = slice_index_or path (length path - 1) []

-- the same of ways that come to a directory and a name
abbrev pub ComesFree : List (List ℕ) → Pairs → Object → Type 0
ComesFree path s dir = (next : Object → List ℕ → Course) → ending (to_free path next) (of_seen s)
    ≡ ending (next dir (last_of path)) (of_seen s)

abbrev pub StopsFree : List (List ℕ) → Pairs → Reply → Type 0
StopsFree path s r = (next : Object → List ℕ → Course) → ending (to_free path next) (of_seen s)
    ≡ record { edits = no_edits; reply = r }

-- of ways that come to a place and a name below it
abbrev pub ComesParent : Reply → List (List ℕ) → Pairs → Place → Type 0
ComesParent r path s p = (next : Place → List ℕ → Course)
    → ending (to_parent r path next) (of_seen s) ≡ ending (next p (last_of path)) (of_seen s)

abbrev pub StopsParent : Reply → List (List ℕ) → Pairs → Reply → Type 0
StopsParent r path s e = (next : Place → List ℕ → Course)
    → ending (to_parent r path next) (of_seen s) ≡ record { edits = no_edits; reply = e }

-- and of those that come to a directory, a name there, and the place of the object that has it
abbrev pub ComesEntry : Reply → List (List ℕ) → Pairs → Object → Place → Type 0
ComesEntry r path s dir p = (next : Object → List ℕ → Place → Course)
    → ending (to_entry r path next) (of_seen s) ≡ ending (next dir (last_of path) p) (of_seen s)

abbrev pub StopsEntry : Reply → List (List ℕ) → Pairs → Reply → Type 0
StopsEntry r path s e = (next : Object → List ℕ → Place → Course)
    → ending (to_entry r path next) (of_seen s) ≡ record { edits = no_edits; reply = e }

-- and of ways of a move: an object with its directory and its name there, and the directory that
-- it moves to with the new name
abbrev pub ComesEnds : (from to : List (List ℕ)) → Pairs → (dir object new_dir : Object) → Type 0
ComesEnds from to s dir o new_dir = (next : Object → List ℕ → Object → Object → List ℕ → Course)
    → ending (to_ends from to next) (of_seen s)
    ≡ ending (next dir (last_of from) o new_dir (last_of to)) (of_seen s)

abbrev pub StopsEnds : (from to : List (List ℕ)) → Pairs → Reply → Type 0
StopsEnds from to s e = (next : Object → List ℕ → Object → Object → List ℕ → Course)
    → ending (to_ends from to next) (of_seen s) ≡ record { edits = no_edits; reply = e }
