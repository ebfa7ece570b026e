-- A refusal leaves the content, and so does a command that only reads.
use Rattle.std.specs.Prelude.{◌≡◌, ◌⊎◌, ℕ, ◌+◌, nat_lt, List, [], ◌∷◌, ◌++◌, Bool, true, false, Option, Some, None, if◌then◌else◌}
use Rattle.std.proofs.Common.{refl, ap, inl, inr}
use Rattle.r4_base.specs.Value.{Value, Content}
use Rattle.r4_base.specs.Volume.{byte_rank}
use Rattle.r4_base.specs.declared.items.Attr.{Attr}
use Rattle.r4_base.specs.declared.items.Target.{Target}
use Rattle.r4_content.specs.Bodies.{bytes_in, read_in, smaller}
use Rattle.r4_content.specs.Course.{Course, Ask, Scan, Answer, Change, Source, of_content, ending}
use Rattle.r4_content.specs.Edited.{Pairs, changed, edited, is_in, no_edits}
use Rattle.r4_content.specs.Meaning.{after, changes, course, is_path, reply}
use Rattle.r4_content.specs.Objects.{Object, is_dir}
use Rattle.r4_content.specs.Reading.{OnlyReads}
use Rattle.r4_content.specs.Walk.{attr_in, may_be_object, target_in}
use Rattle.r4_content.specs.Ways.{Place, object_at, steps, to_object, with_attr, with_target}
use Rattle.r4_content.specs.declared.command.Command.{Command}
use Rattle.r4_content.specs.declared.command.Command.TheVariants.{Read, Stat, Names, Begin, End, Commit}
use Rattle.r4_content.specs.declared.reply.Reply.{Reply}
use Rattle.r4_content.specs.declared.reply.Reply.TheVariants.{Okay, Data, Absent, Notdir}

pub nothing_or_okay : (c : Course) (s : Source) → ((ending c s).edits ≡ no_edits) ⊎ ((ending c s).reply ≡ Okay)
nothing_or_okay (Ask k next) s = nothing_or_okay (next (s.value k)) s
nothing_or_okay (Scan from to next) s = nothing_or_okay (next (s.pairs from to)) s
nothing_or_okay (Answer r) s = inl refl
nothing_or_okay (Change e) s = inr refl

pub refused_leaves : (limit : ℕ) (c : Command) (m : Content) → ¬ (reply limit c m ≡ Okay) → after limit c m ≡ m
refused_leaves limit c m h = elim (nothing_or_okay (course limit c) (of_content m)) [
  | inl e ↦ ap (λ x. edited x m) e
  | inr e ↦ absurd (h e)
]

pub refused_edits : (limit : ℕ) (c : Command) (m : Content) → ¬ (reply limit c m ≡ Okay) → (ending (course limit c) (of_content m)).edits ≡ no_edits
refused_edits limit c m h = elim (nothing_or_okay (course limit c) (of_content m)) [ inl e ↦ e | inr e ↦ absurd (h e) ]

pub refused_changes : (limit : ℕ) (c : Command) (m : Content) (k : ℕ) → ¬ (reply limit c m ≡ Okay) → is_in (changes limit c m) k ≡ false
refused_changes limit c m k h = elim (nothing_or_okay (course limit c) (of_content m)) [
  | inl e ↦ ap (λ x. is_in (changed x) k) e
  | inr e ↦ absurd (h e)
]

-- ---- courses that only answer

abbrev Answers : Course → Type 0
Answers (Ask k next) = (v : Option Value) → Answers (next v)
Answers (Scan from to next) = (es : Pairs) → Answers (next es)
Answers (Answer r) = Unit {0}
Answers (Change e) = ⊥

leaves : (c : Course) (s : Source) → Answers c → (ending c s).edits ≡ no_edits
leaves (Ask k next) s h = leaves (next (s.value k)) s (h (s.value k))
leaves (Scan from to next) s h = leaves (next (s.pairs from to)) s (h (s.pairs from to))
leaves (Answer r) s h = refl
leaves (Change e) s h = absurd h

if_answers : (b : Bool) (c d : Course) → Answers c → Answers d → Answers (if b then c else d)
if_answers true c d h i = h
if_answers false c d h i = i

attr_answers : (r : Reply) (next : Attr → Course) (v : Option Attr) → ((a : Attr) → Answers (next a)) → Answers (with_attr r next v)
attr_answers r next None h = tt
attr_answers r next (Some a) h = h a

target_answers : (next : Target → Course) (v : Option Target) → ((t : Target) → Answers (next t)) → Answers (with_target next v)
target_answers next None h = tt
target_answers next (Some t) h = h t

object_answers : (t : Target) (next : Object → Course) → ((o : Object) → Answers (next o)) → Answers (object_at t next)
object_answers t next h = if_answers (may_be_object t) _ _ (λ v. attr_answers Absent _ (attr_in v) (λ a. h _)) tt

steps_answer : (path : List (List ℕ)) (next : Place → Course) (p : Place) → ((q : Place) → Answers (next q)) → Answers (steps path next p)
steps_answer [] next p h = h p
steps_answer (n ∷ path) next p h =
    if_answers (is_dir p.here) _ _ (λ v. target_answers _ (target_in n v) (λ t. object_answers t _ (λ o. steps_answer path next (record { here = o; above = p.above ++ p.here ∷ [] }) h))) tt

way_answers : (path : List (List ℕ)) (next : Place → Course) → ((q : Place) → Answers (next q)) → Answers (to_object path next)
unfolding to_object
way_answers path next h v = attr_answers Notdir _ (attr_in v) (λ a. steps_answer path next _ h)

read_answers : (o : Object) (from len : ℕ) → Answers (read_in o from len)
read_answers o from len =
    let to = smaller (from + len) o.attr.size in
    if_answers (nat_lt from to) (Scan (byte_rank o.target from) (byte_rank o.target to) (λ es. Answer (Data (bytes_in es)))) (Answer (Data [])) (λ es. tt) tt

reading_answers : (limit : ℕ) (c : Command) → OnlyReads c → Answers (course limit c)
reading_answers limit (Read path from len) h =
    if_answers (is_path path) _ _ (way_answers path _ (λ p. if_answers (is_dir p.here) _ (read_in p.here from len) tt (read_answers p.here from len))) tt
reading_answers limit (Stat path) h = if_answers (is_path path) _ _ (way_answers path _ (λ p. tt)) tt
reading_answers limit (Names path) h = if_answers (is_path path) _ _ (way_answers path _ (λ p. if_answers (is_dir p.here) _ _ (λ es. tt) tt)) tt
reading_answers limit Begin h = tt
reading_answers limit End h = tt
reading_answers limit Commit h = tt
reading_answers limit _ h = absurd h

pub only_reads : (limit : ℕ) (c : Command) (m : Content) → OnlyReads c → (ending (course limit c) (of_content m)).edits ≡ no_edits
only_reads limit c m h = leaves (course limit c) (of_content m) (reading_answers limit c h)

pub reading_leaves : (limit : ℕ) (c : Command) (m : Content) → OnlyReads c → after limit c m ≡ m
reading_leaves limit c m h = ap (λ x. edited x m) (leaves (course limit c) (of_content m) (reading_answers limit c h))
