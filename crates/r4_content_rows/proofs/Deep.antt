-- Zeros up to an offset far behind a file take the key of its entry.
use Rattle.std.specs.Prelude.{◌≡◌, ◌+◌, ℕ, [], ◌∷◌, true, Option, Some, if◌then◌else◌}
use Rattle.std.proofs.Common.{refl, ap, ◌∙◌}
use Rattle.std.specs.FinMap.{find}
use Rattle.std.specs.Ordering.{nat_cmp}
use Rattle.r4_base.specs.Key.{rank}
use Rattle.r4_base.specs.Name.{bad_byte, key_of_name, name_fault, packed, r5_from}
use Rattle.r4_base.specs.Value.{Byte, Content, Entry, Stat, Value, at_key}
use Rattle.r4_base.specs.Volume.{root_object, stat_rank}
use Rattle.r4_base.specs.declared.items.Attr.{Attr}
use Rattle.r4_content.specs.Bodies.{read, read_in}
use Rattle.r4_content.specs.Course.{Answer, Course, Ending, ending}
use Rattle.r4_content.specs.Examples.{below, d, f, made, x}
use Rattle.r4_content.specs.Meaning.{after, course, is_path, reply}
use Rattle.r4_content.specs.Objects.{entry_rank, is_dir, new_directory, sized}
use Rattle.r4_content.specs.Seen.{Rises, of_seen}
use Rattle.r4_content.specs.Walk.{attr_at, attr_in, target_in}
use Rattle.r4_content.specs.Ways.{Place, to_ends, to_entry, to_file, to_free, to_object, to_parent}
use Rattle.r4_content.specs.declared.command.Command.{Command}
use Rattle.r4_content.specs.declared.command.Command.TheVariants.{Fill, Read, Stat as Ask, Truncate, Write}
use Rattle.r4_content.specs.declared.reply.Reply.TheVariants.{Absent, Isdir}
use Rattle.r4_content.proofs.Found.{NotDirectory, NotThere, down, ends_at, found, found_from, go_attr, go_target}
use Rattle.r4_content.proofs.Found.{start, way_ends}
use Rattle.r4_content.proofs.SameWay.{steps_on}
use Rattle.r4_content.proofs.SeenLaws.{at_content, content_of, same_source}
use Rattle.r4_content.proofs.Unnaming.{absent_ends}
use Rattle.r4_content.proofs.Writing.{named_ends}
use Rattle.r4_content_rows.specs.Written.{LosesFile, deep, deep_file, far}
use Rattle.r4_content_rows.proofs.Beyond.{at_after, now_at}

abbrev root_attr : Attr
root_attr = record (sized new_directory 1) { nlink = 3 }

rises : Rises (deep 0)
unfolding rank key_of_name packed
rises = tt

legal : is_path (below d f) ≡ true
unfolding name_fault bad_byte
legal = refl

-- the way to a file whose entry has become a byte
not_there : (n : Content) → at_key n (stat_rank root_object) ≡ Some (Stat root_attr)
    → at_key n (entry_rank root_object d) ≡ Some (Entry d (made d 43))
    → at_key n (stat_rank (made d 43)) ≡ Some (Stat (sized new_directory 1))
    → at_key n (entry_rank (made d 43) f) ≡ Some (Byte 0) → found n (below d f) ≡ NotThere
not_there n root_is entry_is stat_is lost_is =
    let q = down (start root_attr) (made d 43) (sized new_directory 1) in
    ap (λ (v : Option Value). go_attr NotDirectory (λ a. found_from n (below d f) (start a)) (attr_in v)) root_is
    ∙ steps_on n d (f ∷ []) (start root_attr) (made d 43) (sized new_directory 1) refl (ap (target_in d) entry_is)
    (ap attr_in stat_is)
    ∙ ap (λ (v : Option Value). go_target (λ t. go_attr NotThere (λ a. found_from n [] (down q t a)) (attr_at n t))
    (target_in f v)) lost_is

read_absent : (limit : ℕ) (n : Content) (from len : ℕ) → found n (below d f) ≡ NotThere
    → reply limit (Read (below d f) from len) n ≡ Absent
read_absent limit n from len gone =
    let next : Place → Course = λ (p : Place). if is_dir p.here then Answer Isdir else read_in p.here from len in
    ap (λ (y : Ending). y.reply) (named_ends n (below d f) (read (below d f) from len) legal
    ∙ way_ends n (below d f) next ∙ ap (ends_at n next) gone)

-- what stands at a key after the command
now : (limit : ℕ) (c : Command) (k : ℕ) → at_key (after limit c (content_of (deep 0))) k ≡ now_at
    (ending (course limit c) (of_seen (deep 0))).edits k (find nat_cmp k (deep 0))
now limit c k = at_after limit c (deep 0) k rises ∙ ap (now_at (ending (course limit c) (of_seen (deep 0))).edits k)
    (at_content (deep 0) k rises)

okay : (limit : ℕ) (c : Command)
    → reply limit c (content_of (deep 0)) ≡ (ending (course limit c) (of_seen (deep 0))).reply
okay limit c = ap (λ s. (ending (course limit c) s).reply) (same_source (deep 0) rises)

truncate_gone : found (after far (Truncate (below d f) far) (content_of (deep 0))) (below d f) ≡ NotThere
unfolding rank key_of_name name_fault bad_byte packed r5_from to_ends to_entry to_file to_free to_object to_parent
truncate_gone =
    let c = Truncate (below d f) far in
    not_there (after far c (content_of (deep 0))) (now far c (stat_rank root_object))
    (now far c (entry_rank root_object d)) (now far c (stat_rank (made d 43)))
    (now far c (entry_rank (made d 43) f))

write_gone : found (after (far + 1) (Write (below d f) far x) (content_of (deep 0))) (below d f) ≡ NotThere
unfolding rank key_of_name name_fault bad_byte packed r5_from to_ends to_entry to_file to_free to_object to_parent
write_gone =
    let c = Write (below d f) far x in
    not_there (after (far + 1) c (content_of (deep 0))) (now (far + 1) c (stat_rank root_object))
    (now (far + 1) c (entry_rank root_object d)) (now (far + 1) c (stat_rank (made d 43)))
    (now (far + 1) c (entry_rank (made d 43) f))

fill_gone : found (after (far + 1) (Fill (below d f) far 1 7) (content_of (deep 0))) (below d f) ≡ NotThere
unfolding rank key_of_name name_fault bad_byte packed r5_from to_ends to_entry to_file to_free to_object to_parent
fill_gone =
    let c = Fill (below d f) far 1 7 in
    not_there (after (far + 1) c (content_of (deep 0))) (now (far + 1) c (stat_rank root_object))
    (now (far + 1) c (entry_rank root_object d)) (now (far + 1) c (stat_rank (made d 43)))
    (now (far + 1) c (entry_rank (made d 43) f))

pub truncate_loses : LosesFile far (Truncate (below d f) far) (Ask (below d f)) deep_file
unfolding content_of rank key_of_name name_fault bad_byte packed r5_from to_ends to_entry to_file to_free to_object
    to_parent
truncate_loses = (
  okay far (Truncate (below d f) far),
  absent_ends far
      (after far (Truncate (below d f) far) deep_file) (below d f) legal truncate_gone,
)

pub write_loses : LosesFile (far + 1) (Write (below d f) far x) (Read (below d f) far 1) deep_file
unfolding content_of rank key_of_name name_fault bad_byte packed r5_from to_ends to_entry to_file to_free to_object
    to_parent
write_loses = (
  okay (far + 1) (Write (below d f) far x),
  read_absent (far + 1)
      (after (far + 1) (Write (below d f) far x) deep_file) far 1 write_gone,
)

pub fill_loses : LosesFile (far + 1) (Fill (below d f) far 1 7) (Read (below d f) far 1) deep_file
unfolding content_of rank key_of_name name_fault bad_byte packed r5_from to_ends to_entry to_file to_free to_object
    to_parent
fill_loses = (
  okay (far + 1) (Fill (below d f) far 1 7),
  read_absent (far + 1)
      (after (far + 1) (Fill (below d f) far 1 7) deep_file) far 1 fill_gone,
)
