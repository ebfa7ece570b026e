-- A file that has more bytes than its offsets tell apart.
use Rattle.std.specs.Prelude.{◌≡◌, ◌+◌, ◌^◌, ℕ, Option, Some, None, cond}
use Rattle.std.proofs.Common.{refl, sym, ap, ◌∙◌}
use Rattle.r4_base.specs.Key.{key_of_rank, rank}
use Rattle.r4_base.specs.Name.{bad_byte, key_of_name, name_fault, packed, r5_from}
use Rattle.r4_base.specs.Value.{Byte, Stat, Value, at_key}
use Rattle.r4_base.specs.Volume.{byte_rank, object_of, stat_rank}
use Rattle.r4_content.specs.Course.{ending, of_content}
use Rattle.r4_content.specs.Edited.{Edits, Pairs, is_in}
use Rattle.r4_content.specs.Examples.{at, f, made, one_entry}
use Rattle.r4_content.specs.Lawful.{HasBodies}
use Rattle.r4_content.specs.Meaning.{after, course}
use Rattle.r4_content.specs.Objects.{new_file}
use Rattle.r4_content.specs.Seen.{Rises, of_seen}
use Rattle.r4_content.specs.Ways.{to_ends, to_entry, to_file, to_free, to_object, to_parent}
use Rattle.r4_content.specs.declared.command.Command.{Command}
use Rattle.r4_content.specs.declared.command.Command.TheVariants.{Truncate}
use Rattle.r4_content.proofs.EditLaws.{at_edited, last_put}
use Rattle.r4_content.proofs.SeenLaws.{at_content, content_of, same_source}
use Rattle.r4_content_rows.specs.Conditions.{empty_file}

no_value : (v : Value) → None ≡ Some v → ⊥
no_value v e = cc

-- what stands at a key after a command, without a step for each byte
abbrev pub now_at : Edits → (k : ℕ) → Option Value → Option Value
now_at e k old = last_put e.puts k (cond (is_in e.zeros k) (Some (Byte 0)) (cond (is_in e.cuts k) None old))

pub at_after : (limit : ℕ) (c : Command) (s : Pairs) (k : ℕ) → Rises s
    → at_key (after limit c (content_of s)) k ≡ now_at (ending (course limit c) (of_seen s)).edits k
    (at_key (content_of s) k)
at_after limit c s k r =
    at_edited (ending (course limit c) (of_content (content_of s))).edits (content_of s) k
    ∙ ap (λ t. now_at (ending (course limit c) t).edits k (at_key (content_of s) k)) (same_source s r)

abbrev files : Pairs
files = one_entry f new_file

abbrev next_key : ℕ
next_key = byte_rank (made f 65536) (2 ^ 64)

next_byte : at_key (after (2 ^ 64 + 1) (Truncate (at f) (2 ^ 64 + 1)) (content_of files)) next_key ≡ Some (Byte 0)
unfolding rank key_of_rank key_of_name name_fault bad_byte packed r5_from to_ends to_entry to_file to_free to_object
    to_parent
next_byte = at_after (2 ^ 64 + 1) (Truncate (at f) (2 ^ 64 + 1)) files next_key tt ∙ refl

next_stat : at_key (after (2 ^ 64 + 1) (Truncate (at f) (2 ^ 64 + 1)) (content_of files))
    (stat_rank (object_of (key_of_rank next_key))) ≡ None
unfolding rank key_of_rank key_of_name name_fault bad_byte packed r5_from to_ends to_entry to_file to_free to_object
    to_parent
next_stat =
    at_after (2 ^ 64 + 1) (Truncate (at f) (2 ^ 64 + 1)) files (stat_rank (object_of (key_of_rank next_key))) tt
    ∙ ap (now_at (ending (course (2 ^ 64 + 1) (Truncate (at f) (2 ^ 64 + 1))) (of_seen files)).edits
    (stat_rank (object_of (key_of_rank next_key))))
    (at_content files (stat_rank (object_of (key_of_rank next_key))) tt)
    ∙ refl

pub no_bodies : HasBodies (2 ^ 64 + 1) (after (2 ^ 64 + 1) (Truncate (at f) (2 ^ 64 + 1)) empty_file) → ⊥
unfolding content_of
no_bodies bodies =
    let fits = bodies.keys next_key (Byte 0) next_byte in
    no_value (Stat fits.1.0) (sym next_stat ∙ fits.1.1.1)
