-- Commands at which laws do not hold, computed on lists.
use Rattle.std.specs.Prelude.{◌≡◌, ◌+◌, ◌^◌, ℕ, List, map, true, false}
use Rattle.std.proofs.Common.{refl, ap, inl, inr, ◌∙◌}
use Rattle.std.specs.FinMap.{from_sorted}
use Rattle.r4_base.specs.Key.{key_of_rank, minor_of, rank}
use Rattle.r4_base.specs.Name.{bad_byte, key_of_name, name_fault, packed, r5_from}
use Rattle.r4_base.specs.Volume.{byte_rank, object_of, root_object, stat_rank}
use Rattle.r4_content.specs.Course.{asked, ending}
use Rattle.r4_content.specs.Edited.{Pairs, changed, is_in}
use Rattle.r4_content.specs.Examples.{GetReplies, at, f, made, one_entry}
use Rattle.r4_content.specs.Listed.{list_replies}
use Rattle.r4_content.specs.Meaning.{course, greatest_size}
use Rattle.r4_content.specs.Objects.{entry_rank, new_file, sized}
use Rattle.r4_content.specs.Seen.{Rises, of_seen}
use Rattle.r4_content.specs.Ways.{to_ends, to_entry, to_file, to_free, to_object, to_parent}
use Rattle.r4_content.specs.declared.command.Command.{Command}
use Rattle.r4_content.specs.declared.command.Command.TheVariants.{Read, Stat, Truncate}
use Rattle.r4_content.specs.declared.reply.Reply.{Reply}
use Rattle.r4_content.proofs.Computed.{changes_listed, reads_listed}
use Rattle.r4_content.proofs.SeenLaws.{content_of, list_commands}
use Rattle.r4_content_rows.specs.Conditions.{SkipsStat, body_name, far_entry, far_object, lost_link_run, own_entry}
use Rattle.r4_content_rows.specs.Conditions.{own_entry_run, root_alone, stat_at_name}

-- ---- stat keys that are not read

read_alone : (limit : ℕ) (c : Command) (s : Pairs) (k : ℕ) → Rises s
    → is_in (asked (course limit c) (of_seen s)) k ≡ true → minor_of (key_of_rank k) ≡ 4
    → is_in (asked (course limit c) (of_seen s)) (stat_rank (object_of (key_of_rank k))) ≡ false
    → SkipsStat limit c (content_of s) k
read_alone limit c s k r here body unread =
    let e = reads_listed limit c s r in
    (inl (ap (λ t. is_in t k) e ∙ here), body, ap (λ t. is_in t (stat_rank (object_of (key_of_rank k)))) e ∙ unread)

changed_alone : (limit : ℕ) (c : Command) (s : Pairs) (k : ℕ) → Rises s
    → is_in (changed (ending (course limit c) (of_seen s)).edits) k ≡ true → minor_of (key_of_rank k) ≡ 4
    → is_in (asked (course limit c) (of_seen s)) (stat_rank (object_of (key_of_rank k))) ≡ false
    → SkipsStat limit c (content_of s) k
changed_alone limit c s k r here body unread = (
  inr (ap (λ t. is_in t k) (changes_listed limit c s r) ∙ here),
  body,
  ap (λ t. is_in t (stat_rank (object_of (key_of_rank k)))) (reads_listed limit c s r) ∙ unread,
)

pub under_body_key : SkipsStat greatest_size (Stat (at body_name)) (from_sorted root_alone)
    (entry_rank root_object body_name)
unfolding content_of rank key_of_rank key_of_name name_fault bad_byte packed r5_from to_ends to_entry to_file to_free
    to_object to_parent
under_body_key = read_alone greatest_size (Stat (at body_name)) root_alone
    (entry_rank root_object body_name) tt refl refl refl

pub far_ordering : SkipsStat greatest_size (Stat (at f)) (from_sorted far_entry) (stat_rank far_object)
unfolding content_of rank key_of_rank key_of_name name_fault bad_byte packed r5_from to_ends to_entry to_file to_free
    to_object to_parent
far_ordering = read_alone greatest_size (Stat (at f)) far_entry (stat_rank far_object) tt refl refl refl

pub far_size : SkipsStat greatest_size (Read (at f) (2 ^ 64) 1)
    (from_sorted (one_entry f (sized new_file (2 ^ 64 + 1)))) (byte_rank (made f 65536) (2 ^ 64))
unfolding content_of rank key_of_rank key_of_name name_fault bad_byte packed r5_from to_ends to_entry to_file to_free
    to_object to_parent
far_size = read_alone greatest_size (Read (at f) (2 ^ 64) 1) (one_entry f (sized new_file (2 ^ 64 + 1)))
    (byte_rank (made f 65536) (2 ^ 64)) tt refl refl refl

pub far_limit : SkipsStat (2 ^ 64 + 1) (Truncate (at f) (2 ^ 64 + 1)) (from_sorted (one_entry f new_file))
    (byte_rank (made f 65536) (2 ^ 64))
unfolding content_of rank key_of_rank key_of_name name_fault bad_byte packed r5_from to_ends to_entry to_file to_free
    to_object to_parent
far_limit = changed_alone (2 ^ 64 + 1) (Truncate (at f) (2 ^ 64 + 1)) (one_entry f new_file)
    (byte_rank (made f 65536) (2 ^ 64)) tt refl refl refl

-- ---- objects that are not found again

pub computed : (limit : ℕ) (s : Pairs) → Rises s → (run : List (Command × Reply))
    → list_replies limit (map (λ d. d.0) run) s ≡ map (λ d. d.1) run → GetReplies limit (content_of s) run
computed limit s r run e = list_commands limit (map (λ d. d.0) run) s r ∙ e

pub lost_link : GetReplies greatest_size (from_sorted stat_at_name) lost_link_run
unfolding content_of rank key_of_name name_fault bad_byte packed r5_from to_ends to_entry to_file to_free to_object
    to_parent
lost_link = computed greatest_size stat_at_name tt lost_link_run refl

pub moved_out : GetReplies greatest_size (from_sorted own_entry) own_entry_run
unfolding content_of rank key_of_name name_fault bad_byte packed r5_from to_ends to_entry to_file to_free to_object
    to_parent
moved_out = computed greatest_size own_entry tt own_entry_run refl
