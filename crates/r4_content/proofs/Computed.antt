-- Replies, computed on lists.
use Rattle.std.specs.Prelude.{◌≡◌, ℕ, List, [], ◌∷◌, ◌&&◌, count_by, map, if◌then◌else◌}
use Rattle.std.proofs.Common.{refl, ap, sym, ◌∙◌}
use Rattle.std.specs.FinMap.{empty, entries-from_sorted, entries-insert, from_sorted, put, same_entries_map}
use Rattle.std.specs.Ordering.{nat_cmp}
use Rattle.std.proofs.lemmas.Cmp.{nat_cmp_total}
use Rattle.r4_base.proofs.FreshVolume.{none_in_empty}
use Rattle.r4_base.specs.Key.{key_of_rank, rank, least}
use Rattle.r4_base.specs.Name.{bad_byte, key_of_name, name_fault, packed, r5_from}
use Rattle.r4_base.specs.Value.{Stat, Value}
use Rattle.r4_base.specs.Volume.{empty_volume, is_stat_value, objects_in, root_attr, root_object, stat_rank}
use Rattle.r4_content.specs.Edited.{Pairs, changed}
use Rattle.r4_content.specs.Course.{Ending, asked, ending}
use Rattle.r4_content.specs.Counts.{counts, is_okay, stats_in}
use Rattle.r4_content.specs.Examples.{GetCounts, GetReplies, Miscounts, at, counts_run, id, no_bytes, renamed_file, stat_for_entry, under_no_bytes, bytes_run, clash_run, d, f, full_directory_run, links_run, miscounted, miscounted_run, moves_run, no_object, no_object_run, no_root_run, one_entry, sizes_run, ties_run}
use Rattle.r4_content.specs.Listed.{list_after, list_replies}
use Rattle.r4_content.specs.Meaning.{after, changes, course, greatest_size, makes_object, reads, replies}
use Rattle.r4_content.specs.Objects.{new_directory, new_file}
use Rattle.r4_content.specs.Seen.{Rises, of_seen}
use Rattle.r4_content.specs.Ways.{to_ends, to_entry, to_file, to_free, to_object, to_parent}
use Rattle.r4_content.specs.declared.command.Command.{Command}
use Rattle.r4_content.specs.declared.command.Command.TheVariants.{Create}
use Rattle.r4_content.specs.declared.reply.Reply.{Reply}
use Rattle.r4_content.proofs.SeenLaws.{content_of, list_command, list_commands, same_source}

root_alone : Pairs
root_alone = (stat_rank root_object, Stat root_attr) ∷ []

empty_listed : empty_volume ≡ content_of root_alone
unfolding empty_volume content_of root_alone rank least
empty_listed =
    let made = entries-insert nat_cmp_total empty (stat_rank root_object) (Stat root_attr) ∙ ap (put nat_cmp (stat_rank root_object) (Stat root_attr)) none_in_empty in
    same_entries_map _ _ (made ∙ sym (entries-from_sorted nat_cmp root_alone tt))

computed : (limit : ℕ) (s : Pairs) → Rises s → (run : List (Command × Reply)) → list_replies limit (map (λ d. d.0) run) s ≡ map (λ d. d.1) run → GetReplies limit (content_of s) run
computed limit s r run e = list_commands limit (map (λ d. d.0) run) s r ∙ e

on_empty : (limit : ℕ) (run : List (Command × Reply)) → list_replies limit (map (λ d. d.0) run) root_alone ≡ map (λ d. d.1) run → GetReplies limit empty_volume run
unfolding root_alone
on_empty limit run e = ap (replies limit (map (λ d. d.0) run)) empty_listed ∙ computed limit root_alone tt run e

pub clash : GetReplies greatest_size empty_volume clash_run
unfolding root_alone rank key_of_name name_fault bad_byte packed r5_from to_ends to_entry to_file to_free to_object to_parent
clash = on_empty greatest_size clash_run refl

pub ties : GetReplies greatest_size empty_volume ties_run
unfolding root_alone rank key_of_name name_fault bad_byte packed r5_from to_ends to_entry to_file to_free to_object to_parent
ties = on_empty greatest_size ties_run refl

pub bytes : GetReplies greatest_size empty_volume bytes_run
unfolding root_alone rank key_of_name name_fault bad_byte packed r5_from to_ends to_entry to_file to_free to_object to_parent
bytes = on_empty greatest_size bytes_run refl

pub moves : GetReplies greatest_size empty_volume moves_run
unfolding root_alone rank key_of_name name_fault bad_byte packed r5_from to_ends to_entry to_file to_free to_object to_parent
moves = on_empty greatest_size moves_run refl

pub sizes : GetReplies 8 empty_volume sizes_run
unfolding root_alone rank key_of_name name_fault bad_byte packed r5_from to_ends to_entry to_file to_free to_object to_parent
sizes = on_empty 8 sizes_run refl

pub links : GetReplies greatest_size (from_sorted (one_entry f (record new_file { nlink = 65535 }))) links_run
unfolding content_of rank key_of_name name_fault bad_byte packed r5_from to_ends to_entry to_file to_free to_object to_parent
links = computed greatest_size (one_entry f (record new_file { nlink = 65535 })) tt links_run refl

pub more_links : GetReplies greatest_size (from_sorted (one_entry f (record new_file { nlink = 70000 }))) links_run
unfolding content_of rank key_of_name name_fault bad_byte packed r5_from to_ends to_entry to_file to_free to_object to_parent
more_links = computed greatest_size (one_entry f (record new_file { nlink = 70000 })) tt links_run refl

pub full_directory : GetReplies greatest_size (from_sorted (one_entry d (record new_directory { nlink = 65535 }))) full_directory_run
unfolding content_of rank key_of_name name_fault bad_byte packed r5_from to_ends to_entry to_file to_free to_object to_parent
full_directory = computed greatest_size (one_entry d (record new_directory { nlink = 65535 })) tt full_directory_run refl

pub without_object : GetReplies greatest_size (from_sorted no_object) no_object_run
unfolding content_of rank key_of_name name_fault bad_byte packed r5_from to_ends to_entry to_file to_free to_object to_parent
without_object = computed greatest_size no_object tt no_object_run refl

pub without_root : GetReplies greatest_size (from_sorted []) no_root_run
unfolding content_of rank key_of_name name_fault bad_byte packed r5_from to_ends to_entry to_file to_free to_object to_parent
without_root = computed greatest_size [] tt no_root_run refl

pub counted : GetReplies greatest_size (from_sorted miscounted) miscounted_run
unfolding content_of rank key_of_name name_fault bad_byte packed r5_from to_ends to_entry to_file to_free to_object to_parent
counted = computed greatest_size miscounted tt miscounted_run refl

-- ---- which keys are read and changed

pub reads_listed : (limit : ℕ) (c : Command) (s : Pairs) → Rises s → reads limit c (content_of s) ≡ asked (course limit c) (of_seen s)
reads_listed limit c s r = ap (asked (course limit c)) (same_source s r)

pub changes_listed : (limit : ℕ) (c : Command) (s : Pairs) → Rises s → changes limit c (content_of s) ≡ changed (ending (course limit c) (of_seen s)).edits
changes_listed limit c s r = ap (λ t. changed (ending (course limit c) t).edits) (same_source s r)

-- ---- objects born and gone

list_counts : (limit : ℕ) → List Command → Pairs → List (ℕ × ℕ)
list_counts limit [] s = []
list_counts limit (c ∷ cs) s =
    let e = ending (course limit c) (of_seen s) in
    (if makes_object c && is_okay e.reply then 1 else 0, stats_in e.edits.cuts) ∷ list_counts limit cs (list_after limit c s)

counts_listed : (limit : ℕ) (cs : List Command) (s : Pairs) → Rises s → counts limit cs (content_of s) ≡ list_counts limit cs s
unfolding list_counts
counts_listed limit [] s r = refl
counts_listed limit (c ∷ cs) s r =
    let same = ap (ending (course limit c)) (same_source s r) in
    let one = list_command limit c s r in
    let pair : Ending → ℕ × ℕ = λ e. (if makes_object c && is_okay e.reply then 1 else 0, stats_in e.edits.cuts) in
    ap (λ e. pair e ∷ counts limit cs (after limit c (content_of s))) same
    ∙ ap (λ t. pair (ending (course limit c) (of_seen s)) ∷ counts limit cs t) one.0
    ∙ ap (λ x. pair (ending (course limit c) (of_seen s)) ∷ x) (counts_listed limit cs (list_after limit c s) one.2)

pub all_counts : GetCounts greatest_size empty_volume counts_run
unfolding root_alone list_counts rank key_of_rank key_of_name name_fault bad_byte packed r5_from to_ends to_entry to_file to_free to_object to_parent
all_counts = ap (counts greatest_size (map (λ d. d.0) counts_run)) empty_listed ∙ counts_listed greatest_size (map (λ d. d.0) counts_run) root_alone tt

objects_listed : (s : Pairs) → Rises s → objects_in (content_of s) ≡ count_by (λ u. is_stat_value u.1) s
unfolding content_of
objects_listed s r = ap (count_by (λ (u : ℕ × Value). is_stat_value u.1)) (entries-from_sorted nat_cmp s r)

-- one is born, none goes, and there are as many as before
miscounted_in : (c : Command) (s : Pairs) → Rises s → list_counts greatest_size (c ∷ []) s ≡ (1, 0) ∷ [] → count_by (λ u. is_stat_value u.1) (list_after greatest_size c s) ≡ count_by (λ u. is_stat_value u.1) s
    → Miscounts c (content_of s)
miscounted_in c s r pair same =
    let listed = counts_listed greatest_size (c ∷ []) s r ∙ pair in
    let one = list_command greatest_size c s r in (
      ap (λ (ps : List (ℕ × ℕ)). (first_pair ps).0) listed,
      ap (λ (ps : List (ℕ × ℕ)). (first_pair ps).1) listed,
      ap objects_in one.0 ∙ objects_listed (list_after greatest_size c s) one.2 ∙ same ∙ sym (objects_listed s r),
    )
  where
    first_pair : List (ℕ × ℕ) → ℕ × ℕ
    first_pair [] = (0, 0)
    first_pair (p ∷ ps) = p

pub used_id : Miscounts (Create (at f) (id 65536)) (from_sorted renamed_file)
unfolding content_of list_counts rank key_of_rank key_of_name name_fault bad_byte packed r5_from to_ends to_entry to_file to_free to_object to_parent
used_id = miscounted_in (Create (at f) (id 65536)) renamed_file tt refl refl

pub stat_at_entry : Miscounts (Create (at f) (id 65537)) (from_sorted stat_for_entry)
unfolding content_of list_counts rank key_of_rank key_of_name name_fault bad_byte packed r5_from to_ends to_entry to_file to_free to_object to_parent
stat_at_entry = miscounted_in (Create (at f) (id 65537)) stat_for_entry tt refl refl

pub under_stat_key : Miscounts (Create no_bytes (id 65537)) (from_sorted under_no_bytes)
unfolding content_of list_counts rank key_of_rank key_of_name name_fault bad_byte packed r5_from to_ends to_entry to_file to_free to_object to_parent
under_stat_key = miscounted_in (Create no_bytes (id 65537)) under_no_bytes tt refl refl
