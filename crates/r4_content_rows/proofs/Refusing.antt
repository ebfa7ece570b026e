-- Commands that are refused in a small tree, and what their edits would make of it.
use Rattle.std.specs.Prelude.{◌≡◌, ◌≢◌, ◌<◌, ℕ, List, [], ◌∷◌, true, T, count_by, Some}
use Rattle.std.proofs.Common.{arith, lit<, refl, sym, ap, subst, ◌∙◌}
use Rattle.std.proofs.lemmas.List.Elements.{All-cons, All-nil}
use Rattle.std.specs.FinMap.{entries, entries-from_sorted, find, from_sorted}
use Rattle.std.specs.Ordering.{nat_cmp}
use Rattle.r4_base.specs.Key.{key_of_rank, rank}
use Rattle.r4_base.specs.Name.{bad_byte, dir_of_key, key_of_name, name_fault, packed, r5_from}
use Rattle.r4_base.specs.Value.{Entry, Stat, Value}
use Rattle.r4_base.specs.Volume.{HasObjects, HasStat, IsObject, is_directory, names_object, root_object, stat_rank}
use Rattle.r4_base.specs.declared.items.Attr.{Attr}
use Rattle.r4_base.specs.declared.items.Target.{Target}
use Rattle.r4_content.specs.Edited.{Edits, Pairs, edited}
use Rattle.r4_content.specs.Entries.{linked, moved, moved_onto, name_in, unname_in}
use Rattle.r4_content.specs.Examples.{GetReplies, a, at, below, d, e, f, id, links_run, made, one_entry, x}
use Rattle.r4_content.specs.Fields.{HasNumbers}
use Rattle.r4_content.specs.Lawful.{IsLawful}
use Rattle.r4_content.specs.Listed.{list_edited}
use Rattle.r4_content.specs.Meaning.{greatest_size}
use Rattle.r4_content.specs.Objects.{entry_more, entry_rank, link_more, new_directory, new_file, sized}
use Rattle.r4_content.specs.Seen.{Rises}
use Rattle.r4_content.specs.Ways.{to_ends, to_entry, to_file, to_free, to_object, to_parent}
use Rattle.r4_content.specs.declared.command.Command.{Command}
use Rattle.r4_content.specs.declared.command.Command.TheVariants.{Create, Link, Mkdir}
use Rattle.r4_content.proofs.Losing.{not_in_itself}
use Rattle.r4_content.proofs.SeenLaws.{at_content, content_of, edited_list}
use Rattle.r4_content.proofs.Shapes.{entry_dir}
use Rattle.r4_content_rows.specs.Refused.{Unlawful, d_there, e_there, f_there, full_rename, idle_rename, inner_file}
use Rattle.r4_content_rows.specs.Refused.{refused_link, refused_rename, refused_rmdir, root_there, small_tree}
use Rattle.r4_content_rows.proofs.Examples.{computed}
use Rattle.r4_content_rows.proofs.Numbers.{small_numbers}
use Rattle.r4_content_rows.proofs.Runs.{are_others, run_lawful, unused_in}

-- ---- what is found

abbrev growing : List Command
growing = Mkdir (at d) (id 65536) ∷ Create (below d x) (id 65537) ∷ Mkdir (at e) (id 65538) ∷ Create (at f)
    (id 65539) ∷ Link (at f) (at a) ∷ []

pub tree_lawful : IsLawful greatest_size (from_sorted small_tree)
unfolding content_of rank key_of_name name_fault bad_byte packed r5_from to_ends to_entry to_file to_free to_object
    to_parent
tree_lawful = run_lawful growing (omega arith) tt

pub rmdir_refused : GetReplies greatest_size (from_sorted small_tree) refused_rmdir
unfolding content_of rank key_of_name name_fault bad_byte packed r5_from to_ends to_entry to_file to_free to_object
    to_parent
rmdir_refused = computed greatest_size small_tree tt refused_rmdir refl

pub link_refused : GetReplies greatest_size (from_sorted small_tree) refused_link
unfolding content_of rank key_of_name name_fault bad_byte packed r5_from to_ends to_entry to_file to_free to_object
    to_parent
link_refused = computed greatest_size small_tree tt refused_link refl

pub rename_refused : GetReplies greatest_size (from_sorted small_tree) refused_rename
unfolding content_of rank key_of_name name_fault bad_byte packed r5_from to_ends to_entry to_file to_free to_object
    to_parent
rename_refused = computed greatest_size small_tree tt refused_rename refl

pub rename_idle : GetReplies greatest_size (from_sorted small_tree) idle_rename
unfolding content_of rank key_of_name name_fault bad_byte packed r5_from to_ends to_entry to_file to_free to_object
    to_parent
rename_idle = computed greatest_size small_tree tt idle_rename refl

pub file_full : GetReplies greatest_size (from_sorted (one_entry f (record new_file { nlink = 65535 }))) links_run
unfolding content_of rank key_of_name name_fault bad_byte packed r5_from to_ends to_entry to_file to_free to_object
    to_parent
file_full = computed greatest_size (one_entry f (record new_file { nlink = 65535 })) tt links_run refl

pub directory_full : GetReplies greatest_size (from_sorted (one_entry d (record new_directory { nlink = 65535 })))
    full_rename
unfolding content_of rank key_of_name name_fault bad_byte packed r5_from to_ends to_entry to_file to_free to_object
    to_parent
directory_full = computed greatest_size (one_entry d (record new_directory { nlink = 65535 })) tt full_rename refl

pub full_numbers : HasNumbers (from_sorted (one_entry f (record new_file { nlink = 65535 })))
unfolding content_of rank key_of_name packed
full_numbers = small_numbers (one_entry f (record new_file { nlink = 65535 })) tt tt

-- ---- what the edits would make

abbrev made_of : Edits → Pairs
made_of edits = list_edited edits small_tree

tree_rises : Rises small_tree
unfolding rank key_of_name packed
tree_rises = tt

as_list : (edits : Edits) → HasObjects (edited edits (from_sorted small_tree)) → HasObjects (content_of (made_of edits))
unfolding content_of
as_list edits h = subst HasObjects (edited_list edits small_tree tree_rises).0 h

made_rises : (edits : Edits) → Rises (made_of edits)
made_rises edits = (edited_list edits small_tree tree_rises).1

-- what is asked of an object d, and of the key of a name in it
d_object : IsObject (made d 65536)
unfolding key_of_name packed
d_object = (lit< tt, lit< tt, lit< tt)

in_d : (n : ℕ) → n < 256 → dir_of_key (key_of_rank (entry_rank (made d 65536) (n ∷ []))) ≡ 65536
in_d n lt = (entry_dir (made d 65536) (n ∷ []) (lit< tt) (All-cons (λ y. y < 256) n [] lt (All-nil (λ y. y < 256)))).0

same_id : (p : Target) → 65536 ≡ p.oid.0 → p.oid ≡ id 65536
same_id p e i = record { 0 = sym e i }

-- the file in d stays, and d is gone
lost_holder : (edits : Edits) → find nat_cmp (entry_rank (made d 65536) x) (made_of edits) ≡ Some (Entry x inner_file)
    → T (are_others 65536 (made_of edits)) → Unlawful edits
lost_holder edits there gone h =
    let at = at_content (made_of edits) (entry_rank (made d 65536) x) (made_rises edits) ∙ there in
    let (p, b, stat, is, in_p) = (as_list edits h).holder (entry_rank (made d 65536) x) x inner_file at in
    unused_in 65536 (made_of edits) (made_rises edits) gone p b stat (same_id p (sym (in_d 120 (lit< tt)) ∙ in_p))

d_stat : (edits : Edits) (b : Attr) → find nat_cmp (stat_rank (made d 65536)) (made_of edits) ≡ Some (Stat b)
    → HasStat (content_of (made_of edits)) (made d 65536) b
d_stat edits b there = (d_object, at_content (made_of edits) (stat_rank (made d 65536)) (made_rises edits) ∙ there)

no_root : made d 65536 ≢ root_object
no_root e = let same = ap (λ (t : Target). t.oid.0) e in absurd (omega (arith, same))

entries_listed : (edits : Edits) → entries (content_of (made_of edits)) ≡ made_of edits
unfolding content_of
entries_listed edits = entries-from_sorted nat_cmp (made_of edits) (made_rises edits)

-- the directory d is named by another number of entries than one
not_once : (edits : Edits) (b : Attr) (n : ℕ) → find nat_cmp (stat_rank (made d 65536)) (made_of edits) ≡ Some
    (Stat b) → is_directory b ≡ true → count_by (λ u. names_object (made d 65536) u.1) (made_of edits) ≡ n
    → (n ≡ 1 → ⊥) → Unlawful edits
not_once edits b n there is named not_one h =
    let once = (as_list edits h).named_once (made d 65536) b (d_stat edits b there) is no_root in
    let listed = entries_listed edits in
    not_one (sym named ∙ ap (count_by (λ (u : ℕ × Value). names_object (made d 65536) u.1)) (sym listed) ∙ once)

-- the directory d stands in itself
in_itself : (edits : Edits) (b : Attr) → find nat_cmp (stat_rank (made d 65536)) (made_of edits) ≡ Some (Stat b)
    → is_directory b ≡ true → find nat_cmp (entry_rank (made d 65536) e) (made_of edits) ≡ Some
    (Entry e (made d 65536)) → Unlawful edits
in_itself edits b there is named h =
    let lawful = as_list edits h in
    let stat = d_stat edits b there in
    let at = at_content (made_of edits) (entry_rank (made d 65536) e) (made_rises edits) ∙ named in
    let (steps, reached) = lawful.reached (made d 65536) b stat in
    not_in_itself (content_of (made_of edits)) lawful steps (made d 65536) b
    (entry_rank (made d 65536) e) e stat is at (in_d 101 (lit< tt)) reached

pub rmdir_unlawful : Unlawful (unname_in root_there d d_there)
unfolding rank key_of_name packed
rmdir_unlawful = lost_holder (unname_in root_there d d_there) refl tt

pub link_unlawful : Unlawful (name_in root_there x (linked d_there))
unfolding rank key_of_name packed
link_unlawful = not_once (name_in root_there x (linked d_there)) (link_more (sized new_directory 1)) 2 refl refl refl
    (λ e. cc)

pub taken_unlawful : Unlawful (name_in root_there d (linked f_there))
unfolding rank key_of_name packed
taken_unlawful = not_once (name_in root_there d (linked f_there)) (sized new_directory 1) 0 refl refl refl (λ e. cc)

pub inside_unlawful : Unlawful (moved root_there d d_there d_there e)
unfolding rank key_of_name packed
inside_unlawful = in_itself (moved root_there d d_there d_there e) (entry_more true (sized new_directory 1)) refl refl
    refl

pub onto_unlawful : Unlawful (moved_onto root_there e e_there root_there d d_there)
unfolding rank key_of_name packed
onto_unlawful = lost_holder (moved_onto root_there e e_there root_there d d_there) refl tt
