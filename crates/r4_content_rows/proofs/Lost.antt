-- Contents in which something else is found after a command than the laws say, computed on lists.
use Rattle.std.specs.Prelude.{◌^◌, [], ◌∷◌}
use Rattle.std.proofs.Common.{refl}
use Rattle.std.specs.FinMap.{from_sorted}
use Rattle.r4_base.specs.Key.{rank}
use Rattle.r4_base.specs.Name.{bad_byte, key_of_name, name_fault, packed, r5_from}
use Rattle.r4_content.specs.Examples.{GetReplies, at, below, d, f, id}
use Rattle.r4_content.specs.Fields.{HasNumbers, IsUnused}
use Rattle.r4_content.specs.Meaning.{greatest_size}
use Rattle.r4_content.specs.Ways.{to_ends, to_entry, to_file, to_free, to_object, to_parent}
use Rattle.r4_content.proofs.SeenLaws.{content_of}
use Rattle.r4_content_rows.specs.Conditions.{root_alone}
use Rattle.r4_content_rows.specs.Written.{before_root, byte_over_entry, deep, far_below, first_directory, hidden_root}
use Rattle.r4_content_rows.specs.Written.{in_itself, lost_by_create, lost_by_fill, lost_by_link, lost_by_mkdir}
use Rattle.r4_content_rows.specs.Written.{lost_by_rmdir, lost_by_truncate, lost_by_write, low_file, name_of_byte}
use Rattle.r4_content_rows.specs.Written.{name_of_stat, named_as_byte, named_beside, over_root, own_id_run, root_lost}
use Rattle.r4_content_rows.specs.Written.{stat_over_name, used_id_run}
use Rattle.r4_content_rows.proofs.Examples.{computed}
use Rattle.r4_content_rows.proofs.Numbers.{small_numbers}
use Rattle.r4_content_rows.proofs.Runs.{unused_in}

-- ---- numbers past their fields

pub written_over : GetReplies greatest_size (from_sorted byte_over_entry) (lost_by_write (at f))
unfolding content_of rank key_of_name name_fault bad_byte packed r5_from to_ends to_entry to_file to_free to_object
    to_parent
written_over = computed greatest_size byte_over_entry tt (lost_by_write (at f)) refl

pub filled_over : GetReplies greatest_size (from_sorted byte_over_entry) (lost_by_fill (at f))
unfolding content_of rank key_of_name name_fault bad_byte packed r5_from to_ends to_entry to_file to_free to_object
    to_parent
filled_over = computed greatest_size byte_over_entry tt (lost_by_fill (at f)) refl

pub grown_over_entry : GetReplies greatest_size (from_sorted byte_over_entry) (lost_by_truncate (at f) 1)
unfolding content_of rank key_of_name name_fault bad_byte packed r5_from to_ends to_entry to_file to_free to_object
    to_parent
grown_over_entry = computed greatest_size byte_over_entry tt (lost_by_truncate (at f) 1) refl

pub cut_through : GetReplies greatest_size (from_sorted (deep (2 ^ 196))) (lost_by_truncate (below d f) 0)
unfolding content_of rank key_of_name name_fault bad_byte packed r5_from to_ends to_entry to_file to_free to_object
    to_parent
cut_through = computed greatest_size (deep (2 ^ 196)) tt (lost_by_truncate (below d f) 0) refl

pub gone_with_root : GetReplies greatest_size (from_sorted (before_root over_root 1)) root_lost
unfolding content_of rank key_of_name name_fault bad_byte packed r5_from to_ends to_entry to_file to_free to_object
    to_parent
gone_with_root = computed greatest_size (before_root over_root 1) tt root_lost refl

pub gone_through_root : GetReplies greatest_size (from_sorted (before_root low_file (2 ^ 196))) root_lost
unfolding content_of rank key_of_name name_fault bad_byte packed r5_from to_ends to_entry to_file to_free to_object
    to_parent
gone_through_root = computed greatest_size (before_root low_file (2 ^ 196)) tt root_lost refl

pub created_over : GetReplies greatest_size (from_sorted stat_over_name) (lost_by_create far_below)
unfolding content_of rank key_of_name name_fault bad_byte packed r5_from to_ends to_entry to_file to_free to_object
    to_parent
created_over = computed greatest_size stat_over_name tt (lost_by_create far_below) refl

pub directory_over : GetReplies greatest_size (from_sorted stat_over_name) (lost_by_mkdir far_below)
unfolding content_of rank key_of_name name_fault bad_byte packed r5_from to_ends to_entry to_file to_free to_object
    to_parent
directory_over = computed greatest_size stat_over_name tt (lost_by_mkdir far_below) refl

pub new_over : IsUnused (from_sorted stat_over_name) (id 65537)
unfolding content_of rank key_of_name packed
new_over = unused_in 65537 stat_over_name tt tt

-- ---- names that are no lists of bytes

pub written_name : GetReplies greatest_size (from_sorted named_as_byte) (lost_by_write (at name_of_byte))
unfolding content_of rank key_of_name name_fault bad_byte packed r5_from to_ends to_entry to_file to_free to_object
    to_parent
written_name = computed greatest_size named_as_byte tt (lost_by_write (at name_of_byte)) refl

pub filled_name : GetReplies greatest_size (from_sorted named_as_byte) (lost_by_fill (at name_of_byte))
unfolding content_of rank key_of_name name_fault bad_byte packed r5_from to_ends to_entry to_file to_free to_object
    to_parent
filled_name = computed greatest_size named_as_byte tt (lost_by_fill (at name_of_byte)) refl

pub grown_name : GetReplies greatest_size (from_sorted named_as_byte) (lost_by_truncate (at name_of_byte) 1)
unfolding content_of rank key_of_name name_fault bad_byte packed r5_from to_ends to_entry to_file to_free to_object
    to_parent
grown_name = computed greatest_size named_as_byte tt (lost_by_truncate (at name_of_byte) 1) refl

pub created_name : GetReplies greatest_size (from_sorted first_directory) (lost_by_create (d ∷ name_of_stat ∷ []))
unfolding content_of rank key_of_name name_fault bad_byte packed r5_from to_ends to_entry to_file to_free to_object
    to_parent
created_name = computed greatest_size first_directory tt (lost_by_create (d ∷ name_of_stat ∷ [])) refl

pub directory_name : GetReplies greatest_size (from_sorted first_directory) (lost_by_mkdir (d ∷ name_of_stat ∷ []))
unfolding content_of rank key_of_name name_fault bad_byte packed r5_from to_ends to_entry to_file to_free to_object
    to_parent
directory_name = computed greatest_size first_directory tt (lost_by_mkdir (d ∷ name_of_stat ∷ [])) refl

pub byte_numbers : HasNumbers (from_sorted named_as_byte)
unfolding content_of rank key_of_name packed
byte_numbers = small_numbers named_as_byte tt tt

pub first_numbers : HasNumbers (from_sorted first_directory)
unfolding content_of rank key_of_name packed
first_numbers = small_numbers first_directory tt tt

pub new_first : IsUnused (from_sorted first_directory) (id 65537)
unfolding content_of rank key_of_name packed
new_first = unused_in 65537 first_directory tt tt

-- ---- ids in use

pub own_id : GetReplies greatest_size (from_sorted in_itself) own_id_run
unfolding content_of rank key_of_name name_fault bad_byte packed r5_from to_ends to_entry to_file to_free to_object
    to_parent
own_id = computed greatest_size in_itself tt own_id_run refl

pub own_id_numbers : HasNumbers (from_sorted in_itself)
unfolding content_of rank key_of_name packed
own_id_numbers = small_numbers in_itself tt tt

pub used_on_the_way : GetReplies greatest_size (from_sorted root_alone) used_id_run
unfolding content_of rank key_of_name name_fault bad_byte packed r5_from to_ends to_entry to_file to_free to_object
    to_parent
used_on_the_way = computed greatest_size root_alone tt used_id_run refl

pub deep_numbers : HasNumbers (from_sorted (deep 0))
unfolding content_of rank key_of_name packed
deep_numbers = small_numbers (deep 0) tt tt

-- ---- further names, and directories that go

pub lost_link : GetReplies greatest_size (from_sorted named_beside) lost_by_link
unfolding content_of rank key_of_name name_fault bad_byte packed r5_from to_ends to_entry to_file to_free to_object
    to_parent
lost_link = computed greatest_size named_beside tt lost_by_link refl

pub beside_numbers : HasNumbers (from_sorted named_beside)
unfolding content_of rank key_of_name packed
beside_numbers = small_numbers named_beside tt tt

pub lost_root : GetReplies greatest_size (from_sorted hidden_root) lost_by_rmdir
unfolding content_of rank key_of_name name_fault bad_byte packed r5_from to_ends to_entry to_file to_free to_object
    to_parent
lost_root = computed greatest_size hidden_root tt lost_by_rmdir refl
