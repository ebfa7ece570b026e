-- The replies to the commands that are counted, computed on a list.
use Rattle.std.specs.Prelude.{◌≡◌, map}
use Rattle.std.proofs.Common.{ap, sym, ◌∙◌}
use Rattle.std.proofs.lemmas.Cmp.{nat_cmp_total}
use Rattle.std.specs.FinMap.{empty, entries-from_sorted, entries-insert, put, same_entries_map}
use Rattle.std.specs.Ordering.{nat_cmp}
use Rattle.r4_base.proofs.FreshVolume.{none_in_empty}
use Rattle.r4_base.specs.Key.{least, rank}
use Rattle.r4_base.specs.Name.{bad_byte, key_of_name, name_fault, packed, r5_from}
use Rattle.r4_base.specs.Value.{Stat}
use Rattle.r4_base.specs.Volume.{empty_volume, root_attr, root_object, stat_rank}
use Rattle.r4_content.specs.Examples.{counts_run}
use Rattle.r4_content.specs.Meaning.{greatest_size, replies}
use Rattle.r4_content.specs.Ways.{to_ends, to_entry, to_file, to_free, to_object, to_parent}
use Rattle.r4_content.proofs.SeenLaws.{content_of, list_commands}
use Rattle.r4_content_rows.specs.Conditions.{root_alone}
use Rattle.r4_content_rows.specs.Counted.{counted_replies}

empty_listed : empty_volume ≡ content_of root_alone
unfolding empty_volume content_of rank least
empty_listed =
    let made = entries-insert nat_cmp_total empty (stat_rank root_object) (Stat root_attr)
    ∙ ap (put nat_cmp (stat_rank root_object) (Stat root_attr)) none_in_empty in
    same_entries_map _ _ (made ∙ sym (entries-from_sorted nat_cmp root_alone tt))

pub counted : replies greatest_size (map (λ d. d.0) counts_run) empty_volume ≡ counted_replies
unfolding rank key_of_name name_fault bad_byte packed r5_from to_ends to_entry to_file to_free to_object to_parent
counted = ap (replies greatest_size (map (λ d. d.0) counts_run)) empty_listed
    ∙ list_commands greatest_size (map (λ d. d.0) counts_run) root_alone tt
