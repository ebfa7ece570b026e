use Rattle.std.specs.Prelude.{codes}
use Rattle.r4_base.specs.Key.{rank}
use Rattle.r4_base.specs.Name.{bad_byte, key_of_name, name_fault, packed, r5_from}
use Rattle.r4_content.specs.Examples.{a, at, f, id, three_bytes}
use Rattle.r4_content.specs.Meaning.{greatest_size}
use Rattle.r4_content.specs.Ways.{to_ends, to_entry, to_file, to_free, to_object, to_parent}
use Rattle.r4_content.specs.declared.command.Command.TheVariants.{Create, Read, Rename, Truncate, Unlink, Write}
use Rattle.r4_content.proofs.Computed.{changes_listed, reads_listed}
use Rattle.r4_content.proofs.SeenLaws.{content_of}
use Rattle.r4_content.proofs.examples.touched_examples.Goals as goal

pub returns : goal.returns
unfolding content_of rank key_of_name name_fault bad_byte packed r5_from to_ends to_entry to_file to_free to_object to_parent
returns c = record {
  write_reads = reads_listed greatest_size (Write (at f) 0 (codes "XY")) three_bytes tt;
  write_changes = changes_listed greatest_size (Write (at f) 0 (codes "XY")) three_bytes tt;
  read_reads = reads_listed greatest_size (Read (at f) 1 9) three_bytes tt;
  far_read_reads = reads_listed greatest_size (Read (at f) 3 9) three_bytes tt;
  read_changes = changes_listed greatest_size (Read (at f) 1 9) three_bytes tt;
  truncate_changes = changes_listed greatest_size (Truncate (at f) 1) three_bytes tt;
  unlink_changes = changes_listed greatest_size (Unlink (at f)) three_bytes tt;
  exists_reads = reads_listed greatest_size (Create (at f) (id 65537)) three_bytes tt;
  rename_changes = changes_listed greatest_size (Rename (at f) (at a)) three_bytes tt;
}
