use Rattle.std.proofs.Common.{refl}
use Rattle.r4_base.specs.Key.{key_of_rank, rank}
use Rattle.r4_base.specs.Name.{bad_byte, key_of_name, name_fault, packed, r5_from}
use Rattle.r4_content.specs.Ways.{to_file, to_object, to_parent}
use Rattle.r4_reach.proofs.examples.touched_examples.Goals as goal

pub returns : goal.returns
unfolding rank key_of_rank key_of_name name_fault bad_byte packed r5_from to_file to_object to_parent
returns c = record {
  truncate = refl;
  truncate_reads = refl;
  grows_reads = refl;
  turn = refl;
}
