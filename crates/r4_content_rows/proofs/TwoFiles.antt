-- Two files, one of them in a directory, are lawful: they are made by commands.
use Rattle.std.specs.Prelude.{◌^◌, List, [], ◌∷◌}
use Rattle.std.proofs.Common.{arith}
use Rattle.std.specs.FinMap.{from_sorted}
use Rattle.r4_base.specs.Key.{rank}
use Rattle.r4_base.specs.Name.{bad_byte, key_of_name, name_fault, packed, r5_from}
use Rattle.r4_content.specs.Examples.{at, below, d, f, id, x}
use Rattle.r4_content.specs.Lawful.{IsLawful}
use Rattle.r4_content.specs.Meaning.{greatest_size}
use Rattle.r4_content.specs.Ways.{to_ends, to_entry, to_file, to_free, to_object, to_parent}
use Rattle.r4_content.specs.declared.command.Command.{Command}
use Rattle.r4_content.specs.declared.command.Command.TheVariants.{Create, Mkdir, Truncate}
use Rattle.r4_content.proofs.SeenLaws.{content_of}
use Rattle.r4_content_rows.specs.Conditions.{MayBeDone, two_files}
use Rattle.r4_content_rows.proofs.Runs.{run_lawful}
use Rattle.r4_content_rows.proofs.FileAlone.{f_is_bytes, higher}

abbrev making : List Command
making = Create (at f) (id 65536) ∷ Mkdir (at d) (id 43) ∷ Create (below d x) (id 65537) ∷ []

two_lawful : IsLawful greatest_size (content_of two_files)
unfolding rank key_of_name name_fault bad_byte packed r5_from to_ends to_entry to_file to_free to_object to_parent
two_lawful = run_lawful making (omega arith) tt

pub lengthened_far : MayBeDone (2 ^ 196) (Truncate (at f) (2 ^ 196)) (from_sorted two_files)
unfolding content_of
lengthened_far = (higher greatest_size (2 ^ 196) (content_of two_files) (omega arith) two_lawful, f_is_bytes, tt)
