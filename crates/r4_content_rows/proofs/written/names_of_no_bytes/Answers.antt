use Rattle.r4_content_rows.proofs.Lost.{byte_numbers, created_name, directory_name, filled_name, first_numbers}
use Rattle.r4_content_rows.proofs.Lost.{grown_name, new_first, written_name}
use Rattle.r4_content_rows.proofs.written.names_of_no_bytes.Goals as goal

pub returns : goal.returns
returns c = record {
  write = written_name;
  fill = filled_name;
  truncate = grown_name;
  create = created_name;
  mkdir = directory_name;
  numbers = (byte_numbers, first_numbers);
  unused = new_first;
}
