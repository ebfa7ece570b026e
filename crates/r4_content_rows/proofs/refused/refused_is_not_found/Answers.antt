use Rattle.r4_content_rows.proofs.Refusing.{directory_full, file_full, full_numbers, link_refused, rename_idle}
use Rattle.r4_content_rows.proofs.Refusing.{rename_refused, rmdir_refused, tree_lawful}
use Rattle.r4_content_rows.proofs.refused.refused_is_not_found.Goals as goal

pub returns : goal.returns
returns c = record {
  lawful = tree_lawful;
  rmdir = rmdir_refused;
  link = link_refused;
  rename = rename_refused;
  idle = rename_idle;
  most_links = file_full;
  full_directory = directory_full;
  numbers = full_numbers;
}
