use Rattle.r4_content_rows.proofs.Lost.{created_over, cut_through, directory_over, filled_over, gone_through_root}
use Rattle.r4_content_rows.proofs.Lost.{gone_with_root, grown_over_entry, new_over, written_over}
use Rattle.r4_content_rows.proofs.written.numbers_past_fields.Goals as goal

pub returns : goal.returns
returns c = record {
  write = written_over;
  fill = filled_over;
  truncate = grown_over_entry;
  truncate_size = cut_through;
  unlink = gone_with_root;
  unlink_size = gone_through_root;
  create = created_over;
  mkdir = directory_over;
  unused = new_over;
}
