use Rattle.r4_content_rows.proofs.Examples.{far_limit, far_ordering, far_size, under_body_key}
use Rattle.r4_content_rows.proofs.FileAlone.{alone_numbers, f_is_bytes, file_numbers}
use Rattle.r4_content_rows.proofs.conditions.unasked_stats.Goals as goal

pub returns : goal.returns
returns c = record {
  no_bytes = under_body_key;
  ordering = far_ordering;
  size = far_size;
  limit = far_limit;
  others =
      (alone_numbers, file_numbers, f_is_bytes);
}
