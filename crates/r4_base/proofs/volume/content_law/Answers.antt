use Rattle.r4_base.proofs.Images.{one_content}
use Rattle.r4_base.proofs.Spare.{same_content, same_store, same_super}
use Rattle.r4_base.proofs.Visible.{in_cell, below_size, whole_file}
use Rattle.r4_base.proofs.volume.content_law.Goals as goal

pub returns : goal.returns
returns c = record {
  one = one_content;
  keys = in_cell;
  within = below_size;
  whole = whole_file;
  made = λ n image other m c same.
      (same_content n image other m c same, same_super n image other m c same, same_store n image other m c same);
}
