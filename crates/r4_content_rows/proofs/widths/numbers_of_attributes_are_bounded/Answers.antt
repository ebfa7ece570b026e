use Rattle.r4_content_rows.proofs.Fields.{atime_passes, ctime_passes, files_fit, gid_passes, mtime_passes, uid_passes}
use Rattle.r4_content_rows.proofs.widths.numbers_of_attributes_are_bounded.Goals as goal

pub returns : goal.returns
returns c = record {
  before = files_fit;
  uid = uid_passes;
  gid = gid_passes;
  atime = atime_passes;
  mtime = mtime_passes;
  ctime = ctime_passes;
}
