use Rattle.r4_content_rows.proofs.Attributes.{chmod_found, chown_found, times_found}
use Rattle.r4_content_rows.proofs.Linking.{link_found}
use Rattle.r4_content_rows.proofs.Removing.{rmdir_found}
use Rattle.r4_content_rows.proofs.Unlinking.{unlink_found}
use Rattle.r4_content_rows.proofs.fewer.fewer_conditions_suffice.Goals as goal

pub returns : goal.returns
returns c = record {
  chmod = chmod_found;
  chown = chown_found;
  times = times_found;
  link = link_found;
  rmdir = rmdir_found;
  unlink = unlink_found;
}
