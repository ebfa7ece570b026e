use Rattle.r4_content_rows.proofs.Exchanged.{alone_is_lawful, alone_unused, bodies_lost, f_of_bytes}
use Rattle.r4_content_rows.proofs.Exchanged.{objects_lost, renamed_lawful}
use Rattle.r4_content_rows.proofs.premises.lawful_contents_do_not_stay.Goals as goal

pub returns : goal.returns
returns c = record {
  names = bodies_lost;
  ids = objects_lost;
  before = (alone_is_lawful, alone_unused);
  before_too = (renamed_lawful, f_of_bytes);
}
