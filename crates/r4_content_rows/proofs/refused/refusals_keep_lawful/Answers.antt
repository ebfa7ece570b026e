use Rattle.r4_content_rows.proofs.Refusing.{inside_unlawful, link_unlawful, onto_unlawful, rmdir_unlawful}
use Rattle.r4_content_rows.proofs.Refusing.{taken_unlawful}
use Rattle.r4_content_rows.proofs.refused.refusals_keep_lawful.Goals as goal

pub returns : goal.returns
returns c = record {
  rmdir = rmdir_unlawful;
  link_directory = link_unlawful;
  link_taken = taken_unlawful;
  rename_inside = inside_unlawful;
  rename_onto = onto_unlawful;
}
