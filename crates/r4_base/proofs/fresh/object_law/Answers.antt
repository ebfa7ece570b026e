use Rattle.r4_base.proofs.SmallImages.{is_dir, no_entries, one_file, same_bytes, two_links}
use Rattle.r4_base.proofs.fresh.object_law.Goals as goal

pub returns : goal.returns
returns c = record {
  directory = λ n to image m super a h has. is_dir n image m super to has h.pointer a h.leaf h.fits;
  links = λ n to image m super a h has. two_links n image m super to has h.pointer a h.leaf h.fits;
  entries = λ n to image m super a h has. no_entries n image m super to has h.pointer a h.leaf h.fits;
  bytes = λ n to image m super a h has. same_bytes n image m super to has h.pointer a h.leaf h.fits;
  files = λ n to image m super a h has. one_file n image m super to has h.pointer a h.leaf h.fits;
}
