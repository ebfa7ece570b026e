use Rattle.r4_path.proofs.GraftLaw.{graft_change, graft_meets, twig_graft}
use Rattle.r4_edit.proofs.graft_laws.grafts_are_patches.Goals as goal

pub returns : goal.returns
returns c = record {
  twig = twig_graft;
  change = λ t r twig ups qs b blocks f after d c' graft has. graft_change t r twig ups qs b blocks f after d graft c' has;
  meets = λ t r twig ups qs b blocks f after d c' graft has. graft_meets t r twig ups qs b blocks f after d graft c' has;
}
