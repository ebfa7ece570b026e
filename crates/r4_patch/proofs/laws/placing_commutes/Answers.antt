use Rattle.r4_patch.proofs.Sets.{place_commutes, root_commutes, meets_after}
use Rattle.r4_patch.proofs.laws.placing_commutes.Goals as goal

pub returns : goal.returns
returns c = record {
  cells = place_commutes;
  root = root_commutes;
  second = meets_after;
}
