use Rattle.r4_patch.proofs.Followed.{followed_cells, followed_change, followed_meets, followed_root, followed_same}
use Rattle.r4_patch.proofs.follow_laws.followed_change.Goals as goal

pub returns : goal.returns
returns c = record {
  change = followed_change;
  meets = followed_meets;
  patch = followed_same;
  cells = followed_cells;
  root = followed_root;
}
