use Rattle.r4_patch.proofs.PatchesFollow.{follow_meets, follow_patch}
use Rattle.r4_patch.proofs.Joined.{place_joined, root_joined}
use Rattle.r4_patch.proofs.follow_laws.changes_follow.Goals as goal

pub returns : goal.returns
returns c = record {
  patch = λ p q t root f. follow_patch p q t root f.part f.one_is f.one_meets f.two_is f.two_meets;
  meets = λ p q t root f. follow_meets p q t root f.part f.one_is f.one_meets f.two_is f.two_meets;
  cells = λ p q t root m. place_joined p q t root m.meets;
  root = root_joined;
}
