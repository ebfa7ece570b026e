use Rattle.r4_base.proofs.SmallImages.{below_count, is_leaf, marked, not_fixed, not_itself, not_refused}
use Rattle.r4_base.proofs.fresh.pointer_law.Goals as goal

pub returns : goal.returns
returns c = record {
  itself = λ n to image m super h has. not_itself n image m super to has h;
  past = λ n to image m super h has. below_count n image m super to has h;
  fixed = λ n to image m super h has. not_fixed n image m super to has h;
  unmarked = λ n to image m super h has. marked n image m super to has h;
  refused = λ n to image m super h has. not_refused n image m super to has h;
  leaf = λ n to image m super h has. is_leaf n image m super to has h;
}
