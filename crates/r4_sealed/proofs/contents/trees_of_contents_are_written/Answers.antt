use Rattle.r4_sealed.proofs.Coming.{are_written, new_tree}
use Rattle.r4_sealed.proofs.contents.trees_of_contents_are_written.Goals as goal

pub returns : goal.returns
returns g = record {
  written = λ n work t m c here from. are_written n work m c here t from;
  tree = λ n work t o m c ok w renews is. new_tree n work ok t w o m c renews is;
}
