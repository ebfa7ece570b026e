use Rattle.r4_sealed.proofs.LostBlocks.{both_ways, lost}
use Rattle.r4_sealed.proofs.lost.lost_blocks_stay.Goals as goal

pub returns : goal.returns
returns g = record {
  commits = λ n work o m c d ok here count frees. lost n work ok o m c here d count frees;
  same = λ n one two o m c d s super store here there b. both_ways c d s super store here there b;
}
