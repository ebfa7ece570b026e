use Rattle.r4_sealed.proofs.Kept.{by_part}
use Rattle.r4_sealed.proofs.contents.blocks_are_kept.Goals as goal

pub returns : goal.returns
returns g = λ n work o m c d ok here i image whole by. by_part n work ok o c here m d i image whole by
