use Rattle.r4_sealed.proofs.Kept.{needed}
use Rattle.r4_sealed.proofs.contents.needed_blocks_are_spoken_for.Goals as goal

pub returns : goal.returns
returns g = λ n work m c log whole ok here. needed n work ok m c here log whole
