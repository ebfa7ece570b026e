use Rattle.r4_content.proofs.Computed.{bytes, clash, moves, sizes, ties}
use Rattle.r4_content.proofs.examples.empty_volume_examples.Goals as goal

pub returns : goal.returns
returns c = record { clash = clash; ties = ties; bytes = bytes; moves = moves; sizes = sizes }
