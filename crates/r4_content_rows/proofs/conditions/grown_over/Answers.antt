use Rattle.r4_content_rows.proofs.GrownOver.{one_lost}
use Rattle.r4_content_rows.proofs.TwoFiles.{lengthened_far}
use Rattle.r4_content_rows.proofs.conditions.grown_over.Goals as goal

pub returns : goal.returns
returns c = record { before = lengthened_far; objects = one_lost }
