use Rattle.r4_content_rows.proofs.Beyond.{no_bodies}
use Rattle.r4_content_rows.proofs.FileAlone.{lengthened}
use Rattle.r4_content_rows.proofs.conditions.beyond_offsets.Goals as goal

pub returns : goal.returns
returns c = record { before = lengthened; bodies = no_bodies }
