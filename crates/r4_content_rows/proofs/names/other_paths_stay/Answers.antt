use Rattle.r4_content_rows.proofs.OtherPaths.{paths_stay}
use Rattle.r4_content_rows.proofs.names.other_paths_stay.Goals as goal

pub returns : goal.returns
returns c = paths_stay
