use Rattle.r4_content_rows.proofs.MovedPaths.{moved_paths}
use Rattle.r4_content_rows.proofs.names.moved_paths_follow.Goals as goal

pub returns : goal.returns
returns c = moved_paths
