use Rattle.r4_sets_rows.proofs.NeedsBodies.{stats_needed}
use Rattle.r4_sets_rows.proofs.needed.stat_data_are_read_with_bytes.Goals as goal

pub returns : goal.returns
returns c = record { stats = stats_needed }
