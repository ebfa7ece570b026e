use Rattle.std.proofs.Common.{◌++◌, decimal, codes}
use Rattle.r4_lines.proofs.Texts.{appends_both, appends_stopped}
use Rattle.r4_offline.proofs.checking.write_counts.Goals as goal

pub returns-in_err-write_number : goal.returns-in_err-write_number
returns-in_err-write_number g c = appends_stopped (codes "objects " ++ decimal c.args.objects ++ codes " faults ") (decimal c.args.faults ++ codes "\n") _ _ _ c.from_residual.result c.from_residual.ensures.0 c.in_err-write_number.ensures

pub returns : goal.returns
returns g c = appends_both (codes "objects " ++ decimal c.args.objects ++ codes " faults ") (decimal c.args.faults ++ codes "\n") _ _ _ _ c.write_number-2.result c.in_ok-write_number.ensures c.write_number-2.ensures
