use Rattle.std.proofs.Common.{◌++◌, decimal, codes}
use Rattle.r4_lines.proofs.Texts.{appends_both, appends_stopped}
use Rattle.r4_lines.proofs.lines.write_made.Goals as goal

pub returns-in_err-write_number : goal.returns-in_err-write_number
returns-in_err-write_number g c = appends_stopped (codes "made " ++ decimal c.args.blocks ++ codes " blocks ") (decimal c.args.free ++ codes " free\n") _ _ _ c.from_residual.result c.from_residual.ensures.0 c.in_err-write_number.ensures

pub returns : goal.returns
returns g c = appends_both (codes "made " ++ decimal c.args.blocks ++ codes " blocks ") (decimal c.args.free ++ codes " free\n") _ _ _ _ c.write_number-2.result c.in_ok-write_number.ensures c.write_number-2.ensures
