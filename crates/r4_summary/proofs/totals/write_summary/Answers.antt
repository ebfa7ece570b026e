use Rattle.std.proofs.Common.{◌++◌, decimal, codes}
use Rattle.r4_lines.proofs.Texts.{appends_both, appends_stopped}
use Rattle.r4_summary.specs.Totals.{totals_text}
use Rattle.r4_summary.proofs.totals.write_summary.Goals as goal

pub returns-in_err-write_number : goal.returns-in_err-write_number
returns-in_err-write_number g c = appends_stopped (codes "gen " ++ decimal c.args.seed ++ codes ": objects ") (totals_text c.args.summary.now.objects c.args.summary.now.bytes c.args.summary.now.refused) _ _ _ c.from_residual.result c.from_residual.ensures.0 c.in_err-write_number.ensures

pub returns : goal.returns
returns g c = appends_both (codes "gen " ++ decimal c.args.seed ++ codes ": objects ") (totals_text c.args.summary.now.objects c.args.summary.now.bytes c.args.summary.now.refused) _ _ _ _ c.write_totals.result c.in_ok-write_number.ensures c.write_totals.ensures
