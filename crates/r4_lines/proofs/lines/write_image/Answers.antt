use Rattle.std.proofs.Common.{◌++◌, decimal, codes}
use Rattle.r4_lines.proofs.Texts.{appends_both, appends_stopped}
use Rattle.r4_lines.proofs.lines.write_image.Goals as goal

pub returns-in_err-write_number : goal.returns-in_err-write_number
returns-in_err-write_number g c = appends_stopped (codes "image: block " ++ decimal c.args.block.0 ++ codes ": ") (c.args.what.now ++ codes "\n") _ _ _ c.from_residual.result c.from_residual.ensures.0 c.in_err-write_number.ensures

pub returns : goal.returns
returns g c = appends_both (codes "image: block " ++ decimal c.args.block.0 ++ codes ": ") (c.args.what.now ++ codes "\n") _ _ _ _ c.write_what.result c.in_ok-write_number.ensures c.write_what.ensures
