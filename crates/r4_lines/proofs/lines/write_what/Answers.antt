use Rattle.std.proofs.Common.{codes, Ok, Err}
use Rattle.r4_lines.proofs.Texts.{Adds, same_text, appends_both, appends_stopped}
use Rattle.r4_lines.proofs.lines.write_what.Goals as goal

pub returns-in_err-write : goal.returns-in_err-write
returns-in_err-write g c =
    let words : Adds c.args.what.now _ (Err c.in_err-write.field-0.0) _ = same_text _ _ _ _ (Err c.in_err-write.field-0.0) c.as_bytes.ensures.value c.in_err-write.ensures in
    appends_stopped c.args.what.now (codes "\n") _ _ _ c.from_residual.result c.from_residual.ensures.0 words

pub returns : goal.returns
returns g c =
    let words : Adds c.args.what.now _ (Ok c.in_ok-write.field-0) _ = same_text _ _ _ _ (Ok c.in_ok-write.field-0) c.as_bytes.ensures.value c.in_ok-write.ensures in
    appends_both c.args.what.now (codes "\n") _ _ _ _ c.write-2.result words c.write-2.ensures
