use Rattle.std.proofs.Common.{◌++◌, ◌∙◌, decimal, refl, Ok, Err}
use Rattle.r4_lines.proofs.Texts.{Adds, same_text, appends_both, appends_stopped}
use Rattle.r4_lines.proofs.lines.write_number.Goals as goal

pub returns-in_err-write : goal.returns-in_err-write
returns-in_err-write g c =
    let failed : Adds (c.args.before.now ++ decimal c.args.number) _ (Err c.in_err-write.field-0.0) _ = appends_stopped c.args.before.now (decimal c.args.number) _ _ _ (Err c.in_err-write.field-0.0) refl c.in_err-write.ensures in
    appends_stopped (c.args.before.now ++ decimal c.args.number) c.args.after.now _ _ _ c.from_residual.result c.from_residual.ensures.0 failed

pub returns-in_err-write-2 : goal.returns-in_err-write-2
returns-in_err-write-2 g c =
    let digits : Adds (decimal c.args.number) _ (Err c.in_err-write-2.field-0.0) _ = same_text _ _ _ _ (Err c.in_err-write-2.field-0.0) (c.as_bytes.ensures.value ∙ c.format.ensures.text) c.in_err-write-2.ensures in
    appends_stopped (c.args.before.now ++ decimal c.args.number) c.args.after.now _ _ _ c.from_residual-in_err-write-2.result c.from_residual-in_err-write-2.ensures.0
    (appends_both c.args.before.now (decimal c.args.number) _ _ _ c.in_ok-write.field-0 (Err c.in_err-write-2.field-0.0) c.in_ok-write.ensures digits)

pub returns : goal.returns
returns g c =
    let digits : Adds (decimal c.args.number) _ (Ok c.in_ok-write-2.field-0) _ = same_text _ _ _ _ (Ok c.in_ok-write-2.field-0) (c.as_bytes.ensures.value ∙ c.format.ensures.text) c.in_ok-write-2.ensures in
    appends_both (c.args.before.now ++ decimal c.args.number) c.args.after.now _ _ _ _ c.write-3.result
    (appends_both c.args.before.now (decimal c.args.number) _ _ _ c.in_ok-write.field-0 (Ok c.in_ok-write-2.field-0) c.in_ok-write.ensures digits) c.write-3.ensures
